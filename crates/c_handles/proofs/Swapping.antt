-- A handle is a pointer that owns a box or is null. `swap` exchanges its pointer for that of a
-- `Held`, with what they own. Assumes `Logic`.
use Rattle.c_handles.proofs.Names.{◌≡◌, refl, sym, ap, subst, List, [], ◌∷◌, ◌++◌, ℕ, SProp, ent, emp, id⊢}
use Rattle.c_handles.proofs.Names.{ftrue, flft, full_share, Val, vptr, WpFn, ‵, raw, ◌⊛◌, ◌$◌, ◌∵◌, !, qed, by, keep, move}
use Rattle.c_handles.proofs.Names.{use0, drop, split, join, fsplit, fsplit3, fjoin, fjoin3, feq_i, rewrite, suffices, agg, sub}
use Rattle.c_handles.proofs.Names.{whole, look_in, store_in, enter, stop, fld, load, of_opd, and_then, no_more, assigns, returns}
use Rattle.c_handles.proofs.Names.{alloc_all, pass_all, free_all, look_at, get, get_in, through, sets, fact, fact_i, tables}
use Rattle.c_handles.proofs.Names.{owns, plain, types_at, nothing, opens, closes, peeks, shows, Ura, Logic, sem, Fn}
use Rattle.c_handles.proofs.Names.{cell_at, Stays, stay_dropped, stay_ref, walk_of, Goes-dropped, Goes-ref, Ptr-Good, leaves}
use Rattle.c_handles.proofs.Names.{proved_at, RattleType, RawPtr, Ptr, Option, holds}
use Rattle.c_handles.proofs.Parts.{Holder, Pointer, fields-made, held_in, held_out, word, word-good}
use contract.Running.{Running}
use denote.Builtin.{RefMutOf}
use denote.Exit.{hidden, under, yes}
use denote.Param.Send.{IsSend, owning_send, sendable, struct_send}
use denote.Memory.{lone, pointee}
use denote.Struct.Field.{RawPtr-field}
use denote.Struct.Laws.{RawPtr-laws}
use denote.Struct.Owning.{Owning, fields, row, shape, to}
use denote.Struct.OwningLaws.{Tells-lowered}
use denote.Struct.Struct.{exits_of}
use Rattle.std_alloc.proofs.SendSync.{quiet}
use Rattle.c_handles.proofs.Crossing.{holds-keyless}
use denote.Triple.Clauses.{Clauses, Ended, closing}
use denote.Triple.Spec.{Meets}
use mir.Syntax.{Callee, aggregate, assign, copy, deref, field, local, mut, named, Place, place, return, rv_opd, seq, ty_ptr, ty_ref, value_local}
use prog.Model.{Model}
use prog.Wp.{Closed}
use Rattle.c_handles.specs.contracts.seated.SeatedCell as SeatedCell
use Rattle.c_handles.specs.contracts.cell_handle.CellHandle as CellHandle
use Rattle.c_handles.specs.contracts.lone.LoneNode as LoneNode
use Rattle.c_handles.specs.contracts.nodes.NodeHandle as NodeHandle
use Rattle.c_handles.specs.contracts.space.SeatedSpace as SeatedSpace
use Rattle.c_handles.specs.contracts.space_handle.SpaceHandle as SpaceHandle
use Rattle.c_handles.specs.contracts.watching.SeatedWatch as SeatedWatch
use Rattle.c_handles.specs.contracts.watch_handle.WatchHandle as WatchHandle

-- A handle is a struct with a pointer, and with what it holds as a ghost.
pub record Handle (T : RattleType) : Type 2 where
  pub of : Owning
  pub at : of.D → Ptr
  pub held : of.D → Option T.Denot
  pub make : Ptr → Option T.Denot → of.D
  pub at_is : (p : Ptr) (x : Option T.Denot) → p ≡ at (make p x)
  pub held_is : (p : Ptr) (x : Option T.Denot) → x ≡ held (make p x)

module _ (T : RattleType) (N : Handle T) where
  abbrev type : Owning
  type = record N.of {
    args = [];
    types = [];
    parts = RawPtr-field ∷ [];
    as_values = λ d. (N.at d, tt);
    heap = λ d. holds T (N.at d) (N.held d);
    exit = λ k. hidden (under (λ d. (N.at d, tt)) (exits_of k (RawPtr ∷ [])));
  }

  -- it may go to another thread, with what it holds
  pub sends : IsSend T → IsSend (row type)
  sends inside =
      let pointer : IsSend RawPtr = search sendable in
      owning_send type (pointer, tt) (λ d. holds-keyless T inside (N.at d) (N.held d))
      (λ k. quiet (to type) (exits_of k (fields type))
      ((struct_send (shape type) (pointer, tt)).leaving k))

  abbrev R : RattleType
  R = row type

  abbrev ended : Ended
  ended = record {
    signature = record {
      lifetimes = 1;
      outlives = [];
      params = RefMutOf (0 ∷ []) tt (plain (λ _. R)) (λ _. tt) ∷ plain (λ _. Holder T) ∷ [];
      result = plain (λ _. Holder T);
    };
    kept = (yes, (yes, tt));
  }

  abbrev function : Fn
  function =
      let there = place 1 (deref (lone R.mir) ∷ field 0 ∷ []) in
      let held = local (lone (Holder T).mir) value_local in
      let pointer = local ty_ptr value_local in
      let self = local (ty_ref (named 0) mut (pointee R.written)) value_local in
      let set = λ (to from : Place). assign to (rv_opd (copy from)) in
      let var = λ (n : ℕ). place n [] in record {
        lifetimes = 1;
        outlives = [];
        ty_params = [];
        givens = 0;
        params = 2;
        locals = held ∷ self ∷ held ∷ pointer ∷ pointer ∷ pointer ∷ pointer ∷ [];
        body = seq (set (var 3) (place 2 (field 0 ∷ []))) (seq (set (var 4) there)
            (seq (set (var 5) (var 3)) (seq (set there (var 5)) (seq (set (var 6) (var 4))
            (seq (assign (var 0) (aggregate (copy (var 6) ∷ []))) return)))));
      }

  module _ {M : Type 1} (𝓤 : Ura M) (𝓛 : Logic 𝓤) where
    abbrev clauses : Clauses 𝓤 ended
    clauses = λ κs args. record {
      ghost = Unit {0};
      requires = λ g. sem 𝓛 ftrue;
      ensures = λ g result end. fact 𝓤
          ((N.held end.0.now ≡ args.1.0.value) × (result.value ≡ N.held args.0.now));
    }

    pub swapped : (𝓜 : Model 𝓤 𝓛.H) (𝓡 : Running 𝓤 𝓛.H 𝓜) (k : Callee)
        → Closed 𝓤 𝓛.H (tables 𝓤 𝓛.H 𝓜 𝓡 𝓡.env).C (tables 𝓤 𝓛.H 𝓜 𝓡 𝓡.env).Λ k function
        → Meets 𝓛 ended.signature ((tables 𝓤 𝓛.H 𝓜 𝓡 𝓡.env).C k) (closing 𝓛 ended clauses)
    swapped 𝓜 𝓡 k closed =
        let H = 𝓛.H in let 𝓣 = tables 𝓤 H 𝓜 𝓡 𝓡.env in let En = ended in let c = clauses in
        let fn = function in let hs : Stays En.signature.params En.kept =
        (stay_ref (0 ∷ []) tt (plain (λ _. R)), (stay_dropped (plain (λ _. Holder T)) yes, tt)) in
        proved_at 𝓛 En hs c 𝓜 𝓡 (
          Goes-ref 𝓛 1 0 tt (plain (λ _. R)),
          (Goes-dropped 𝓛 1 (plain (λ _. Holder T)) yes (λ κs x f. refl), tt),
        )
        k fn closed (λ z are.
        let κ = z.0.0.0 in let q = z.0.1.0 in let a = z.0.3 in let vss = z.0.4 in
        let rb : ℕ = a.0.ref_ptr.0 in let ro : ℕ = a.0.ref_ptr.1 in
        let h : R.Denot = a.0.now in let given : (Holder T).Denot = a.1.0 in
        let after : R.Denot = N.make given.at given.value in
        let r : (Holder T).Denot = record { at = N.at h; value = N.held h } in
        let Post : Val → SProp 𝓤 = (walk_of 𝓛 En hs c).post z in
        let Run : List Val → SProp 𝓤 = λ ws. WpFn 𝓤 H 𝓣.C 𝓣.Λ fn ws Post in
        let Cell = λ (ws : List Val). ‵ (cell_at full_share R.mir ws rb ro) in
        let us : List Val = vptr rb ro ∷ word given.at ∷ [] in
        let Says : Type 0 = (N.held after ≡ given.value) × (r.value ≡ N.held h) in
        let at_is = N.at_is given.at given.value in
        let held_is = N.held_is given.at given.value in
        qed 𝓛 (((‵ (flft κ q) ⊛ ‵ ftrue) ⊛ ‵ (owns (types_at En.signature.params z.0.0) a vss)) ∷ ‵
        ftrue ∷ []) ∵
        split ! $ split ! $ move ! (2 ∷ []) $ fsplit ! $ fsplit3 ! $ drop ! $ move ! (2 ∷ []) $
        fsplit ! $
        held_out T ! given vss.1.0 (λ ew. keep ! (0 ∷ 2 ∷ 3 ∷ 4 ∷ []) $
        suffices ! (Run us) (subst (λ (ws : List Val). ent 𝓤 (Run us) (Run ws)) (sym (λ i. are.0.0 i
        ++ (ew i ++ []))) (id⊢ 𝓤 (Run us))) $
        enter ! 𝓣.C 𝓣.Λ fn us Post $ alloc_all ! (λ l.
        pass_all ! refl ((tt, tt), (word-good T given.at, tt)) $
        move ! (1 ∷ 2 ∷ 3 ∷ []) $ opens ! tt R rb ro (λ ms. move ! (1 ∷ []) $
        peeks ! R _ (shows 𝓛 R) h ms (λ is. fsplit ! $ drop ! $
        rewrite ! 1 Cell (Tells-lowered type (RawPtr-laws, tt) h ms is) refl $
        -- [what the handle held; its cell; the open borrow, in three entries; what it gets]
        sets ! (of_opd ! (get_in ! (fld ! refl (stop !)) (sub ! 0 refl (whole !)))) refl (Ptr-Good
        given.at) $
        sets ! (of_opd ! (load ! (through ! refl (fld ! refl (stop !))) (look_in ! 1 (sub ! 0 refl
        (whole !))))) refl (Ptr-Good (N.at h)) $
        sets ! (of_opd ! (get ! refl)) refl (Ptr-Good given.at) $
        assigns ! (of_opd ! (get ! refl)) (through ! refl (fld ! refl (stop !))) (store_in ! 1 (sub !
        0 refl (whole !)) (Ptr-Good given.at)) $
        sets ! (of_opd ! (get ! refl)) refl (Ptr-Good (N.at h)) $
        sets ! (agg ! (and_then ! (get ! refl) (no_more !))) refl (word-good T (N.at h)) $
        move ! (5 ∷ []) $
        rewrite ! 0 (λ (x : Option T.Denot). ‵ (holds T given.at x)) held_is refl $
        rewrite ! 0 (λ (p : Ptr). ‵ (holds T p (N.held after))) at_is refl $
        use0 𝓛 (‵ (Pointer.own_val (N.at after, tt) (word (N.at after) ∷ [])))
        (fields-made 𝓛 (N.at after)) $ fjoin ! $
        rewrite ! 2 Cell (ap (λ (p : Ptr). word p ∷ []) at_is) refl $
        move ! (2 ∷ 0 ∷ 3 ∷ 4 ∷ 5 ∷ []) $ closes ! tt R after (word (N.at after) ∷ []) rb ro $
        returns ! (look_at ! 0 refl) $ free_all ! refl $
        use0 𝓛 (raw (fact 𝓤 Says)) (fact_i 𝓤 Says (emp 𝓤) (sym held_is, refl)) $
        move ! (4 ∷ []) $ held_in T ! (N.at h) (N.held h) $
        move ! (4 ∷ []) $ nothing ! $ move ! (1 ∷ 0 ∷ []) $ join ! $ move ! (3 ∷ 4 ∷ []) $
        feq_i ! (List Val) vss.0 (vptr rb ro ∷ []) are.0.0 $ fjoin3 ! $ nothing ! $ nothing ! $
        fjoin ! $ move ! (1 ∷ 0 ∷ []) $ fjoin ! $ move ! (1 ∷ 0 ∷ 2 ∷ 3 ∷ []) $
        by ! (leaves 𝓛 En hs c z (word (N.at h)) r (after, (tt, tt)) (tt, (tt, tt))))))))

-- The four handles.
abbrev pub cell : Handle SeatedCell.the_row
cell = record {
  of = CellHandle.the_type;
  at = λ d. d.at;
  held = λ d. d.held;
  make = λ p x. record { at = p; held = x };
  at_is = λ p x. refl;
  held_is = λ p x. refl;
}

abbrev pub node : Handle LoneNode.the_row
node = record {
  of = NodeHandle.the_type;
  at = λ d. d.at;
  held = λ d. d.held;
  make = λ p x. record { at = p; held = x };
  at_is = λ p x. refl;
  held_is = λ p x. refl;
}

abbrev pub space : Handle SeatedSpace.the_row
space = record {
  of = SpaceHandle.the_type;
  at = λ d. d.at;
  held = λ d. d.held;
  make = λ p x. record { at = p; held = x };
  at_is = λ p x. refl;
  held_is = λ p x. refl;
}

abbrev pub watch : Handle SeatedWatch.the_row
watch = record {
  of = WatchHandle.the_type;
  at = λ d. d.at;
  held = λ d. d.held;
  make = λ p x. record { at = p; held = x };
  at_is = λ p x. refl;
  held_is = λ p x. refl;
}
