-- `reserve` asks for a block, all of which is room, and keeps the right to give it back. Assumes
-- `Logic`.
use Rattle.arena.proofs.Names.{◌≡◌, refl, sym, ap, subst, List, [], ◌∷◌, ◌++◌, ℕ, ◌+◌, ◌*◌}
use Rattle.arena.proofs.Names.{◌<◌, ◌^◌, arith, length, Lft, Share, ftrue, froom, flft}
use Rattle.arena.proofs.Names.{ent, sep, id⊢, SProp, Fn, w64, ty_array, inst_fn, Val}
use Rattle.arena.proofs.Names.{vptr, vint, vstruct, vcons, vnil, WpFn, Env, sem, Logic, ‵, raw, ◌⊛◌}
use Rattle.arena.proofs.Names.{at_ret, ◌$◌, ◌∵◌, !, qed, by, move, keep, drop, use0, use1, use2}
use Rattle.arena.proofs.Names.{split, join, rewrite, fsplit, fjoin, feq_i, flt_i, suffices, done}
use Rattle.arena.proofs.Names.{whole, enter, stop, fld, bin, of_opd, first, exec, returns}
use Rattle.arena.proofs.Names.{alloc_all, pass_all, free_all, look_at, get, sets, sets_last, env}
use Rattle.arena.proofs.Names.{fact, fact_i, tables, ◌⊑◌, usize, yes, RattleType}
use Rattle.arena.proofs.Names.{owns, Ptr, block_ptr, plain, types_at, nothing, heard, Stays}
use Rattle.arena.proofs.Names.{walk_of, stay_dropped, Goes-dropped, El, R, elτ, sz, proved_at}
use Rattle.arena.proofs.Names.{leaves}
use base.Fml.{Incl-trans}
use base.Logic.{emp}
use seplogic.Ra.Ura.{Ura}
use lib.Dec.{lit<}
use mathlib.Core.Bool.{true, false}
use mir.Syntax.{Body}
use prog.Capped.{capped_fits}
use prog.Memory.{align, capped}
use prog.Wp.{Wp, after_seq, at_return}
use types.ByLocal.{get_in, get_tag, is, lands_as}
use types.Kit.{Post as After, mean, any_q, later, await, fpack}
use types.Match.{live, vrt, in_variant}
use types.Part.{agg}
use types.Run.{and_then, no_more, lit, size_word, align_word, switches_on}
use denote.Builtin.{RefOf}
use denote.Laws.{Is}
use denote.Param.{layout}
use denote.RattleType.{Valss}
use denote.Shadow.{makes_shadow}
use denote.Steps.{owned}
use denote.Struct.Declared as Declared
use denote.Struct.Owning.{shape}
use denote.Struct.Struct.{Struct, Struct-Makes, within}
use denote.Struct.Tuple.{Tuple, tuple_type}
use denote.Triple.Call.{calls_at}
use denote.Triple.Table.{framed}
use Rattle.core.proofs.alloc.Calls.{Al, Answer-typed, Takes, at_takes, Answered, Takes-goes}
use Rattle.core.proofs.alloc.Calls.{Takes-gives, answers}
use Rattle.core.proofs.mem.Param as Param
use Rattle.core.proofs.slots.Leases.{uncapped, block_ty, block_size, block_align, args, P}
use Rattle.core.specs.contracts.alloc.AllocError as AE
use Rattle.core.specs.contracts.result.Result as RS
use Rattle.std.specs.Prelude.{Ok, Err, IfOk}
use Rattle.std.specs.Vec.Ownership.{FitsInBlock}
use Rattle.std_alloc.proofs.RawLayout.{as_raw}
use Rattle.std_alloc.proofs.RcSteps.{first_Good, Good}
use Rattle.std_alloc.proofs.ResultValues.{ok_of, err_of}
use Rattle.std_alloc.proofs.VecSteps.Shapes.{after, head, arm_body}
use Rattle.arena.specs.Block.{room_of}
use Rattle.arena.proofs.Opens.{B, Fields, owner}
use Rattle.arena.proofs.Places.{first-place}
use Rattle.arena.specs.contracts.block.Title as title
use Rattle.arena.specs.contracts.block.reserve as F
use Rattle.arena.specs.contracts.block.reserve.Key.{name as #self}
use Rattle.arena.proofs.block.reserve.Statement.{statement}
use Rattle.arena.proofs.block.reserve.Code as code

abbrev mark : Val
mark = vstruct (vcons (vstruct vnil) vnil)

abbrev pair : Val → Val → Val
pair u v = vstruct (vcons u (vcons v vnil))

module _ {M : Type 1} {𝓤 : Ura M} (𝓛 : Logic 𝓤) where
  -- nothing is owned of a pointer, nor of a mark
  pointer-made : (E : El) (b o : ℕ)
      → ent 𝓤 (emp 𝓤) (sem 𝓛 ((Fields E).own_val (block_ptr b o, tt) (owner E b o ∷ [])))
  pointer-made E b o =
      makes_shadow 𝓛 ((Fields E).own_val (block_ptr b o, tt) (owner E b o ∷ []))
      (λ vss. (tt, (tt, tt))) ((vptr b o ∷ [], tt), (refl, (refl, tt)))

  mark-made : (N : Param.El) (Z : Al)
      → let Mark = Struct (shape (title.the_type (Param.R N) (P N Z) Z.g)) in
      ent 𝓤 (emp 𝓤) (sem 𝓛 (Mark.own_val (tt, tt) (mark ∷ [])))
  mark-made N Z = let Mark = Struct (shape (title.the_type (Param.R N) (P N Z) Z.g)) in
      makes_shadow 𝓛 (Mark.own_val (tt, tt) (mark ∷ [])) (λ vss. (tt, ((λ uss. (tt, tt)), tt)))
      ((vstruct vnil ∷ [], tt), (refl, ((tt, (refl, tt)), tt)))

  pair-made : (Q S : RattleType) (x : Q.Denot) (y : S.Denot) (u v : Val)
      → ent 𝓤 (sep 𝓤 (sem 𝓛 (Q.own_val x (u ∷ []))) (sem 𝓛 (S.own_val y (v ∷ []))))
      (sem 𝓛 ((Tuple (Q ∷ S ∷ [])).own_val (x, y) (pair u v ∷ [])))
  pair-made Q S x y u v =
      qed 𝓛 (‵ (Q.own_val x (u ∷ [])) ∷ ‵ (S.own_val y (v ∷ [])) ∷ []) ∵ nothing ! $
      move ! (2 ∷ 0 ∷ []) $ fjoin ! $ move ! (1 ∷ 0 ∷ []) $ fjoin ! $
      feq_i ! (List Val) (pair u v ∷ []) (pair u v ∷ []) refl $ fjoin ! $
      fpack ! (Valss (Q ∷ S ∷ []))
      (within (Declared.shape (tuple_type (Q ∷ S ∷ []))) (x, (y, tt)) (pair u v ∷ []))
      (u ∷ [], (v ∷ [], tt)) $ done !

pub reserve_spec : {M : Type 1} → statement M
reserve_spec 𝓤 𝓛 𝓜 𝓡 wired T W L LW g d dd met md =
    let H = 𝓛.H in let 𝓣 = tables 𝓤 H 𝓜 𝓡 𝓡.env in let E : El = record { row = T; laws = L } in
    let N : Param.El = record { row = T; laws = L } in
    let Z : Al = record { row = W; laws = LW; g = g; d = d; drops = dd } in
    let D : RattleType = title.the_row (R E) (P N Z) g in
    let Both : RattleType = Tuple (B E ∷ D ∷ []) in
    let Out : RattleType = RS.the_row Both AE.the_row in
    let Ed = F.ended T W g d dd in let c = F.clauses T W g d dd 𝓛 𝓜.mem 𝓡.returns in
    let inst = args N Z in let fn : Fn = inst_fn inst code.function in
    let hs : Stays Ed.signature.params Ed.kept = (
      stay_dropped (RefOf (0 ∷ []) tt (plain (λ _. P N Z)) (λ _. tt)) yes,
      (stay_dropped (plain (λ _. usize)) yes, tt),
    ) in
    proved_at 𝓛 Ed hs c 𝓜 𝓡 (
      Goes-dropped 𝓛 3 (RefOf (0 ∷ []) tt (plain (λ _. P N Z)) (λ _. tt)) yes (λ κs x f. refl),
      (Goes-dropped 𝓛 3 (plain (λ _. usize)) yes (λ κs x f. refl), tt),
    )
    (#self inst) fn (code.unfolded 𝓤 H 𝓜 𝓡 wired (T, (W, tt)) d dd) (λ z are.
    let κs = z.0.0 in let κ : Lft = κs.0 in let q : Share = z.0.1.0 in let a = z.0.3 in
    let vss = z.0.4 in
    let rb : ℕ = a.0.ref_ptr.0 in let ro : ℕ = a.0.ref_ptr.1 in let alloc : W.Denot = a.0.now in
    let places : ℕ = a.1.0 in let s : ℕ = sz E in
    let Asks : Type 0 = FitsInBlock (R E) places in
    let Gives : Out.Denot
    → Type 0 = λ r. IfOk r
    (λ t. (t.0.emptied ≡ 0) × (t.0.values ≡ []) × (t.0.unused ≡ places) ×
    (t.1.start ≡ t.0.start) × (t.1.places ≡ places) × (t.1.owner ≡ alloc)) in
    let Post : Val → SProp 𝓤 = (walk_of 𝓛 Ed hs c).post z in
    let Run : List Val → SProp 𝓤 = λ ws. WpFn 𝓤 H 𝓣.C 𝓣.Λ fn ws Post in
    let us : List Val = vptr rb ro ∷ vint w64 places ∷ [] in
    let tokens = ‵ (flft κs.1.0 z.0.1.1.0) ⊛ ‵ (flft κs.1.1.0 z.0.1.1.1.0) ⊛ ‵ ftrue in
    let ends : (r : Out.Denot) (v : Val) → Gives r
    → ent 𝓤 (sep 𝓤 (sem 𝓛 (Out.own_val r (v ∷ []))) (sep 𝓤 (𝓛.A.lft κ q) (mean 𝓛 tokens)))
    (Post v) = λ r v gives.
    qed 𝓛 (‵ (Out.own_val r (v ∷ [])) ∷ ‵ (flft κ q) ∷ tokens ∷ []) ∵ move ! (1 ∷ 2 ∷ []) $ join ! $
    use0 𝓛 (raw (fact 𝓤 (Gives r))) (fact_i 𝓤 (Gives r) (emp 𝓤) gives) $ nothing ! $ nothing ! $
    fjoin ! $ nothing ! $ fjoin ! $ move ! (2 ∷ 0 ∷ 3 ∷ 1 ∷ []) $
    by ! (leaves 𝓛 Ed hs c z v r (tt, (tt, tt)) (tt, (tt, tt))) in
    qed 𝓛 (((‵ (flft κ q) ⊛ tokens) ⊛ ‵ (owns (types_at Ed.signature.params κs) a vss))
    ∷ raw (fact 𝓤 (κs.1.0 ⊑ T.lives)) ∷ raw (fact 𝓤 (κs.1.1.0 ⊑ W.lives)) ∷ raw (fact 𝓤 Asks)
    ∷ []) ∵
    move ! (1 ∷ 2 ∷ 3 ∷ []) $
    heard ! (κs.1.0 ⊑ T.lives)
    (λ le. heard ! (κs.1.1.0 ⊑ W.lives) (λ outlives. heard ! Asks (λ asked.
    let small : places * s < 2 ^ 63 = asked.0 in let bytes : places * s < 2 ^ 64 = omega arith in
    let al : ℕ = capped (align (elτ E)) in
    let y : (Takes Z 𝓛 𝓜.mem 𝓡.returns).Ghost =
    at_takes Z 𝓛 𝓜.mem 𝓡.returns κ q (rb, ro) alloc (places * s) al (block_ty N places) in
    split ! $ split ! $ move ! (2 ∷ []) $ fsplit ! $ fsplit ! $ drop ! $ keep ! (0 ∷ 2 ∷ 3 ∷ []) $
    suffices ! (Run us) (subst (λ (ws : List Val). ent 𝓤 (Run us) (Run ws))
    (sym (λ i. are.0.0 i ++ (are.1.0.0 i ++ []))) (id⊢ 𝓤 (Run us))) $
    enter ! 𝓣.C 𝓣.Λ fn us Post $
    alloc_all ! (λ l. pass_all ! refl ((tt, tt), ((tt, record { fits = are.1.0.1 }), tt)) $
    let En : Env 𝓤 H = env fn.locals l in let arms : Body = head (after 2 fn.body) in
    let Then : After 𝓤 H =
    any_q (after_seq 𝓤 H (Wp 𝓤 H 𝓣.C 𝓣.Λ En (after 3 fn.body) (at_return 𝓤 H En Post))
    (at_return 𝓤 H En Post)) in
    sets ! (is ! (bin ! (get ! refl) (size_word !)
    (record { fits = subst (λ (j : ℕ). j < 2 ^ 64) (sym (uncapped places s bytes)) bytes }))
    (ap (vint w64) (uncapped places s bytes))) refl (tt, record { fits = bytes }) $
    use2 𝓛 (raw ((Takes Z 𝓛 𝓜.mem 𝓡.returns).pre y))
    (Takes-goes Z 𝓛 𝓜.mem 𝓡.returns κ q (rb, ro) alloc (Incl-trans z.0.2.0 outlives) (places * s) al
    (block_ty N places) (block_size N places bytes) (block_align N places) bytes
    (capped_fits (align (elτ E)))) $
    calls_at ! (framed 𝓤 H 𝓜 𝓣) (Takes Z 𝓛 𝓜.mem 𝓡.returns) (met.allocate dd) y
    (and_then ! (get ! refl) (and_then ! (get ! refl) (and_then ! (align_word !) (no_more !))))
    (λ v.
    use1 𝓛 (later (raw (Answered Z 𝓛 𝓜.mem 𝓡.returns alloc (block_ty N places) v) ⊛ ‵ (flft κ q)))
    (Takes-gives Z 𝓛 𝓜.mem 𝓡.returns κ q (rb, ro) alloc (places * s) al (block_ty N places) v) $
    await ! tt $ split ! $
    answers Z ! 𝓜.mem 𝓡.returns alloc (block_ty N places) v
    (λ b o e.
    let p : Ptr = block_ptr b o in
    let held : (B E).Denot = record { start = p; emptied = 0; values = []; unused = places } in
    let deed : D.Denot = record { mark = record {}; start = p; places = places; owner = alloc } in
    let made : Val = pair (owner E b o) mark in
    let typed : Good (layout Both) made = (tt, ((tt, tt), ((tt, tt), tt))) in
    let ok = first_Good (layout Both) made typed in
    lands_as ! e refl (Answer-typed true b o) $ first ! $
    switches_on ! (get_tag ! (vrt ! refl (fld ! refl (stop !))) (whole !)) $
    exec ! 𝓣.C 𝓣.Λ En (arm_body 0 arms) Then $
    sets ! (of_opd ! (get_in ! (vrt ! refl (fld ! refl (stop !)))
    (in_variant ! 0 0 refl refl (whole !)))) refl (tt, tt) $
    sets ! (of_opd ! (get ! refl)) refl (tt, tt) $
    sets ! (agg ! (and_then ! (get ! refl) (no_more !))) refl (tt, (tt, tt)) $
    sets ! (of_opd ! (get ! refl)) refl (tt, (tt, tt)) $
    sets ! (agg ! (no_more !)) refl (tt, tt) $
    sets ! (agg ! (and_then ! (get ! refl) (no_more !))) refl (tt, (tt, tt)) $
    sets ! (agg ! (and_then ! (get ! refl) (and_then ! (get ! refl) (no_more !)))) refl typed $
    sets_last ! (agg ! (and_then ! (lit ! tt) (and_then ! (get ! refl) (no_more !)))) refl ok $
    exec ! 𝓣.C 𝓣.Λ En (after 3 fn.body) (at_ret En Post) $ sets ! (of_opd ! (get ! refl)) refl ok $
    rewrite ! 0 (λ (j : ℕ). ‵ (room_of (R E) places b j)) (sym (first-place s o)) refl $
    use0 𝓛 (‵ (froom (ty_array (elτ E) 0) b o)) (𝓛.laws.room_nil (elτ E) b o) $
    as_raw ! (ty_array (elτ E) 0) b o $ fjoin ! $ nothing ! $ fjoin ! $
    flt_i ! ((0 + length held.values + places) * s) (2 ^ 63)
    (subst (λ (j : ℕ). j * s < 2 ^ 63) {y = 0 + length held.values + places}
    (omega arith) small) $ fjoin ! $
    use0 𝓛 (‵ ((Fields E).own_val (p, tt) (owner E b o ∷ []))) (pointer-made 𝓛 E b o) $ fjoin ! $
    move ! (1 ∷ []) $
    use0 𝓛 (‵ ((Struct (shape (title.the_type (R E) (P N Z) g))).own_val (tt, tt) (mark ∷ [])))
    (mark-made 𝓛 N Z) $ fjoin ! $ move ! (1 ∷ 0 ∷ []) $
    use2 𝓛 (‵ (Both.own_val (held, deed) (made ∷ [])))
    (pair-made 𝓛 (B E) D held deed (owner E b o) mark) $
    use1 𝓛 (‵ (Out.own_val (Ok (held, deed)) (live 0 (vcons made vnil) ∷ [])))
    (ok_of 𝓛 Both AE.the_row (held, deed) made) $
    returns ! (look_at ! 0 refl) $ free_all ! refl $ keep ! (0 ∷ 1 ∷ 2 ∷ []) $
    by ! (ends (Ok (held, deed)) (live 0 (vcons made vnil)) (refl, refl, refl, refl, refl, refl)))
    (λ e.
    let Refusal : RattleType = Struct (Declared.shape AE.the_type) in
    let none : Val = live 1 (vcons (vstruct vnil) vnil) in
    lands_as ! e refl (Answer-typed false 0 0) $ first ! $
    switches_on ! (get_tag ! (vrt ! refl (fld ! refl (stop !))) (whole !)) $
    exec ! 𝓣.C 𝓣.Λ En (arm_body 1 arms) Then $
    sets ! (of_opd ! (get_in ! (vrt ! refl (fld ! refl (stop !)))
    (in_variant ! 1 0 refl refl (whole !)))) refl (tt, tt) $
    sets_last ! (agg ! (and_then ! (lit ! tt) (and_then ! (get ! refl) (no_more !)))) refl
    (tt, (record { fits = lit< tt }, (tt, tt))) $
    exec ! 𝓣.C 𝓣.Λ En (after 3 fn.body) (at_ret En Post) $
    sets ! (of_opd ! (get ! refl)) refl (tt, (record { fits = lit< tt }, (tt, tt))) $
    owned ! Refusal (Is Refusal) (Struct-Makes 𝓛 (Declared.shape AE.the_type) tt) tt
    (vstruct vnil ∷ []) (tt, (refl, tt)) $
    use1 𝓛 (‵ (Out.own_val (Err (record {})) (none ∷ [])))
    (err_of 𝓛 Both AE.the_row (record {}) (vstruct vnil)) $
    returns ! (look_at ! 0 refl) $ free_all ! refl $ keep ! (0 ∷ 1 ∷ 2 ∷ []) $
    by ! (ends (Err (record {})) none tt))))))))
