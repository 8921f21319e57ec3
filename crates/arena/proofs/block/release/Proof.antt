-- `release` makes one block of the places, and gives it back with the title. Assumes `Logic`.
use Rattle.arena.proofs.Names.{◌≡◌, refl, sym, ap, subst, ◌∙◌, List, [], ◌∷◌, ◌++◌, ℕ, ◌+◌, ◌*◌}
use Rattle.arena.proofs.Names.{◌<◌, ◌^◌, arith, length, Lft, Share, ftrue, flft}
use Rattle.arena.proofs.Names.{ent, id⊢, never, SProp, Fn, w64, inst_fn, Val}
use Rattle.arena.proofs.Names.{vptr, vint, vunit, vstruct, vcons, vnil, WpFn, ‵, raw, ◌⊛◌}
use Rattle.arena.proofs.Names.{given, at_ret, ◌$◌, ◌∵◌, !, qed, by, move, keep, drop, use1}
use Rattle.arena.proofs.Names.{use2, split, join, rewrite, fsplit, fjoin, feq_i, flt_l, learn}
use Rattle.arena.proofs.Names.{suffices, whole, sub, enter, stop, fld, bin, of_opd, unit_lit}
use Rattle.arena.proofs.Names.{first, blocks, exec, returns, alloc_all, pass_all, free_all, look_at}
use Rattle.arena.proofs.Names.{get, sets, env, fact, tables, ◌⊑◌, usize, yes, no}
use Rattle.arena.proofs.Names.{RattleType, owns, Ptr, in_a_block, plain, types_at}
use Rattle.arena.proofs.Names.{nothing, heard, Stays, walk_of, stay_dropped, Goes-dropped, El, R}
use Rattle.arena.proofs.Names.{elτ, sz, proved_at, leaves}
use base.Fml.{Incl-trans}
use lib.Dec.{T as Sure}
use mir.Syntax.{ty_unit}
use mir.Val.{has_ty, WT}
use prog.Capped.{capped_fits}
use prog.Memory.{align, capped}
use types.ByLocal.{get_in, is, lands_last}
use types.Kit.{later, await, group}
use types.Run.{and_then, no_more, size_word, align_word}
use denote.Builtin.{RefOf}
use denote.Param.Laws.{param_laws}
use denote.Triple.Call.{calls_at_last}
use denote.Triple.Table.{framed}
use Rattle.core.proofs.alloc.Calls.{Al, token, Gives, at_gives, Gives-goes, Gives-Gives, Goes-blank}
use Rattle.core.proofs.mem.Param as Param
use Rattle.core.proofs.slots.Leases.{uncapped, block_ty, block_size, block_align, args, P}
use Rattle.std_alloc.proofs.VecSteps.Shapes.{after}
use Rattle.arena.specs.Block.{room_of, block_owns, title_owns}
use Rattle.arena.proofs.Opens.{B, owner}
use Rattle.arena.proofs.Places.{room-whole}
use Rattle.arena.proofs.block.Block.TheLaws as block
use Rattle.arena.proofs.block.Title.TheLaws as title-laws
use Rattle.arena.specs.contracts.block.Title as title
use Rattle.arena.specs.contracts.block.release as F
use Rattle.arena.specs.contracts.block.release.Key.{name as #self}
use Rattle.arena.proofs.block.release.Statement.{statement}
use Rattle.arena.proofs.block.release.Code as code

pub release_spec : {M : Type 1} → statement M
release_spec 𝓤 𝓛 𝓜 𝓡 wired T W L LW g d dd met md =
    let H = 𝓛.H in let 𝓣 = tables 𝓤 H 𝓜 𝓡 𝓡.env in let E : El = record { row = T; laws = L } in
    let N : Param.El = record { row = T; laws = L } in
    let Z : Al = record { row = W; laws = LW; g = g; d = d; drops = dd } in
    let D : RattleType = title.the_row (R E) (P N Z) g in
    let Ed = F.ended T W g d dd in let c = F.clauses T W g d dd 𝓛 𝓜.mem 𝓡.returns in
    let inst = args N Z in let fn : Fn = inst_fn inst code.function in
    let hs : Stays Ed.signature.params Ed.kept = (
      stay_dropped (RefOf (0 ∷ []) tt (plain (λ _. P N Z)) (λ _. tt)) yes,
      (
        stay_dropped (plain (λ _. usize)) yes,
        (stay_dropped (plain (λ _. B E)) no, (stay_dropped (plain (λ _. D)) no, tt)),
      ),
    ) in
    proved_at 𝓛 Ed hs c 𝓜 𝓡 (
      Goes-dropped 𝓛 3 (RefOf (0 ∷ []) tt (plain (λ _. P N Z)) (λ _. tt)) yes (λ κs x f. refl),
      (
        Goes-dropped 𝓛 3 (plain (λ _. usize)) yes (λ κs x f. refl),
        (
          Goes-blank 𝓛 3 (plain (λ _. B E)) no (λ κs x f. tt),
          (Goes-blank 𝓛 3 (plain (λ _. D)) no (λ κs x f. tt), tt),
        ),
      ),
    )
    (#self inst) fn (code.unfolded 𝓤 H 𝓜 𝓡 wired (T, (W, tt)) d dd) (λ z are.
    let κs = z.0.0 in let κ : Lft = κs.0 in let q : Share = z.0.1.0 in let a = z.0.3 in
    let vss = z.0.4 in
    let rb : ℕ = a.0.ref_ptr.0 in let ro : ℕ = a.0.ref_ptr.1 in let alloc : W.Denot = a.0.now in
    let places : ℕ = a.1.0 in let held : (B E).Denot = a.1.1.0 in let deed : D.Denot = a.1.1.1.0 in
    let xs = held.values in let k : ℕ = held.emptied in let n : ℕ = held.unused in
    let s : ℕ = sz E in
    let Asks : Type 0 = (xs ≡ []) × (k + n ≡ places) × (deed.start ≡ held.start) ×
    (deed.places ≡ places) × (deed.owner ≡ alloc) in
    let mark : Val = vstruct (vcons (vstruct vnil) vnil) in
    let laid = block.lowers (R E) (param_laws 0 T L) in
    let Post : Val → SProp 𝓤 = (walk_of 𝓛 Ed hs c).post z in
    let Run : List Val → SProp 𝓤 = λ ws. WpFn 𝓤 H 𝓣.C 𝓣.Λ fn ws Post in
    qed 𝓛 (((‵ (flft κ q) ⊛ (‵ (flft κs.1.0 z.0.1.1.0) ⊛ ‵ (flft κs.1.1.0 z.0.1.1.1.0) ⊛ ‵ ftrue)) ⊛
    ‵ (owns (types_at Ed.signature.params κs) a vss))
    ∷ raw (fact 𝓤 (κs.1.0 ⊑ T.lives)) ∷ raw (fact 𝓤 (κs.1.1.0 ⊑ W.lives)) ∷ raw (fact 𝓤 Asks)
    ∷ []) ∵
    move ! (1 ∷ 2 ∷ 3 ∷ []) $
    heard ! (κs.1.0 ⊑ T.lives)
    (λ le. heard ! (κs.1.1.0 ⊑ W.lives) (λ outlives. heard ! Asks (λ asked.
    split ! $ split ! $ move ! (2 ∷ []) $ fsplit ! $ fsplit ! $ drop ! $ move ! (1 ∷ []) $
    fsplit ! $ drop ! $ fsplit ! $ fsplit ! $ drop ! $ move ! (1 ∷ []) $ fsplit ! $ fsplit ! $
    keep ! (3 ∷ 1 ∷ 4 ∷ 5 ∷ 6 ∷ []) $
    in_a_block ! held.start (λ p. block_owns (R E) p k xs n) (id⊢ 𝓤 (never 𝓤)) (λ b o e.
    let word : vss.1.1.0 ≡ owner E b o ∷ [] = laid.val_is held vss.1.1.0 are.1.1.0
    ∙ ap (λ (p : Ptr). laid.lowered (record held { start = p }) ∷ []) e in
    let none : vss.1.1.1.0 ≡ mark
    ∷ [] = (title-laws.lowers (R E) (P N Z) g (param_laws 0 T L) (param_laws 1 W LW)).val_is
    deed vss.1.1.1.0 are.1.1.1.0 in
    let us : List Val = vptr rb ro ∷ vint w64 places ∷ owner E b o ∷ mark ∷ [] in
    suffices ! (Run us) (subst (λ (ws : List Val). ent 𝓤 (Run us) (Run ws))
    (sym (λ i. are.0.0 i ++ (are.1.0.0 i ++ (word i ++ (none i ++ []))))) (id⊢ 𝓤 (Run us))) $
    enter ! 𝓣.C 𝓣.Λ fn us Post $
    alloc_all ! (λ l. pass_all ! refl
    ((tt, tt), ((tt, record { fits = are.1.0.1 }), ((tt, (tt, tt)), ((tt, (tt, tt)), tt)))) $
    fsplit ! $ flt_l ! (λ small. fsplit ! $ drop ! $ fsplit ! $ move ! (1 ∷ []) $
    let empty : k + length xs ≡ k = omega (arith, ap length asked.0) in
    let all : k + length xs + n ≡ places = omega (arith, empty, asked.1) in
    let fit : places * s < 2 ^ 63 = subst (λ (j : ℕ). j * s < 2 ^ 63) all small in
    let bytes : places * s < 2 ^ 64 = omega arith in
    let y : (Gives Z 𝓛 𝓜.mem 𝓡.returns).Ghost =
    at_gives Z 𝓛 𝓜.mem 𝓡.returns κ q (rb, ro) alloc b o (places * s) (capped (align (elτ E)))
    (block_ty N places) in
    rewrite ! 0 (λ (j : ℕ). ‵ (room_of (R E) n b (j * s + o))) empty refl $ move ! (1 ∷ 0 ∷ []) $
    use2 𝓛 (‵ (room_of (R E) (k + n) b o)) (room-whole E 𝓛 b k n o) $
    rewrite ! 0 (λ (j : ℕ). ‵ (room_of (R E) j b o)) asked.1 refl $
    rewrite ! 1 (λ (t : W.Denot × Ptr × ℕ). ‵ (title_owns (R E) (token Z t.0) t.1 t.2))
    (λ i. (asked.4 i, (asked.2 ∙ e) i, asked.3 i)) refl $
    sets ! (of_opd ! (get_in ! (fld ! refl (stop !)) (sub ! 0 refl (whole !)))) refl (tt, tt) $
    first ! $ blocks ! $
    sets ! (of_opd ! (get ! refl)) refl (tt, tt) $
    sets ! (is ! (bin ! (get ! refl) (size_word !)
    (record { fits = subst (λ (j : ℕ). j < 2 ^ 64) (sym (uncapped places s bytes)) bytes }))
    (ap (vint w64) (uncapped places s bytes))) refl (tt, record { fits = bytes }) $
    group ! 4 $ use1 𝓛 (raw ((Gives Z 𝓛 𝓜.mem 𝓡.returns).pre y))
    (Gives-goes Z 𝓛 𝓜.mem 𝓡.returns κ q (rb, ro) alloc (Incl-trans z.0.2.0 outlives) b o
    (places * s) (capped (align (elτ E))) (block_ty N places) (block_size N places bytes)
    (block_align N places) bytes (capped_fits (align (elτ E)))) $
    calls_at_last ! (framed 𝓤 H 𝓜 𝓣) (Gives Z 𝓛 𝓜.mem 𝓡.returns) (met.deallocate dd) y
    (and_then ! (get ! refl)
    (and_then ! (get ! refl)
    (and_then ! (get ! refl) (and_then ! (align_word !) (no_more !))))) (λ v.
    use1 𝓛 (later (given (v ≡ vunit) (‵ (flft κ q))))
    (Gives-Gives Z 𝓛 𝓜.mem 𝓡.returns κ q (rb, ro) alloc b o (places * s)
    (capped (align (elτ E))) (block_ty N places) v) $ await ! tt $ learn ! (λ done_with.
    lands_last ! refl (subst (λ (u : Val). Sure (has_ty ty_unit u) × WT u) (sym done_with) (tt, tt))
    $ exec ! 𝓣.C 𝓣.Λ (env fn.locals l) (after 2 fn.body) (at_ret _ Post) $
    sets ! (of_opd ! (unit_lit !)) refl (tt, tt) $ returns ! (look_at ! 0 refl) $ free_all ! refl $
    join ! $
    nothing ! $ feq_i ! (List Val) (vunit ∷ []) (vunit ∷ []) refl $ nothing ! $ nothing ! $
    fjoin ! $ nothing ! $ fjoin ! $ nothing ! $ fjoin ! $ nothing ! $ fjoin ! $
    move ! (3 ∷ 0 ∷ 1 ∷ 2 ∷ []) $
    by ! (leaves 𝓛 Ed hs c z vunit tt (tt, (tt, (tt, (tt, tt))))
    (tt, (tt, (tt, (tt, tt))))))))))))))
