-- `take` moves the first value out, and its place is room again. Assumes `Logic`.
use Rattle.arena.proofs.Names.{◌≡◌, refl, sym, ap, subst, List, [], ◌∷◌, ◌++◌, ℕ, suc, ◌+◌}
use Rattle.arena.proofs.Names.{◌*◌, ◌<◌, ◌^◌, arith, length, full_share, Lft}
use Rattle.arena.proofs.Names.{Share, ftrue, fat, froom, flft, ent, id⊢}
use Rattle.arena.proofs.Names.{SProp, Fn, a_type, w64, inst_fn, Val, vptr, vint}
use Rattle.arena.proofs.Names.{WpFn, ‵, raw, ◌⊛◌, some, given, at_ret, ◌$◌}
use Rattle.arena.proofs.Names.{◌∵◌, !, qed, by, move, keep, drop, use0, use1, use2, split, join}
use Rattle.arena.proofs.Names.{rewrite, fsplit, fsplit3, fjoin, fjoin3, feq_i, pick}
use Rattle.arena.proofs.Names.{learn, suffices, whole, sub, look, look_in, enter}
use Rattle.arena.proofs.Names.{stop, fld, load, bin, of_opd, size_lit}
use Rattle.arena.proofs.Names.{first, blocks, exec, returns, alloc_all, pass_all, free_all, look_at}
use Rattle.arena.proofs.Names.{get, through, sets, sets_last, env, fact, fact_i, tables, ◌⊑◌, usize}
use Rattle.arena.proofs.Names.{yes, row, part_at, layouts, owns}
use Rattle.arena.proofs.Names.{plain, types_at, nothing}
use Rattle.arena.proofs.Names.{heard, Stays, walk_of, stay_dropped, stay_ref, Goes-dropped}
use Rattle.arena.proofs.Names.{Goes-ref, El, R, el_x, elτ, sz, Good, el_out, times_below, one_below}
use Rattle.arena.proofs.Names.{proved_at, leaves}
use base.Logic.{emp}
use Rattle.core.proofs.ptr.Rows.{next}
use Rattle.std_alloc.proofs.VecSteps.Shapes.{after}
use Rattle.arena.specs.Block.{room_of}
use Rattle.arena.proofs.Opens.{B, block_in, block_out}
use Rattle.arena.proofs.Places.{room-last, not-empty}
use Rattle.arena.specs.contracts.block.Block.take as F
use Rattle.arena.specs.contracts.block.Block.take.Key.{name as #self}
use Rattle.arena.proofs.block.Block.take.Statement.{statement}
use Rattle.arena.proofs.block.Block.take.Code as code

pub take_spec : {M : Type 1} → statement M
take_spec 𝓤 𝓛 𝓜 𝓡 wired T L =
    let H = 𝓛.H in let 𝓣 = tables 𝓤 H 𝓜 𝓡 𝓡.env in let E : El = record { row = T; laws = L } in
    let Ed = F.ended T in let c = F.clauses T 𝓛 𝓜.mem 𝓡.returns in
    let inst = layouts (a_type ∷ []) (T, tt) in let fn : Fn = inst_fn inst code.function in
    let hs : Stays Ed.signature.params Ed.kept =
    (stay_ref (0 ∷ []) tt (plain (λ _. B E)), (stay_dropped (plain (λ _. usize)) yes, tt)) in
    proved_at 𝓛 Ed hs c 𝓜 𝓡 (
      Goes-ref 𝓛 2 0 tt (plain (λ _. B E)),
      (Goes-dropped 𝓛 2 (plain (λ _. usize)) yes (λ κs x f. refl), tt),
    )
    (#self inst) fn (code.unfolded 𝓤 H 𝓜 𝓡 wired (T, tt)) (λ z are.
    let κs = z.0.0 in let κ : Lft = κs.0 in let q : Share = z.0.1.0 in let a = z.0.3 in
    let vss = z.0.4 in
    let rb : ℕ = a.0.ref_ptr.0 in let ro : ℕ = a.0.ref_ptr.1 in let d : (B E).Denot = a.0.now in
    let index : ℕ = a.1.0 in
    let xs = d.values in let k : ℕ = d.emptied in let n : ℕ = d.unused in let s : ℕ = sz E in
    let τ = elτ E in
    let Asks : Type 0 = (index ≡ k) × (0 < length xs) in
    let Post : Val → SProp 𝓤 = (walk_of 𝓛 Ed hs c).post z in
    let Run : List Val → SProp 𝓤 = λ ws. WpFn 𝓤 H 𝓣.C 𝓣.Λ fn ws Post in
    let us : List Val = vptr rb ro ∷ vint w64 index ∷ [] in
    qed 𝓛 (((‵ (flft κ q) ⊛ (‵ (flft κs.1.0 z.0.1.1.0) ⊛ ‵ ftrue)) ⊛ ‵
    (owns (types_at Ed.signature.params κs) a vss)) ∷ raw (fact 𝓤 (κs.1.0 ⊑ T.lives))
    ∷ raw (fact 𝓤 Asks) ∷ []) ∵
    move ! (1 ∷ 2 ∷ []) $ heard ! (κs.1.0 ⊑ T.lives) (λ le. heard ! Asks (λ asked.
    let there = not-empty xs asked.1 in let x : el_x E = there.0 in
    let ys : List (el_x E) = there.1.0 in let are_xs : xs ≡ x ∷ ys = there.1.1 in
    let long : length xs ≡ suc (length ys) = ap length are_xs in
    let same : k + length xs ≡ k + 1 + length ys = omega (arith, long) in
    let new : (B E).Denot = record { start = d.start; emptied = k + 1; values = ys; unused = n } in
    split ! $ split ! $ move ! (2 ∷ []) $ fsplit ! $ fsplit3 ! $ drop ! $
    keep ! (0 ∷ 1 ∷ 3 ∷ 4 ∷ []) $
    suffices ! (Run us) (subst (λ (ws : List Val). ent 𝓤 (Run us) (Run ws))
    (sym (λ i. are.0.0 i ++ (are.1.0.0 i ++ []))) (id⊢ 𝓤 (Run us))) $
    enter ! 𝓣.C 𝓣.Λ fn us Post $
    alloc_all ! (λ l. pass_all ! refl ((tt, tt), ((tt, record { fits = are.1.0.1 }), tt)) $
    block_in E ! tt d rb ro (λ b o ms e word small.
    let tiny : s < 2 ^ 64 =
    omega (arith, one_below (k + length xs + n) s (2 ^ 63) (omega (arith, long)) small) in
    let far : index * s < 2 ^ 64 =
    omega (
      arith,
      times_below index (k + length xs + n) s (2 ^ 63)
          (omega (arith, asked.0)) small,
    ) in
    let here : k * s + o ≡ index * s + o = ap (λ (j : ℕ). j * s + o) (sym asked.0) in
    move ! (2 ∷ []) $ rewrite ! 0
    (λ (ws : List (el_x E)). ‵ (row (R E) full_share ws b (k * s + o))) are_xs refl $ fsplit ! $
    rewrite ! 0 (λ (j : ℕ). ‵ (part_at (R E) full_share x b j)) here refl $
    use1 𝓛 (some (λ (v : Val).
    given (Good E v) (‵ (fat full_share τ b (index * s + o) v) ⊛ ‵ ((R E).own_val x (v ∷ [])))))
    (el_out E 𝓛 full_share x b (index * s + o)) $
    -- [the cell of the value, and what it owns; the other values; the room behind them, and that
    -- before them; the block's cell]
    pick ! (λ v. learn ! (λ good. split ! $ first ! $ blocks ! $
    sets ! (of_opd ! (load ! (through ! refl (fld ! refl (stop !)))
    (look_in ! 5 (sub ! 0 refl (whole !))))) refl (tt, tt) $
    sets ! (bin ! (get ! refl) (size_lit ! (record { fits = tiny })) (record { fits = far })) refl
    (tt, record { fits = far }) $
    sets ! (bin ! (get ! refl) (get ! refl) tt) refl (tt, tt) $
    sets_last ! (of_opd ! (load ! (through ! refl (stop !)) (look ! 0 refl))) refl good $
    exec ! 𝓣.C 𝓣.Λ (env fn.locals l) (after 1 fn.body) (at_ret _ Post) $
    sets ! (of_opd ! (get ! refl)) refl good $
    use1 𝓛 (‵ (froom τ b (index * s + o))) (𝓛.laws.at_room τ b (index * s + o) v) $
    rewrite ! 0 (λ (j : ℕ). ‵ (froom τ b j)) (sym here) refl $ move ! (4 ∷ 0 ∷ []) $
    use2 𝓛 (‵ (room_of (R E) (k + 1) b o)) (room-last E 𝓛 b k o) $
    move ! (3 ∷ 0 ∷ 2 ∷ 4 ∷ 5 ∷ 6 ∷ 7 ∷ 8 ∷ []) $
    rewrite ! 0 (λ (j : ℕ). ‵ (room_of (R E) n b (j * s + o))) same refl $
    rewrite ! 2 (λ (j : ℕ). ‵ (row (R E) full_share ys b j)) {x = (k + 1) * s + o}
    (omega (arith, next k s)) refl $
    block_out E ! tt d new rb ro b o ms e refl word
    (subst (λ (j : ℕ). (j + n) * s < 2 ^ 63) same small) $
    returns ! (look_at ! 0 refl) $ free_all ! refl $
    -- [self, in two parts; its token; what the value owns; the other tokens]
    let Told : Type 0 = (xs ≡ x ∷ ys) × (d.start ≡ d.start) × (k + 1 ≡ k + 1) × (n ≡ n) in
    move ! (2 ∷ 4 ∷ []) $ join ! $
    use0 𝓛 (raw (fact 𝓤 Told)) (fact_i 𝓤 Told (emp 𝓤) (are_xs, refl, refl, refl)) $
    move ! (2 ∷ 3 ∷ []) $ feq_i ! (List Val) vss.0 (vptr rb ro ∷ []) are.0.0 $ fjoin3 ! $
    nothing ! $ nothing ! $ fjoin ! $ move ! (1 ∷ 0 ∷ []) $ fjoin ! $ move ! (2 ∷ 0 ∷ 3 ∷ 1 ∷ []) $
    by ! (leaves 𝓛 Ed hs c z v x (new, (tt, tt)) (tt, (tt, tt))))))))))
