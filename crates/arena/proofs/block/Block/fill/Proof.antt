-- `fill` writes into the first place that was never filled. Assumes `Logic`.
use Rattle.arena.proofs.Names.{◌≡◌, refl, sym, ap, subst, ◌∙◌, List, [], ◌∷◌, ◌++◌, ℕ, suc, ◌+◌}
use Rattle.arena.proofs.Names.{◌-◌, ◌*◌, ◌<◌, ◌^◌, arith, length, length-append, full_share, Lft}
use Rattle.arena.proofs.Names.{Share, ftrue, froom, flft, ent, id⊢}
use Rattle.arena.proofs.Names.{SProp, Fn, a_type, w64, inst_fn, Val, vptr, vint, vunit}
use Rattle.arena.proofs.Names.{WpFn, ‵, raw, ◌⊛◌, at_ret, ◌$◌, ◌∵◌, !, qed}
use Rattle.arena.proofs.Names.{by, move, keep, drop, use0, use1, use2, split, join, rewrite, fsplit}
use Rattle.arena.proofs.Names.{fsplit3, fjoin, fjoin3, feq_i, suffices}
use Rattle.arena.proofs.Names.{whole, sub, look_in, enter, init, stop, fld, load, bin, of_opd}
use Rattle.arena.proofs.Names.{unit_lit, size_lit, assigns_last, first, blocks, exec, returns}
use Rattle.arena.proofs.Names.{alloc_all, pass_all, free_all, look_at, get, through, sets, env}
use Rattle.arena.proofs.Names.{fact, fact_i, tables, ◌⊑◌, usize, yes, no, row}
use Rattle.arena.proofs.Names.{part_at, layouts, owns}
use Rattle.arena.proofs.Names.{plain, types_at, nothing, heard, Stays, walk_of}
use Rattle.arena.proofs.Names.{stay_dropped, stay_ref, Goes-dropped, Goes-ref, El, R, elτ, sz}
use Rattle.arena.proofs.Names.{el_in, times_below, one_below, proved_at, leaves}
use base.Logic.{emp}
use denote.Param.Laws.{param_laws}
use Rattle.core.proofs.mem.Param.{one}
use Rattle.core.proofs.ptr.Rows.{next}
use Rattle.std_alloc.proofs.VecSteps.Shapes.{after}
use Rattle.arena.specs.Block.{room_of}
use Rattle.arena.proofs.Opens.{B, block_in, block_out}
use Rattle.arena.proofs.Places.{behind, room-first, row-last}
use Rattle.arena.specs.contracts.block.Block.fill as F
use Rattle.arena.specs.contracts.block.Block.fill.Key.{name as #self}
use Rattle.arena.proofs.block.Block.fill.Statement.{statement}
use Rattle.arena.proofs.block.Block.fill.Code as code

pub fill_spec : {M : Type 1} → statement M
fill_spec 𝓤 𝓛 𝓜 𝓡 wired T L =
    let H = 𝓛.H in let 𝓣 = tables 𝓤 H 𝓜 𝓡 𝓡.env in let E : El = record { row = T; laws = L } in
    let Ed = F.ended T in let c = F.clauses T 𝓛 𝓜.mem 𝓡.returns in
    let inst = layouts (a_type ∷ []) (T, tt) in let fn : Fn = inst_fn inst code.function in
    let hs : Stays Ed.signature.params Ed.kept = (
      stay_ref (0 ∷ []) tt (plain (λ _. B E)),
      (stay_dropped (plain (λ _. usize)) yes, (stay_dropped (plain (λ _. R E)) no, tt)),
    ) in
    proved_at 𝓛 Ed hs c 𝓜 𝓡 (
      Goes-ref 𝓛 2 0 tt (plain (λ _. B E)),
      (
        Goes-dropped 𝓛 2 (plain (λ _. usize)) yes (λ κs x f. refl),
        (Goes-dropped 𝓛 2 (plain (λ _. R E)) no (λ κs x f. refl), tt),
      ),
    )
    (#self inst) fn (code.unfolded 𝓤 H 𝓜 𝓡 wired (T, tt)) (λ z are.
    let κs = z.0.0 in let κ : Lft = κs.0 in let q : Share = z.0.1.0 in let a = z.0.3 in
    let vss = z.0.4 in
    let rb : ℕ = a.0.ref_ptr.0 in let ro : ℕ = a.0.ref_ptr.1 in let d : (B E).Denot = a.0.now in
    let count : ℕ = a.1.0 in let x = a.1.1.0 in
    let xs = d.values in let k : ℕ = d.emptied in let n : ℕ = d.unused in let s : ℕ = sz E in
    let Asks : Type 0 = (k ≡ 0) × (count ≡ length xs) × (0 < n) in
    let passed = one (record { row = T; laws = L }) vss.1.1.0
    (((param_laws 0 T L).lawful 𝓛).typed x vss.1.1.0 are.1.1.0) in let v : Val = passed.0 in
    let Post : Val → SProp 𝓤 = (walk_of 𝓛 Ed hs c).post z in
    let Run : List Val → SProp 𝓤 = λ ws. WpFn 𝓤 H 𝓣.C 𝓣.Λ fn ws Post in
    let us : List Val = vptr rb ro ∷ vint w64 count ∷ v ∷ [] in
    qed 𝓛 (((‵ (flft κ q) ⊛ (‵ (flft κs.1.0 z.0.1.1.0) ⊛ ‵ ftrue)) ⊛ ‵
    (owns (types_at Ed.signature.params κs) a vss)) ∷ raw (fact 𝓤 (κs.1.0 ⊑ T.lives))
    ∷ raw (fact 𝓤 Asks) ∷ []) ∵
    move ! (1 ∷ 2 ∷ []) $ heard ! (κs.1.0 ⊑ T.lives) (λ le. heard ! Asks (λ asked.
    let m : ℕ = n - 1 in let more : n ≡ suc m = omega (arith, asked.2) in
    let same : count ≡ k + length xs = omega (arith, asked.0, asked.1) in
    let long : k + length (xs ++ x ∷ []) ≡ k + length xs + 1 =
    omega (arith, length-append xs (x ∷ [])) in
    let new : (B E).Denot =
    record { start = d.start; emptied = k; values = xs ++ x ∷ []; unused = m } in
    split ! $ split ! $ move ! (2 ∷ []) $ fsplit ! $ fsplit3 ! $ drop ! $ move ! (2 ∷ []) $
    fsplit ! $ drop ! $ fsplit ! $
    rewrite ! 0 (λ (ws : List Val). ‵ ((R E).own_val x ws)) passed.1 refl $
    keep ! (2 ∷ 3 ∷ 4 ∷ 0 ∷ 5 ∷ []) $
    suffices ! (Run us) (subst (λ (ws : List Val). ent 𝓤 (Run us) (Run ws))
    (sym (λ i. are.0.0 i ++ (are.1.0.0 i ++ (passed.1 i ++ [])))) (id⊢ 𝓤 (Run us))) $
    enter ! 𝓣.C 𝓣.Λ fn us Post $
    alloc_all ! (λ l. pass_all ! refl
    ((tt, tt), ((tt, record { fits = are.1.0.1 }), (passed.2, tt))) $
    block_in E ! tt d rb ro (λ b o ms e word small.
    -- [the room behind the values, and that before them; the values; the block's cell]
    let tiny : s < 2 ^ 64 =
    omega (arith, one_below (k + length xs + n) s (2 ^ 63) (omega (arith, more)) small) in
    let far : count * s < 2 ^ 64 =
    omega (arith, times_below count (k + length xs + n) s (2 ^ 63) (omega (arith, same)) small)
    in
    let here : count * s + o ≡ (k + length xs) * s + o = ap (λ (j : ℕ). j * s + o) same in
    let after_it : (k + length (xs ++ x ∷ [])) * s + o ≡ (k + length xs) * s + o + s =
    ap (λ (j : ℕ). j * s + o) long ∙ omega (arith, next (k + length xs) s) in
    rewrite ! 0 (λ (j : ℕ). ‵ (room_of (R E) j b ((k + length xs) * s + o))) more refl $
    use1 𝓛 (‵ (froom (elτ E) b (count * s + o)) ⊛ ‵
    (room_of (R E) m b ((k + length (xs ++ x ∷ [])) * s + o)))
    (room-first E 𝓛 b m ((k + length xs) * s + o) here after_it) $
    split ! $
    first ! $ blocks ! $
    sets ! (of_opd ! (load ! (through ! refl (fld ! refl (stop !)))
    (look_in ! 4 (sub ! 0 refl (whole !))))) refl (tt, tt) $
    sets ! (bin ! (get ! refl) (size_lit ! (record { fits = tiny })) (record { fits = far })) refl
    (tt, record { fits = far }) $
    sets ! (bin ! (get ! refl) (get ! refl) tt) refl (tt, tt) $
    sets ! (of_opd ! (get ! refl)) refl passed.2 $
    assigns_last ! (of_opd ! (get ! refl)) (through ! refl (stop !)) (init ! 0 refl passed.2) $
    exec ! 𝓣.C 𝓣.Λ (env fn.locals l) (after 1 fn.body) (at_ret _ Post) $
    sets ! (of_opd ! (unit_lit !)) refl (tt, tt) $
    move ! (0 ∷ 9 ∷ []) $
    use2 𝓛 (‵ (part_at (R E) full_share x b (count * s + o)))
    (el_in E 𝓛 full_share x b (count * s + o) v) $
    rewrite ! 0 (λ (j : ℕ). ‵ (part_at (R E) full_share x b j))
    (here ∙ behind k (length xs) s o) refl $ move ! (3 ∷ 0 ∷ []) $
    use2 𝓛 (‵ (row (R E) full_share (xs ++ x ∷ []) b (k * s + o)))
    (row-last E 𝓛 b xs x (k * s + o)) $
    move ! (1 ∷ 2 ∷ 0 ∷ []) $
    block_out E ! tt d new rb ro b o ms e refl word
    (subst (λ (j : ℕ). j * s < 2 ^ 63) (omega (arith, long, more)) small) $
    returns ! (look_at ! 0 refl) $ free_all ! refl $
    -- [self, in two parts; its token; the other tokens]
    let Told : Type 0 = (d.start ≡ d.start) × (k ≡ 0) × (xs ++ x ∷ [] ≡ xs ++ x ∷ []) ×
    (m + 1 ≡ n) in
    move ! (2 ∷ 3 ∷ []) $ join ! $
    use0 𝓛 (raw (fact 𝓤 Told)) (fact_i 𝓤 Told (emp 𝓤) (refl, asked.0, refl, omega (arith, more))) $
    feq_i ! (List Val) (vunit ∷ []) (vunit ∷ []) refl $ move ! (3 ∷ 4 ∷ []) $
    feq_i ! (List Val) vss.0 (vptr rb ro ∷ []) are.0.0 $ fjoin3 ! $
    nothing ! $ nothing ! $ fjoin ! $ nothing ! $ fjoin ! $ move ! (1 ∷ 0 ∷ []) $ fjoin ! $
    move ! (3 ∷ 0 ∷ 1 ∷ 2 ∷ []) $
    by ! (leaves 𝓛 Ed hs c z vunit tt (new, (tt, (tt, tt))) (tt, (tt, (tt, tt)))))))))
