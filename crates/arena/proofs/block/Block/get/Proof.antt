-- `get` reads the pointer through a `&`, and returns its share of one value. Assumes `Logic`.
use Rattle.arena.proofs.Names.{◌≡◌, refl, sym, ap, subst, ◌∙◌, List, [], ◌∷◌, ◌++◌, ℕ, ◌+◌, ◌*◌}
use Rattle.arena.proofs.Names.{◌<◌, length, get_or, Lft, Share, ftrue, flft}
use Rattle.arena.proofs.Names.{ent, id⊢, never, SProp, Fn, a_type, w64, inst_fn, Val, vptr}
use Rattle.arena.proofs.Names.{vint, vstruct, vcons, vnil, WpFn, ‵, raw, ◌⊛◌, at_ret}
use Rattle.arena.proofs.Names.{◌$◌, ◌∵◌, !, qed, by, move, keep, drop, use0, use1, split, join}
use Rattle.arena.proofs.Names.{rewrite, fsplit, fjoin, feq_i, flt_l, suffices, whole}
use Rattle.arena.proofs.Names.{sub, look_in, enter, stop, fld, load, bin, of_opd, size_lit, first}
use Rattle.arena.proofs.Names.{blocks, exec, returns, alloc_all, pass_all, free_all, look_at, get}
use Rattle.arena.proofs.Names.{through, sets, sets_last, env, fact, fact_i, tables, ◌⊑◌, usize, yes}
use Rattle.arena.proofs.Names.{cell_at, place, layouts, owns, Ptr}
use Rattle.arena.proofs.Names.{block_ptr, in_a_block, plain, types_at, nothing, heard, Stays}
use Rattle.arena.proofs.Names.{walk_of, stay_dropped, Goes-dropped, El, R, el_x, sz}
use Rattle.arena.proofs.Names.{proved_at, leaves}
use base.Fml.{fhide}
use base.Logic.{emp}
use types.Run.{addr}
use denote.Builtin.{RefOf}
use denote.Laws.{Is, shows}
use denote.Memory.{shared_of, hidden_shr}
use denote.Opens.{hide, unhide}
use denote.RawPtr.{ptr_val}
use denote.Ref.{Bor}
use denote.Steps.{looks, shuts, peeks}
use denote.Struct.Lending.{lent_out}
use Rattle.std_alloc.proofs.VecSteps.Shapes.{after}
use Rattle.arena.specs.Block.{block_lent}
use Rattle.arena.proofs.Opens.{B, Fields, owner, fields-open, fields-told}
use Rattle.arena.proofs.Places.{same-read, lent-place, inside}
use Rattle.arena.specs.contracts.block.Block as block
use Rattle.arena.specs.contracts.block.Block.get as F
use Rattle.arena.specs.contracts.block.Block.get.Key.{name as #self}
use Rattle.arena.proofs.block.Block.get.Statement.{statement}
use Rattle.arena.proofs.block.Block.get.Code as code

pub get_spec : {M : Type 1} → statement M
get_spec 𝓤 𝓛 𝓜 𝓡 wired T L =
    let H = 𝓛.H in let 𝓣 = tables 𝓤 H 𝓜 𝓡 𝓡.env in let E : El = record { row = T; laws = L } in
    let Ed = F.ended T in let c = F.clauses T 𝓛 𝓜.mem 𝓡.returns in
    let inst = layouts (a_type ∷ []) (T, tt) in let fn : Fn = inst_fn inst code.function in
    let hs : Stays Ed.signature.params Ed.kept = (
      stay_dropped (RefOf (0 ∷ []) tt (plain (λ _. B E)) (λ _. tt)) yes,
      (stay_dropped (plain (λ _. usize)) yes, tt),
    ) in
    proved_at 𝓛 Ed hs c 𝓜 𝓡 (
      Goes-dropped 𝓛 2 (RefOf (0 ∷ []) tt (plain (λ _. B E)) (λ _. tt)) yes (λ κs x f. refl),
      (Goes-dropped 𝓛 2 (plain (λ _. usize)) yes (λ κs x f. refl), tt),
    )
    (#self inst) fn (code.unfolded 𝓤 H 𝓜 𝓡 wired (T, tt)) (λ z are.
    let κs = z.0.0 in let κ : Lft = κs.0 in let q : Share = z.0.1.0 in let a = z.0.3 in
    let vss = z.0.4 in
    let rb : ℕ = a.0.ref_ptr.0 in let ro : ℕ = a.0.ref_ptr.1 in let d : (B E).Denot = a.0.now in
    let index : ℕ = a.1.0 in
    let xs = d.values in let k : ℕ = d.emptied in let n : ℕ = d.unused in let s : ℕ = sz E in
    let Asks : Type 0 = (k ≡ 0) × (index < length xs) in
    let Post : Val → SProp 𝓤 = (walk_of 𝓛 Ed hs c).post z in
    let Run : List Val → SProp 𝓤 = λ ws. WpFn 𝓤 H 𝓣.C 𝓣.Λ fn ws Post in
    let us : List Val = vptr rb ro ∷ vint w64 index ∷ [] in
    qed 𝓛 (((‵ (flft κ q) ⊛ (‵ (flft κs.1.0 z.0.1.1.0) ⊛ ‵ ftrue)) ⊛ ‵
    (owns (types_at Ed.signature.params κs) a vss)) ∷ raw (fact 𝓤 (κs.1.0 ⊑ T.lives))
    ∷ raw (fact 𝓤 Asks) ∷ []) ∵
    move ! (1 ∷ 2 ∷ []) $ heard ! (κs.1.0 ⊑ T.lives) (λ le. heard ! Asks (λ asked.
    split ! $ split ! $ move ! (2 ∷ []) $ fsplit ! $ fsplit ! $ drop ! $ keep ! (0 ∷ 2 ∷ 3 ∷ []) $
    suffices ! (Run us) (subst (λ (ws : List Val). ent 𝓤 (Run us) (Run ws))
    (sym (λ i. are.0.0 i ++ (are.1.0.0 i ++ []))) (id⊢ 𝓤 (Run us))) $
    enter ! 𝓣.C 𝓣.Λ fn us Post $
    alloc_all ! (λ l. pass_all ! refl ((tt, tt), ((tt, record { fits = are.1.0.1 }), tt)) $
    use1 𝓛 (‵ (hidden_shr (Fields E) κ (d.start, tt) rb ro) ⊛ ‵
    (fhide (block.the_lent (R E) d (block_ptr rb ro) κ)))
    (lent_out 𝓛 (block.struct (R E)) (block.the_codes (el_x E) (R E).coded) (block.the_heap (R E))
    (block.the_lent (R E)) κ d rb ro) $ split ! $ move ! (1 ∷ []) $ unhide ! $
    in_a_block ! d.start (λ p. block_lent (R E) p k xs n κ) (id⊢ 𝓤 (never 𝓤)) (λ b o e. fsplit ! $
    flt_l ! (λ small.
    let i = inside E k n xs index o asked small in let from : ℕ = k * s + o in
    let at : ℕ = index * s + o in let x : el_x E = get_or xs index i.some_value in
    use1 𝓛 (‵ (shared_of (R E) x b (place s from index) κ))
    (lent-place E 𝓛 b κ xs i.some_value from i.lt) $
    rewrite ! 0 (λ (j : ℕ). ‵ (shared_of (R E) x b j κ)) (sym i.here) refl $ hide ! $
    move ! (1 ∷ 2 ∷ []) $
    looks ! tt (Fields E) (fields-open E 𝓛) (d.start, tt) rb ro (λ q' vs. move ! (1 ∷ []) $
    peeks ! (Fields E) (Is (Fields E)) (shows 𝓛 (Fields E)) (d.start, tt) vs (λ is.
    let word : vs ≡ owner E b o ∷ [] = fields-told E d.start vs is
    ∙ ap (λ (p : Ptr). vstruct (vcons (ptr_val p) vnil) ∷ []) e in
    -- [what the pointer owns; its cell; the way back; a `&` to the pointer; one to the value]
    rewrite ! 1 (λ (ws : List Val). ‵ (cell_at q' (Fields E).mir ws rb ro)) word refl $ first ! $
    blocks ! $
    sets ! (of_opd ! (load ! (through ! refl (fld ! refl (stop !)))
    (look_in ! 1 (sub ! 0 refl (whole !))))) refl (tt, tt) $
    sets ! (bin ! (get ! refl) (size_lit ! (record { fits = i.tiny })) (record { fits = i.far }))
    refl
    (tt, record { fits = i.far }) $
    sets ! (bin ! (get ! refl) (get ! refl) tt) refl (tt, tt) $
    sets_last ! (addr ! (through ! refl (stop !))) refl (tt, tt) $
    exec ! 𝓣.C 𝓣.Λ (env fn.locals l) (after 1 fn.body) (at_ret _ Post) $
    sets ! (of_opd ! (get ! refl)) refl (tt, tt) $
    rewrite ! 1 (λ (ws : List Val). ‵ (cell_at q' (Fields E).mir ws rb ro)) (sym word) refl $
    move ! (1 ∷ 0 ∷ 2 ∷ []) $ shuts ! tt (Fields E) q' (d.start, tt) vs rb ro $
    feq_i ! (List Val) (vptr b at ∷ []) (vptr b at ∷ []) refl $ move ! (0 ∷ 3 ∷ []) $ fjoin ! $
    returns ! (look_at ! 0 refl) $ free_all ! refl $ keep ! (1 ∷ 3 ∷ 0 ∷ []) $ join ! $
    let r : Bor (el_x E) = record { ref_ptr = (b, at); now = x } in
    let Told : Type 0 = x ≡ get_or xs index x in
    use0 𝓛 (raw (fact 𝓤 Told)) (fact_i 𝓤 Told (emp 𝓤) (same-read xs index i.some_value x i.lt)) $
    nothing ! $ nothing ! $ fjoin ! $ nothing ! $ fjoin ! $ move ! (2 ∷ 0 ∷ 3 ∷ 1 ∷ []) $
    by ! (leaves 𝓛 Ed hs c z (vptr b at) r (tt, (tt, tt)) (tt, (tt, tt)))))))))))
