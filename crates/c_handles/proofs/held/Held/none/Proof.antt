-- `none` makes a null pointer. Assumes `Logic`.
use Rattle.c_handles.proofs.Names.{◌≡◌, refl, [], ◌∷◌, SProp, emp, ftrue, flft, Fn, a_type}
use Rattle.c_handles.proofs.Names.{dcons, dnil, inst_fn, Val, ‵, raw, ◌⊛◌, ◌$◌, ◌∵◌, !, qed, by, keep}
use Rattle.c_handles.proofs.Names.{move, use0, fpack, split, agg, enter, lit, and_then, no_more, returns}
use Rattle.c_handles.proofs.Names.{alloc_all, pass_all, free_all, look_at, sets, ◌⊑◌, fact, fact_i, tables}
use Rattle.c_handles.proofs.Names.{bounded, param, RattleType, null_ptr, nothing, Stays}
use Rattle.c_handles.proofs.Names.{walk_of, leaves, proved_at, None}
use Rattle.c_handles.proofs.Parts.{Holder, held_in, word, word-good}
use Rattle.c_handles.specs.contracts.held.Held.none as F
use Rattle.c_handles.specs.contracts.held.Held.none.Key.{name as #self}
use Rattle.c_handles.proofs.held.Held.none.Statement.{statement}
use Rattle.c_handles.proofs.held.Held.none.Code as code

pub none_spec : {M : Type 1} → statement M
none_spec 𝓤 𝓛 𝓜 𝓡 wired T L dx glue =
    let H = 𝓛.H in let 𝓣 = tables 𝓤 H 𝓜 𝓡 𝓡.env in let R : RattleType = param 0 T in
    let En = F.ended T dx in let c = F.clauses T dx 𝓛 𝓜.mem 𝓡.returns in
    let inst = bounded (a_type ∷ []) (T, tt) (dcons dx dnil) in
    let fn : Fn = inst_fn inst code.function in let hs : Stays En.signature.params En.kept = tt in
    proved_at 𝓛 En hs c 𝓜 𝓡 tt (#self inst) fn (code.unfolded 𝓤 H 𝓜 𝓡 wired (T, tt) dx) (λ z are.
    let κ = z.0.0.0 in let q = z.0.1.0 in let Post : Val → SProp 𝓤 = (walk_of 𝓛 En hs c).post z in
    let d : (Holder R).Denot = record { at = null_ptr; value = None } in
    let Says : Type 0 = d.value ≡ None in
    qed 𝓛 (((‵ (flft κ q) ⊛ ‵ ftrue) ⊛ ‵ ftrue) ∷ raw (fact 𝓤 (κ ⊑ T.lives)) ∷ ‵ ftrue ∷ []) ∵
    keep ! (0 ∷ []) $ split ! $ keep ! (0 ∷ []) $
    enter ! 𝓣.C 𝓣.Λ fn [] Post $ alloc_all ! (λ l. pass_all ! refl tt $
    sets ! (agg ! (and_then ! (lit ! tt) (no_more !))) refl (word-good R null_ptr) $
    returns ! (look_at ! 0 refl) $ free_all ! refl $
    use0 𝓛 (raw (fact 𝓤 Says)) (fact_i 𝓤 Says (emp 𝓤) refl) $
    nothing ! $ fpack ! (null_ptr ≡ null_ptr) (λ _. ftrue) refl $ held_in R ! null_ptr None $
    nothing ! $ move ! (3 ∷ 0 ∷ 1 ∷ 2 ∷ []) $
    by ! (leaves 𝓛 En hs c z (word null_ptr) d tt tt)))
