-- `of` keeps the pointer of the box. Assumes `Logic`.
use Rattle.c_handles.proofs.Names.{◌≡◌, refl, sym, ap, subst, List, [], ◌∷◌, ◌++◌, SProp, ent, emp, id⊢}
use Rattle.c_handles.proofs.Names.{ftrue, flft, Fn, a_type, impl, tcons, tnil, dcons, dnil}
use Rattle.c_handles.proofs.Names.{inst_fn, Val, WpFn, ‵, raw, ◌⊛◌, some, later, ◌$◌, ◌∵◌, !, qed, by, keep, move}
use Rattle.c_handles.proofs.Names.{use0, use1, use2, drop, split, join, fsplit, fjoin, feq_l, pick, await, suffices, agg}
use Rattle.c_handles.proofs.Names.{enter, of_opd, and_then, no_more, returns, alloc_all, pass_all, free_all, look_at}
use Rattle.c_handles.proofs.Names.{get, sets, lands_as, ◌⊑◌, ⊑_static, fact, fact_i, tables, RawPtr, no, arg, bounded}
use Rattle.c_handles.proofs.Names.{layout, param, arg_laws, glues, bare, RattleType, owns, Ptr}
use Rattle.c_handles.proofs.Names.{plain, types_at, heard, nothing, only, calls_at, triple_of, framed, Stays}
use Rattle.c_handles.proofs.Names.{stay_dropped, walk_of, Goes-blank, Ptr-Good, leaves, proved_at}
use Rattle.c_handles.proofs.Names.{dict, ghosts, Some, box_in, box_out, box_owns, heap, Lasts, lasts}
use Rattle.c_handles.proofs.Parts.{Holder, held_in, word, word-good}
use base.Share
use Rattle.std_alloc.specs.contracts.boxed.Box as plain_box
use contract.Running.{tables_of}
use Rattle.std.proofs.alloc.Global.TheLaws as heap_laws
use Rattle.std.proofs.impls.GlobalAllocator.TheImpl.Met as impl_met
use Rattle.std.specs.contracts.alloc.Global as heap_row
use Rattle.std_alloc.proofs.BoxSteps.Form as box
use Rattle.std_alloc.specs.contracts.boxed.Box.into_raw as callee
use Rattle.std_alloc.proofs.boxed.Box.into_raw.Met.{met}
use Rattle.c_handles.proofs.Destruct++none.drop.Code as none_code
use Rattle.c_handles.specs.contracts.held.Held.of as F
use Rattle.c_handles.specs.contracts.held.Held.of.Key.{name as #self}
use Rattle.c_handles.proofs.held.Held.of.Statement.{statement}
use Rattle.c_handles.proofs.held.Held.of.Code as code

pub of_spec : {M : Type 1} → statement M
unfolding none_code.code tables_of
of_spec {M} 𝓤 𝓛 𝓜 𝓡 wired T L dx glue =
    let H = 𝓛.H in let 𝓣 = tables 𝓤 H 𝓜 𝓡 𝓡.env in let R : RattleType = param 0 T in
    let τ = bare (layout heap_row.the_row) in let Z : RattleType = arg τ no heap_row.the_row in
    let LZ = arg_laws τ no heap_row.the_row heap_laws.the_row_laws refl in
    let dd = impl ("c_handles::Destruct++none::drop" ∷ []) (tcons (layout Z) tnil) dnil in
    let E : box.Bx = record {
      row = T;
      laws = L;
      al = record {
        row = Z;
        laws = LZ;
        g = ghosts;
        d =
            dict;
        drops = dd;
      };
    } in
    let B : RattleType = box.B E in
    let B₀ : RattleType = plain_box.the_row R heap_row.the_row ghosts in
    let En = F.ended T dx in let c = F.clauses T dx 𝓛 𝓜.mem 𝓡.returns in
    let inst = bounded (a_type ∷ []) (T, tt) (dcons dx dnil) in
    let fn : Fn = inst_fn inst code.function in
    let hs : Stays En.signature.params En.kept = (stay_dropped (plain (λ _. B₀)) no, tt) in
    let k = triple_of 𝓛 (callee.signature T Z ghosts dict dd dx) (callee.spec T Z ghosts dict dd
    dx 𝓛 𝓜.mem 𝓡.returns) in
    let known = met 𝓤 𝓛 𝓜 𝓡 (code.calls-std_alloc::boxed::Box::into_raw 𝓡.env wired) T Z L LZ
    ghosts dict dd dx
    (impl_met.passed 𝓡.env (code.calls-std_heap::GlobalAllocator::allocate 𝓡.env wired)
    (code.calls-std_heap::GlobalAllocator::deallocate 𝓡.env wired)
    (code.calls-std_heap::GlobalAllocator::grow 𝓡.env wired)
    (code.calls-std_heap::GlobalAllocator::shrink 𝓡.env wired) M 𝓤 𝓛 𝓜 𝓡)
    (glues "c_handles::Destruct++none::drop" 𝓡.env
    (code.calls-c_handles::Destruct++none::drop 𝓡.env wired)
    Z LZ M 𝓤 𝓛 𝓜 𝓡) glue in
    proved_at 𝓛 En hs c 𝓜 𝓡 (Goes-blank 𝓛 1 (plain (λ _. B₀)) no (λ κs x f. tt), tt)
    (#self inst) fn (code.unfolded 𝓤 H 𝓜 𝓡 wired (T, tt) dx) (λ z are.
    let κ = z.0.0.0 in let q = z.0.1.0 in let v : B.Denot = z.0.3.0 in let x : T.Denot = v.value in
    let Post : Val → SProp 𝓤 = (walk_of 𝓛 En hs c).post z in
    let Run : List Val → SProp 𝓤 = λ ws. WpFn 𝓤 H 𝓣.C 𝓣.Λ fn ws Post in
    let inT = κ ⊑ T.lives in let inZ = κ ⊑ Z.lives in
    let both = ‵ (flft κ (Share.left q)) ⊛ ‵ (flft κ (Share.right q)) ⊛ ‵ ftrue in
    qed 𝓛 (((‵ (flft κ q) ⊛ ‵ ftrue) ⊛ ‵ (owns (types_at En.signature.params z.0.0) z.0.3 z.0.4))
    ∷ raw (fact 𝓤 inT) ∷ ‵ ftrue ∷ []) ∵
    move ! (1 ∷ []) $ heard ! inT (λ le. split ! $ split ! $
    use1 𝓛 (‵ (flft κ (Share.left q)) ⊛ ‵ (flft κ (Share.right q))) (𝓛.lfts.lft_split κ q) $
    split ! $
    move ! (3 ∷ []) $ fsplit ! $ box_out E ! v z.0.4.0 (λ b o hv e ws fa. box_in E ! v b o x e
    refl $
    let w : Val = box.word E hv b o in let typed = box.box_typed E hv b o fa in
    let y : k.Ghost = (
      (
        (κ, (κ, tt)),
        (Share.left q, (Share.right q, tt)),
        tt,
        (v, tt),
        (
          w ∷ [],
          tt,
        ),
      ),
      tt,
    ) in
    suffices ! (Run (w ∷ [])) (subst (λ (us : List Val). ent 𝓤 (Run (w ∷ [])) (Run us)) (sym (λ i.
    ws i ++ [])) (id⊢ 𝓤 (Run (w ∷ [])))) $
    keep ! (0 ∷ 2 ∷ 3 ∷ 4 ∷ []) $
    enter ! 𝓣.C 𝓣.Λ fn (w ∷ []) Post $ alloc_all ! (λ l. pass_all ! refl (typed, tt) $
    sets ! (of_opd ! (get ! refl)) refl typed $
    nothing ! $ move ! (1 ∷ 0 ∷ []) $ fjoin ! $ move ! (2 ∷ 3 ∷ []) $ join ! $
    move ! (2 ∷ 0 ∷ []) $ join ! $
    join ! $ nothing ! $ use0 𝓛 (raw (fact 𝓤 inZ)) (fact_i 𝓤 inZ (emp 𝓤) (⊑_static κ)) $ join ! $
    use0 𝓛 (raw (fact 𝓤 inT)) (fact_i 𝓤 inT (emp 𝓤) le) $ join ! $ move ! (1 ∷ 0 ∷ []) $ join ! $
    use1 𝓛 (raw (k.pre y)) (id⊢ 𝓤 (k.pre y)) $
    calls_at ! (framed 𝓤 H 𝓜 𝓣) k known y (and_then ! (get ! refl) (no_more !)) (λ u.
    use1 𝓛 (later (some (λ (p : Ptr). (both ⊛ ‵ (RawPtr.own_val p (u ∷ []))) ⊛
    some (λ (ls : Lasts (callee.ended T Z ghosts dict dd dx) y.0.0 y.0.3). ‵ (lasts (callee.ended
    T Z ghosts dict dd dx) y.0.0 y.0.3 ls) ⊛
    ‵ (box_owns (ghosts.dealloc_token heap) R p x))))) (id⊢ 𝓤 (k.post y u)) $
    await ! tt $ pick ! (λ p. split ! $ move ! (1 ∷ []) $ pick ! (λ ls. split ! $ drop ! $
    move ! (1 ∷ []) $ split ! $ split ! $
    move ! (1 ∷ []) $ split ! $ move ! (3 ∷ []) $ feq_l ! (λ at.
    let d : (Holder R).Denot = record { at = p; value = Some x } in
    let Says : Type 0 = d.value ≡ Some x in
    lands_as ! (ap only at) refl (Ptr-Good p) $
    sets ! (agg ! (and_then ! (get ! refl) (no_more !))) refl (word-good R p) $
    returns ! (look_at ! 0 refl) $ free_all ! refl $
    move ! (2 ∷ 0 ∷ []) $ use2 𝓛 (‵ (flft κ q)) (𝓛.lfts.lft_join κ q) $ join ! $
    use0 𝓛 (raw (fact 𝓤 Says)) (fact_i 𝓤 Says (emp 𝓤) refl) $ move ! (2 ∷ []) $
    held_in R ! p (Some x) $
    nothing ! $ nothing ! $ fjoin ! $ move ! (3 ∷ 0 ∷ 1 ∷ 2 ∷ []) $
    by ! (leaves 𝓛 En hs c z (word p) d (tt, tt) (tt, tt))))))))))
