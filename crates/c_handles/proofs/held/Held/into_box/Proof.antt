-- `into_box` makes the box again if the pointer isn't null. Assumes `Logic`.
use Rattle.c_handles.proofs.Names.{◌≡◌, refl, sym, ap, subst, ◌∙◌, List, [], ◌∷◌, ◌++◌, SProp, ent, emp, id⊢}
use Rattle.c_handles.proofs.Names.{lit<, ftrue, flft, Fn, a_type, impl, tcons, tnil, dcons, dnil}
use Rattle.c_handles.proofs.Names.{inst_fn, Val, vptr, vnil, vcons, WpFn, ‵, raw, ◌⊛◌, some, later, at_ret, ◌$◌, ◌∵◌, !, qed, by}
use Rattle.c_handles.proofs.Names.{keep, move, use0, use1, use2, drop, split, split3, join, fsplit, fjoin, feq_i, pick}
use Rattle.c_handles.proofs.Names.{await, suffices, live, agg, sub, whole, enter, stop, fld, bin, lit, of_opd}
use Rattle.c_handles.proofs.Names.{and_then, no_more, first, blocks, branches, exec, returns, alloc_all, pass_all, free_all}
use Rattle.c_handles.proofs.Names.{look_at, get, get_in, is, sets, sets_last, env, lands_last, ◌⊑◌, ⊑_static, fact, fact_i, tables}
use Rattle.c_handles.proofs.Names.{no, Lasts, lasts, arg, bounded, layout, param, arg_laws, glues, bare, RattleType, owns}
use Rattle.c_handles.proofs.Names.{block_ptr, tests_null, plain, type_at, types_at, heard, nothing, only}
use Rattle.c_handles.proofs.Names.{calls_at_last, triple_of, framed, Stays, stay_dropped, walk_of, Goes-blank, Goes-dropped}
use Rattle.c_handles.proofs.Names.{Ptr-Good, Good, Some-of, none_of, leaves, proved_at, dict, ghosts, Option, None, Some}
use Rattle.c_handles.proofs.Names.{box_in, box_out, and_tt, after}
use Rattle.c_handles.proofs.Parts.{Holder, either, held_out, word, word-good}
use base.Share
use mir.Syntax.{assign, rv_opd, copy, place, aggregate, int, seq, w8}
use prog.Wp.{Wp, after_seq, at_return}
use types.Kit.{Post as After, any_q}
use denote.Exit.{yes}
use denote.RawPtr.{Ptr, null_ptr}
use Rattle.core.proofs.alloc.Calls.{handle_tells}
use contract.Running.{tables_of}
use Rattle.std.proofs.alloc.Global.TheLaws as heap_laws
use Rattle.std.proofs.impls.GlobalAllocator.TheImpl.Met as impl_met
use Rattle.std.specs.contracts.alloc.Global as heap_row
use Rattle.std_alloc.proofs.BoxSteps.Form as box
use Rattle.std_alloc.specs.contracts.boxed.Box as plain_box
use Rattle.std_alloc.specs.contracts.boxed.Box.from_raw as callee
use Rattle.std_alloc.proofs.boxed.Box.from_raw.Met.{met}
use Rattle.c_handles.proofs.Destruct++none.drop.Code as none_code
use Rattle.c_handles.specs.Holds.{unboxed}
use Rattle.c_handles.specs.contracts.held.Held.into_box as F
use Rattle.c_handles.specs.contracts.held.Held.into_box.Key.{name as #self}
use Rattle.c_handles.proofs.held.Held.into_box.Statement.{statement}
use Rattle.c_handles.proofs.held.Held.into_box.Code as code

pub into_box_spec : {M : Type 1} → statement M
unfolding none_code.code tables_of
into_box_spec {M} 𝓤 𝓛 𝓜 𝓡 wired T L dx glue =
    let H = 𝓛.H in let 𝓣 = tables 𝓤 H 𝓜 𝓡 𝓡.env in let R : RattleType = param 0 T in
    let τ = bare (layout heap_row.the_row) in let Z : RattleType = arg τ no heap_row.the_row in
    let LZ = arg_laws τ no heap_row.the_row heap_laws.the_row_laws refl in
    let dd = impl ("c_handles::Destruct++none::drop" ∷ []) (tcons (layout Z) tnil) dnil in
    let E : box.Bx = record {
      row = T;
      laws = L;
      al = record {
        row = Z;
        laws = LZ;
        g = ghosts;
        d =
            dict;
        drops = dd;
      };
    } in
    let B : RattleType = box.B E in
    let B₀ : RattleType = plain_box.the_row R heap_row.the_row ghosts in
    let En = F.ended T dx in let c = F.clauses T dx 𝓛 𝓜.mem 𝓡.returns in
    let inst = bounded (a_type ∷ []) (T, tt) (dcons dx dnil) in
    let fn : Fn = inst_fn inst code.function in
    let hs : Stays En.signature.params En.kept = (
      stay_dropped (plain (λ _. Holder R)) no,
      (stay_dropped (plain (λ _. heap_row.the_row)) yes, tt),
    ) in
    let k = triple_of 𝓛 (callee.signature T Z ghosts dict dd) (callee.spec T Z ghosts dict dd 𝓛
    𝓜.mem 𝓡.returns) in
    let known = met 𝓤 𝓛 𝓜 𝓡 (code.calls-std_alloc::boxed::Box::from_raw 𝓡.env wired) T Z L LZ
    ghosts dict dd
    (impl_met.passed 𝓡.env (code.calls-std_heap::GlobalAllocator::allocate 𝓡.env wired)
    (code.calls-std_heap::GlobalAllocator::deallocate 𝓡.env wired)
    (code.calls-std_heap::GlobalAllocator::grow 𝓡.env wired)
    (code.calls-std_heap::GlobalAllocator::shrink 𝓡.env wired) M 𝓤 𝓛 𝓜 𝓡)
    (glues "c_handles::Destruct++none::drop" 𝓡.env
    (code.calls-c_handles::Destruct++none::drop 𝓡.env wired)
    Z LZ M 𝓤 𝓛 𝓜 𝓡) in
    proved_at 𝓛 En hs c 𝓜 𝓡 (
      Goes-blank 𝓛 1 (plain (λ _. Holder R)) no (λ κs x f. tt),
      (Goes-dropped 𝓛 1 (plain (λ _. heap_row.the_row)) yes (λ κs x f. refl), tt),
    )
    (#self inst) fn (code.unfolded 𝓤 H 𝓜 𝓡 wired (T, tt) dx) (λ z are.
    let κ = z.0.0.0 in let q = z.0.1.0 in let d : (Holder R).Denot = z.0.3.0 in
    let x : Option T.Denot = d.value in
    let a = z.0.3.1.0 in
    let Out : RattleType = type_at En.signature.result z.0.0 in
    let Post : Val → SProp 𝓤 = (walk_of 𝓛 En hs c).post z in
    let Run : List Val → SProp 𝓤 = λ ws. WpFn 𝓤 H 𝓣.C 𝓣.Λ fn ws Post in
    let inT = κ ⊑ T.lives in let inZ = κ ⊑ Z.lives in
    let both = ‵ (flft κ (Share.left q)) ⊛ ‵ (flft κ (Share.right q)) ⊛ ‵ ftrue in
    qed 𝓛 (((‵ (flft κ q) ⊛ ‵ ftrue) ⊛ ‵ (owns (types_at En.signature.params z.0.0) z.0.3 z.0.4))
    ∷ raw (fact 𝓤 inT) ∷ ‵ ftrue ∷ []) ∵
    move ! (1 ∷ []) $ heard ! inT (λ le. split ! $ split ! $ move ! (2 ∷ []) $ fsplit ! $
    held_out R ! d z.0.4.0 (λ ew. move ! (1 ∷ []) $ fsplit ! $
    handle_tells E.al ! a z.0.4.1.0 (λ hv ea fa. move ! (2 ∷ []) $
    either R ! d.at x (λ en ex.
    let us : List Val = word null_ptr ∷ hv ∷ [] in
    let is_word : z.0.4.0 ≡ word null_ptr ∷ [] = ew ∙ ap (λ (p : Ptr). word p ∷ []) en in
    let r : Out.Denot = None in let v : Val = live 0 vnil in let Says : Type 0 = unboxed r ≡ x in
    let good : Good (layout Out) v = (tt, (record { fits = lit< tt }, tt)) in
    suffices ! (Run us) (subst (λ (ws : List Val). ent 𝓤 (Run us) (Run ws)) (sym (λ i. is_word i
    ++ (ea i ++ []))) (id⊢ 𝓤 (Run us))) $
    keep ! (2 ∷ 3 ∷ []) $ join ! $
    enter ! 𝓣.C 𝓣.Λ fn us Post $ alloc_all ! (λ l. pass_all ! refl (
      word-good R null_ptr,
      (
        fa,
        tt,
      ),
    ) $
    sets ! (of_opd ! (get_in ! (fld ! refl (stop !)) (sub ! 0 refl (whole !)))) refl (Ptr-Good
    null_ptr) $
    sets ! (of_opd ! (get ! refl)) refl (Ptr-Good null_ptr) $
    sets ! (bin ! (get ! refl) (lit ! tt) tt) refl (tt, tt) $
    first ! $ branches ! (get ! refl) (λ _.
    sets_last ! (agg ! (and_then ! (lit ! tt) (no_more !))) refl good $
    exec ! 𝓣.C 𝓣.Λ (env fn.locals l) (after 4 fn.body) (at_ret (env fn.locals l) Post) $
    sets ! (of_opd ! (get ! refl)) refl good $ returns ! (look_at ! 0 refl) $ free_all ! refl $
    use0 𝓛 (raw (fact 𝓤 Says)) (fact_i 𝓤 Says (emp 𝓤) (sym ex)) $
    use0 𝓛 (‵ (Out.own_val r (v ∷ []))) (none_of 𝓛 B₀) $ nothing ! $ nothing ! $ fjoin ! $
    nothing ! $ fjoin ! $
    move ! (3 ∷ 0 ∷ 1 ∷ 2 ∷ []) $ by ! (leaves 𝓛 En hs c z v r (tt, (tt, tt)) (tt, (tt, tt))))
    (λ wrong. absurd wrong)))
    (λ b o y eb ey test.
    let us : List Val = word (block_ptr b o) ∷ hv ∷ [] in
    let is_word : z.0.4.0 ≡ word (block_ptr b o) ∷ [] = ew ∙ ap (λ (p : Ptr). word p ∷ []) eb in
    suffices ! (Run us) (subst (λ (ws : List Val). ent 𝓤 (Run us) (Run ws)) (sym (λ i. is_word i
    ++ (ea i ++ []))) (id⊢ 𝓤 (Run us))) $
    -- [the box; the handle; nothing; the token; nothing]
    keep ! (0 ∷ 1 ∷ 3 ∷ 4 ∷ []) $ move ! (2 ∷ []) $
    use1 𝓛 (‵ (flft κ (Share.left q)) ⊛ ‵ (flft κ (Share.right q))) (𝓛.lfts.lft_split κ q) $
    split ! $
    enter ! 𝓣.C 𝓣.Λ fn us Post $ alloc_all ! (λ l. pass_all ! refl (
      word-good R (block_ptr b o),
      (fa, tt),
    ) $
    sets ! (of_opd ! (get_in ! (fld ! refl (stop !)) (sub ! 0 refl (whole !)))) refl (tt, tt) $
    sets ! (of_opd ! (get ! refl)) refl (tt, tt) $
    sets ! (bin ! (get ! refl) (lit ! tt) (tests_null (block_ptr b o) test)) refl (tt, tt) $
    first ! $ branches ! (get ! refl) (λ wrong. absurd wrong) (λ _.
    first ! $ blocks ! $ sets ! (of_opd ! (get ! refl)) refl fa $
    sets ! (of_opd ! (get ! refl)) refl (tt, tt) $
    let g : k.Ghost = (
      (
        (κ, (κ, tt)),
        (Share.left q, (Share.right q, tt)),
        tt,
        (
          a,
          (
            block_ptr b o,
            tt,
          ),
        ),
        (hv ∷ [], (vptr b o ∷ [], tt)),
      ),
      y,
    ) in
    let Ce = callee.ended T Z ghosts dict dd in let Ev = env fn.locals l in
    move ! (2 ∷ []) $ use0 𝓛 (raw (fact 𝓤 inZ)) (fact_i 𝓤 inZ (emp 𝓤) (⊑_static κ)) $ join ! $
    use0 𝓛 (raw (fact 𝓤 inT)) (fact_i 𝓤 inT (emp 𝓤) le) $ join ! $
    nothing ! $ feq_i ! (List Val) (vptr b o ∷ []) (vptr b o ∷ []) refl $ fjoin ! $
    move ! (4 ∷ 0 ∷ []) $ fjoin ! $
    move ! (3 ∷ 4 ∷ []) $ join ! $ move ! (3 ∷ 0 ∷ []) $ join ! $ join ! $ join ! $
    use1 𝓛 (raw (k.pre g)) (id⊢ 𝓤 (k.pre g)) $
    calls_at_last ! (framed 𝓤 H 𝓜 𝓣) k known g (and_then ! (get ! refl) (and_then ! (get ! refl)
    (no_more !))) (λ u.
    use1 𝓛 (later (some (λ (r : B.Denot). (both ⊛ ‵ (B.own_val r (u ∷ []))) ⊛
    some (λ (ls : Lasts Ce g.0.0 g.0.3). ‵ (lasts Ce g.0.0 g.0.3 ls) ⊛
    (raw (fact 𝓤 (r.value ≡ y)) ⊛ raw (fact 𝓤 (r.alloc ≡ a))))))) (id⊢ 𝓤 (k.post g u)) $
    await ! tt $ pick ! (λ r. split ! $ move ! (1 ∷ []) $ pick ! (λ ls. split3 ! $ drop ! $
    heard ! (r.value ≡ y) (λ same. drop ! $
    split ! $ split ! $ move ! (1 ∷ []) $ split ! $ move ! (2 ∷ 0 ∷ []) $
    use2 𝓛 (‵ (flft κ q)) (𝓛.lfts.lft_join κ q) $ join ! $ move ! (1 ∷ []) $
    box_out E ! r (u ∷ []) (λ b' o' hw e' eu fw. box_in E ! r b' o' r.value e' refl $
    let w : Val = box.word E hw b' o' in let typed : Good (layout B₀) w = box.box_typed E hw b' o'
    fw in
    let is_w : u ≡ w = ap only eu in let out : Val = live 1 (vcons w vnil) in
    let some_box : Out.Denot = Some r in
    let Says : Type 0 = unboxed some_box ≡ x in
    let good : Good (layout Out) out = (
      and_tt _ typed.0,
      (
        record { fits = lit< tt },
        (
          typed.1,
          tt,
        ),
      ),
    ) in
    let Then : After 𝓤 H = any_q (after_seq 𝓤 H (Wp 𝓤 H 𝓣.C 𝓣.Λ Ev (after 4 fn.body) (at_return 𝓤
    H Ev Post)) (at_return 𝓤 H Ev Post)) in
    lands_last ! refl (subst (Good (layout B₀)) (sym is_w) typed) $
    exec ! 𝓣.C 𝓣.Λ Ev (seq (assign (place 7 []) (rv_opd (copy (place 8 [])))) (assign (place 6 [])
    (aggregate (int w8 1 ∷ copy (place 7 []) ∷ [])))) Then $
    sets ! (is ! (of_opd ! (get ! refl)) is_w) refl typed $
    sets_last ! (agg ! (and_then ! (lit ! tt) (and_then ! (get ! refl) (no_more !)))) refl good $
    exec ! 𝓣.C 𝓣.Λ Ev (after 4 fn.body) (at_ret Ev Post) $
    sets ! (of_opd ! (get ! refl)) refl good $ returns ! (look_at ! 0 refl) $ free_all ! refl $
    use1 𝓛 (‵ (Out.own_val some_box (out ∷ []))) (Some-of 𝓛 B₀ r w) $
    use0 𝓛 (raw (fact 𝓤 Says)) (fact_i 𝓤 Says (emp 𝓤) (ap Some same ∙ sym ey)) $
    nothing ! $ nothing ! $ fjoin ! $ nothing ! $ fjoin ! $ move ! (3 ∷ 0 ∷ 2 ∷ 1 ∷ []) $
    by ! (leaves 𝓛 En hs c z out some_box (tt, (tt, tt)) (tt, (tt, tt)))))))))))))))
