-- `get_mut` lends one value, and the block follows it. Assumes `Logic`.
use Rattle.arena.proofs.Names.{◌≡◌, refl, sym, subst, List, [], ◌∷◌, ◌++◌, ℕ, ◌+◌, ◌*◌}
use Rattle.arena.proofs.Names.{◌<◌, ◌^◌, length, get_or, set, length-set, full_share, Lft}
use Rattle.arena.proofs.Names.{Share, GName, Fml, ftrue, fsep, flft, ent, sep, id⊢}
use Rattle.arena.proofs.Names.{SProp, Fn, a_type, named, w64, inst_fn, Val, vptr, vint, WpFn, sem}
use Rattle.arena.proofs.Names.{Logic, ‵, raw, ◌⊛◌, some, at_ret, ◌$◌, ◌∵◌, !, qed, by, move, keep}
use Rattle.arena.proofs.Names.{drop, use0, use1, use2, split, join, rewrite, fsplit, fsplit3, fjoin}
use Rattle.arena.proofs.Names.{pick, flt_i, suffices, done, whole, sub, look_in, enter, stop, fld}
use Rattle.arena.proofs.Names.{load, bin, of_opd, size_lit, first, blocks, exec, returns, alloc_all}
use Rattle.arena.proofs.Names.{pass_all, free_all, look_at, get, through, sets, sets_last, env}
use Rattle.arena.proofs.Names.{fact, fact_i, tables, ◌⊑◌, usize, yes, no, row, cell_at, part_at}
use Rattle.arena.proofs.Names.{shares, place, others, takes, puts, layouts}
use Rattle.arena.proofs.Names.{owns, Ptr, block_ptr, plain, types_at, nothing, heard, Stays}
use Rattle.arena.proofs.Names.{walk_of, stay_dropped, Goes-dropped, El, R, el_x, sz}
use Rattle.arena.proofs.Names.{proved_at, leaves}
use base.Logic.{emp}
use seplogic.Ra.Ura.{Ura}
use types.Kit.{later, await, group, fpack}
use types.Run.{addr}
use denote.Follow.{follows, Part, lends_Part}
use denote.Memory.{mem, part_of}
use denote.Ref.{MutBor, MutRef}
use denote.Signature.{mut_ref_to}
use denote.Triple.Walked.{Goes-spent_ref}
use Rattle.std_alloc.proofs.VecSteps.Shapes.{after}
use Rattle.arena.specs.Block.{room_of, block_owns}
use Rattle.arena.specs.LendsPlace.{with_values}
use Rattle.arena.proofs.Opens.{B, Fields, owner, IsSmall, block_in}
use Rattle.arena.proofs.Places.{Inside, inside, same-read}
use Rattle.arena.specs.contracts.block.Block.get_mut as F
use Rattle.arena.specs.contracts.block.Block.get_mut.Key.{name as #self}
use Rattle.arena.proofs.block.Block.get_mut.Statement.{statement}
use Rattle.arena.proofs.block.Block.get_mut.Code as code

-- a value that is lent: the block's cell, what that holds, the start of the block, and what is
-- known of the value's number
record Lent (E : El) (d : (B E).Denot) (index : ℕ) : Type 0 where
  rb : ℕ
  ro : ℕ
  b : ℕ
  o : ℕ
  ms : List Val
  start : d.start ≡ block_ptr b o
  word : ms ≡ owner E b o ∷ []
  small : IsSmall E d
  value : Inside E d.emptied d.unused d.values index o

module _ (E : El) {M : Type 1} {𝓤 : Ura M} (𝓛 : Logic 𝓤) {d : (B E).Denot} {index : ℕ}
    (l : Lent E d index) where
  -- what stays with the block while the value is lent
  abbrev Rest : Fml
  Rest = fsep (others (shares (R E)) full_share d.values index l.b (d.emptied * sz E + l.o))
      (fsep (fsep (room_of (R E) d.emptied l.b l.o)
      (room_of (R E) d.unused l.b ((d.emptied + length d.values) * sz E + l.o)))
      (fsep ((Fields E).own_val (d.start, tt) l.ms)
      (cell_at full_share (B E).mir (owner E l.b l.o ∷ []) l.rb l.ro)))

  back : (w : el_x E) → ent 𝓤
      (sep 𝓤 (sem 𝓛 ((mem (R E)).own_at w l.b (index * sz E + l.o))) (sem 𝓛 Rest))
      (sem 𝓛 ((mem (B E)).own_at (with_values d (set d.values index w)) l.rb l.ro))
  unfolding part_of
  back w =
      let long : length (set d.values index w) ≡ length d.values = length-set d.values index w in
      let from : ℕ = d.emptied * sz E + l.o in
      qed 𝓛 (‵ (part_at (R E) full_share w l.b (index * sz E + l.o)) ∷ ‵ Rest ∷ []) ∵
      rewrite ! 0 (λ (j : ℕ). ‵ (part_at (R E) full_share w l.b j)) l.value.here refl $
      move ! (1 ∷ []) $ fsplit ! $ move ! (2 ∷ 0 ∷ []) $
      use2 𝓛 (‵ (row (R E) full_share (set d.values index w) l.b from))
      (puts (shares (R E)) full_share 𝓛 d.values index w l.b from l.value.lt) $
      move ! (1 ∷ []) $ fsplit ! $
      rewrite ! 0 (λ (j : ℕ).
      ‵ (fsep (room_of (R E) d.emptied l.b l.o)
      (room_of (R E) d.unused l.b ((d.emptied + j) * sz E + l.o)))) (sym long) refl $
      move ! (2 ∷ 0 ∷ []) $ fjoin ! $
      flt_i ! ((d.emptied + length (set d.values index w) + d.unused) * sz E) (2 ^ 63)
      (subst (λ (j : ℕ). (d.emptied + j + d.unused) * sz E < 2 ^ 63) (sym long) l.small) $
      fjoin ! $
      rewrite ! 0 (λ (p : Ptr). ‵ (block_owns (R E) p d.emptied (set d.values index w) d.unused))
      (sym l.start) refl $
      move ! (1 ∷ []) $ fsplit ! $ move ! (0 ∷ 2 ∷ []) $ fjoin ! $ move ! (1 ∷ []) $
      rewrite ! 0 (λ (ws : List Val). ‵ (cell_at full_share (B E).mir ws l.rb l.ro)) (sym l.word)
      refl $ fjoin ! $
      fpack ! (List Val) (λ (us : List Val).
      fsep (cell_at full_share (B E).mir us l.rb l.ro)
      ((B E).own_val (with_values d (set d.values index w)) us)) l.ms $ done !

pub get_mut_spec : {M : Type 1} → statement M
get_mut_spec 𝓤 𝓛 𝓜 𝓡 wired T L =
    let H = 𝓛.H in let 𝓣 = tables 𝓤 H 𝓜 𝓡 𝓡.env in let E : El = record { row = T; laws = L } in
    let Ed = F.ended T in let c = F.clauses T 𝓛 𝓜.mem 𝓡.returns in
    let inst = layouts (a_type ∷ []) (T, tt) in let fn : Fn = inst_fn inst code.function in
    let hs : Stays Ed.signature.params Ed.kept = (
      stay_dropped (mut_ref_to (0 ∷ []) tt (plain (λ _. B E))) no,
      (stay_dropped (plain (λ _. usize)) yes, tt),
    ) in
    proved_at 𝓛 Ed hs c 𝓜 𝓡 (
      Goes-spent_ref 𝓛 2 (0 ∷ []) tt (plain (λ _. B E)),
      (Goes-dropped 𝓛 2 (plain (λ _. usize)) yes (λ κs x f. refl), tt),
    )
    (#self inst) fn (code.unfolded 𝓤 H 𝓜 𝓡 wired (T, tt)) (λ z are.
    let κs = z.0.0 in let κ : Lft = κs.0 in let q : Share = z.0.1.0 in let a = z.0.3 in
    let vss = z.0.4 in
    let rb : ℕ = a.0.ref_ptr.0 in let ro : ℕ = a.0.ref_ptr.1 in let γ : GName = a.0.ghost_name in
    let d : (B E).Denot = a.0.now in let index : ℕ = a.1.0 in
    let xs = d.values in let k : ℕ = d.emptied in let n : ℕ = d.unused in let s : ℕ = sz E in
    let Asks : Type 0 = (k ≡ 0) × (index < length xs) in
    let Post : Val → SProp 𝓤 = (walk_of 𝓛 Ed hs c).post z in
    let Run : List Val → SProp 𝓤 = λ ws. WpFn 𝓤 H 𝓣.C 𝓣.Λ fn ws Post in
    let us : List Val = vptr rb ro ∷ vint w64 index ∷ [] in
    qed 𝓛 (((‵ (flft κ q) ⊛ (‵ (flft κs.1.0 z.0.1.1.0) ⊛ ‵ ftrue)) ⊛ ‵
    (owns (types_at Ed.signature.params κs) a vss)) ∷ raw (fact 𝓤 (κs.1.0 ⊑ T.lives))
    ∷ raw (fact 𝓤 Asks) ∷ []) ∵
    move ! (1 ∷ 2 ∷ []) $ heard ! (κs.1.0 ⊑ T.lives) (λ le. heard ! Asks (λ asked.
    split ! $ split ! $ move ! (2 ∷ []) $ fsplit ! $ fsplit3 ! $ drop ! $
    keep ! (0 ∷ 1 ∷ 3 ∷ 4 ∷ []) $
    suffices ! (Run us) (subst (λ (ws : List Val). ent 𝓤 (Run us) (Run ws))
    (sym (λ i. are.0.0 i ++ (are.1.0.0 i ++ []))) (id⊢ 𝓤 (Run us))) $
    enter ! 𝓣.C 𝓣.Λ fn us Post $
    alloc_all ! (λ l. pass_all ! refl ((tt, tt), ((tt, record { fits = are.1.0.1 }), tt)) $
    block_in E ! tt d rb ro (λ b o ms e word small.
    let i = inside E k n xs index o asked small in let from : ℕ = k * s + o in
    let at : ℕ = index * s + o in let x : el_x E = get_or xs index i.some_value in
    let one : Lent E d index = record {
      rb = rb;
      ro = ro;
      b = b;
      o = o;
      ms = ms;
      start = e;
      word = word;
      small = small;
      value = i;
    } in
    let way = back E 𝓛 one in let kept : Fml = Rest E 𝓛 one in
    let with : el_x E → (B E).Denot = λ w. with_values d (set xs index w) in
    let was = (B E).coded.code d in
    move ! (2 ∷ []) $ use1 𝓛
    (‵ (part_at (R E) full_share x b (place s from index)) ⊛ ‵
    (others (shares (R E)) full_share xs index b from))
    (takes (shares (R E)) full_share 𝓛 xs index i.some_value b from i.lt) $ split ! $
    rewrite ! 0 (λ (j : ℕ). ‵ (part_at (R E) full_share x b j)) (sym i.here) refl $
    -- [the value; the other values; the room behind them, and that before them; the block's cell;
    -- its fields]
    first ! $ blocks ! $
    sets ! (of_opd ! (load ! (through ! refl (fld ! refl (stop !)))
    (look_in ! 4 (sub ! 0 refl (whole !))))) refl (tt, tt) $
    sets ! (bin ! (get ! refl) (size_lit ! (record { fits = i.tiny })) (record { fits = i.far }))
    refl
    (tt, record { fits = i.far }) $
    sets ! (bin ! (get ! refl) (get ! refl) tt) refl (tt, tt) $
    sets_last ! (addr ! (through ! refl (stop !))) refl (tt, tt) $
    exec ! 𝓣.C 𝓣.Λ (env fn.locals l) (after 1 fn.body) (at_ret _ Post) $
    sets ! (of_opd ! (get ! refl)) refl (tt, tt) $
    move ! (5 ∷ 4 ∷ []) $ fjoin ! $ move ! (4 ∷ 3 ∷ []) $ fjoin ! $ fjoin ! $ move ! (2 ∷ 0 ∷ []) $
    fjoin ! $ move ! (2 ∷ 3 ∷ 4 ∷ 1 ∷ 0 ∷ []) $ group ! 5 $
    use1 𝓛 (later (some (λ (δ : GName).
    raw (Part 𝓛 (B E) (R E) with (named 0) κ q rb ro b at γ (sem 𝓛 kept) way x δ))))
    (lends_Part 𝓛 (B E) (R E) with (named 0) κ q rb ro b at γ (sem 𝓛 kept) way was was x) $
    await ! tt $ pick ! (λ δ.
    returns ! (look_at ! 0 refl) $ free_all ! refl $
    let r : MutBor (el_x E) = record { ref_ptr = (b, at); ghost_name = δ; now = x } in
    let Told : Type 0 = x ≡ get_or xs index x in
    use1 𝓛 (‵ ((MutRef (named 0) κ (R E)).own_val r (vptr b at ∷ [])) ⊛
    (‵ (flft κ q) ⊛ ‵ (follows (B E) (R E) γ δ with))) (id⊢ 𝓤 _) $ split ! $
    move ! (1 ∷ []) $ split ! $ move ! (0 ∷ 3 ∷ []) $ join ! $
    use0 𝓛 (raw (fact 𝓤 Told)) (fact_i 𝓤 Told (emp 𝓤) (same-read xs index i.some_value x i.lt)) $
    move ! (2 ∷ 0 ∷ []) $ join ! $
    nothing ! $ nothing ! $ fjoin ! $ nothing ! $ fjoin ! $ move ! (2 ∷ 0 ∷ 3 ∷ 1 ∷ []) $
    by ! (leaves 𝓛 Ed hs c z (vptr b at) r (tt, (tt, tt)) (tt, (tt, tt)))))))))
