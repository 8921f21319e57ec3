-- A node that has joined a cycle with its registers and letters set aside shades what they hold,
-- and gets them back.
use Rattle.std.proofs.Common.{◌≡◌, ◌≢◌, ℕ, zero, suc, ◌<◌, ◌⊎◌, true, List, [], ◌∷◌, ◌++◌, length, map, get_or, Option, None, Some, option_to_list, refl, sym, ap, ◌∙◌, subst, ⊎_elim, inl, inr, arith}
use Rattle.std.proofs.lemmas.Bool.{ne_eqb, not_from_false}
use Rattle.ids.specs.Limits.{Shaped}
use Rattle.ids.specs.declared.names.Ref.{Ref}
use Rattle.model.specs.declared.event.Letter.{Letter}
use Rattle.model.specs.State.{Heap, NodeState}
use Rattle.model.specs.Heaps.{no_letter}
use Rattle.model.specs.References.{IfAny}
use Rattle.model.specs.Effects.{Work}
use Rattle.model.specs.Shading.{is_open, filled, reference_of, roots, enter, join, make_all_grey, seen, see_to}
use Rattle.model.specs.Cuts.{Cut, Among, Becomes}
use Rattle.model.proofs.Slots.{occupied-within}
use Rattle.model.proofs.Shading.{filled-append, see_to-open}
use Rattle.model.proofs.Joining.{join-open}
use Rattle.laws.proofs.Lookups.{among-append_left, among-append_right, among-append}
use Rattle.laws.proofs.Invariant.{Safe, RootsAll, Inv}
use Rattle.laws.proofs.Inner.{Known}
use Rattle.laws.proofs.Acting.{with_heap, put, put-here, becomes-put}
use Rattle.laws.proofs.Greys.{greys-all, GreyApart, grey-apart}
use Rattle.laws.proofs.HeapSteps.{re_rooted, scanned-inner}
use Rattle.laws.proofs.OwnEvents.{roots-moves}
use Rattle.laws.proofs.Joins.{entering}
use Rattle.laws.proofs.Moves.{worked, Moves, inner-moves, moves-through, Met, Shadeable, shade-met}

-- the reference of a register or letter is among the roots
pub filled-among : (os : List (Option Ref)) (k : ℕ) (r : Ref) → get_or os k None ≡ Some r
    → Among r (filled os)
filled-among [] k r h = absurd cc
filled-among (o ∷ os) zero r h =
    among-append_left r (option_to_list o) (filled os)
    (subst (λ (z : Option Ref). Among r (option_to_list z)) (sym h) (inl refl))
filled-among (o ∷ os) (suc k) r h =
    among-append_right r (option_to_list o) (filled os) (filled-among os k r h)

letter-at : (ls : List Letter) (k : ℕ)
    → get_or (map reference_of ls) k None ≡ (get_or ls k no_letter).reference
letter-at [] k = refl
letter-at (l ∷ ls) zero = refl
letter-at (l ∷ ls) (suc k) = letter-at ls k

filled-append-among : (os qs : List (Option Ref)) (r : Ref)
    → Among r (filled os) ⊎ Among r (filled qs) → Among r (filled (os ++ qs))
filled-append-among os qs r h =
    subst (Among r) (sym (filled-append os qs))
    (⊎_elim {C = Among r (filled os ++ filled qs)}
    (λ a. among-append_left r (filled os) (filled qs) a)
    (λ b. among-append_right r (filled os) (filled qs) b) h)

pub option-holds : (P : Ref → Type 0) (o : Option Ref) → ((r : Ref) → o ≡ Some r → P r) → IfAny P o
option-holds P None all = tt
option-holds P (Some r) all = all r refl

-- what holds of each reference among the roots holds of all roots
pub all-roots : (P : Ref → Type 0) (h : Heap) → ((r : Ref) → Among r (filled (roots h)) → P r)
    → RootsAll P h
all-roots P h all = record {
  registers = λ k.
      option-holds P _ (λ r e.
      all r (filled-append-among h.registers (map reference_of h.letters) r
      (inl (filled-among h.registers k r e))));
  letters = λ k.
      option-holds P _ (λ r e.
      all r (filled-append-among h.registers (map reference_of h.letters) r
      (inr (filled-among (map reference_of h.letters) k r (letter-at h.letters k ∙ e)))));
}

pub filled-all : (P : Ref → Type 0) (os : List (Option Ref))
    → ((k : ℕ) → IfAny P (get_or os k None))
    → (r : Ref) → Among r (filled os) → P r
filled-all P [] all r never = absurd never
filled-all P (None ∷ os) all r a = filled-all P os (λ k. all (suc k)) r a
filled-all P (Some s ∷ os) all r (inl e) = subst P (sym e) (all zero)
filled-all P (Some s ∷ os) all r (inr a) = filled-all P os (λ k. all (suc k)) r a

pub roots-all : (P : Ref → Type 0) (h : Heap) → RootsAll P h → (r : Ref)
    → Among r (filled (roots h)) → P r
roots-all P h all r a = ⊎_elim {C = P r}
    (λ b. filled-all P h.registers all.registers r b)
    (λ b.
    filled-all P (map reference_of h.letters)
    (λ k. subst (IfAny P) (sym (letter-at h.letters k)) (all.letters k)) r b)
    (among-append r (filled h.registers) (filled (map reference_of h.letters))
    (subst (Among r) (filled-append h.registers (map reference_of h.letters)) a))

-- The node has entered the cycle, without registers and letters. Its grey list has one entry, which
-- names no object.
pub record Dressing (shape : Shaped) (c d : Cut) (i cycle : ℕ) (s : NodeState) : Type 0 where
  pub inv : Inv shape c
  pub inside : i < shape.nodes
  pub now : c i ≡ record {
    local = entering s.local cycle (length s.local.heap.slots ∷ []) s.local.ring.token;
    sent = s.sent;
  }
  pub calm : s.local.heap.grey ≡ []
  pub before : s.local.phases.ended ≢ cycle
  pub safe : (r : Ref) → Among r (filled (roots s.local.heap)) → Safe c r
  pub becomes : Becomes c d i (worked s (join s.local cycle))

module _ {shape : Shaped} {c d : Cut} {i cycle : ℕ} {s : NodeState}
    (h : Dressing shape c d i cycle s) where
  abbrev own_roots : List Ref
  own_roots = filled (roots s.local.heap)

  abbrev bare_state : NodeState
  bare_state = record {
    local = entering s.local cycle (length s.local.heap.slots ∷ []) s.local.ring.token;
    sent = s.sent;
  }

  abbrev bare_work : Work
  bare_work = seen true own_roots bare_state.local

  abbrev apart : GreyApart s.local.own cycle s.local.heap own_roots
  apart = grey-apart s.local.own cycle s.local.heap own_roots

  -- shaded; then with registers and letters again; then without the entry
  abbrev shaded_state : NodeState
  shaded_state = worked bare_state bare_work

  abbrev rooted_state : NodeState
  rooted_state = re_rooted shaded_state s.local.heap.registers s.local.heap.letters

  abbrev final_state : NodeState
  final_state = with_heap rooted_state (record rooted_state.local.heap { grey = apart.new })

  bare-heap : bare_work.local.heap
      ≡ record (make_all_grey s.local.own cycle s.local.heap own_roots) {
        registers = [];
        letters = [];
        grey = (length s.local.heap.slots ∷ []) ++ apart.new;
      }
  bare-heap = apart.same [] [] (length s.local.heap.slots ∷ [])

  final-heap : record bare_work.local.heap {
    registers = s.local.heap.registers;
    letters = s.local.heap.letters;
    grey = apart.new;
  } ≡ make_all_grey s.local.own cycle s.local.heap own_roots
  final-heap =
      ap (λ (z : Heap). record z {
        registers = s.local.heap.registers;
        letters = s.local.heap.letters;
        grey = apart.new;
      }) bare-heap
      ∙ sym (apart.same s.local.heap.registers s.local.heap.letters [])
      ∙ ap (λ (z : List ℕ).
      make_all_grey s.local.own cycle (record s.local.heap { grey = z }) own_roots)
      (sym h.calm)

  final-is : worked s (join s.local cycle) ≡ final_state
  unfolding enter
  final-is =
      ap (worked s) (join-open s.local cycle (ne_eqb s.local.phases.ended cycle h.before))
      ∙ ap (λ (z : Heap). with_heap shaded_state z) (sym final-heap)

  pub dress-moves : Moves shape c d i
  dress-moves =
      let opened_bare : is_open bare_state.local ≡ true =
      not_from_false _ (ne_eqb s.local.phases.ended cycle h.before) in
      let c1 : Cut = put c i shaded_state in
      let c2 : Cut = put c1 i rooted_state in
      let shadeable : Shadeable shape c i own_roots = record {
        inv = h.inv;
        inside = h.inside;
        safe = h.safe;
        quiet = λ _.
            inl (λ grey.
            absurd (let never : length s.local.heap.slots ∷ [] ≡ [] =
            ap (λ (z : NodeState). z.local.heap.grey) (sym h.now) ∙ grey in cc));
      } in
      let b1 : Becomes c c1 i (worked (c i) (see_to true own_roots (c i).local)) =
      subst (λ (z : NodeState). Becomes c c1 i (worked z (see_to true own_roots z.local)))
      (sym h.now)
      (subst (λ (z : Work). Becomes c c1 i (worked bare_state z))
      (sym (see_to-open true own_roots bare_state.local opened_bare))
      (becomes-put c i shaded_state)) in
      let first : Met shape c c1 i own_roots = shade-met shadeable b1 in
      let b2 : Becomes c1 c2 i (re_rooted (c1 i) s.local.heap.registers s.local.heap.letters) =
      subst (λ (z : NodeState).
      Becomes c1 c2 i (re_rooted z s.local.heap.registers s.local.heap.letters))
      (sym (put-here c i shaded_state)) (becomes-put c1 i rooted_state) in
      let known : RootsAll (Known c1 i) (record (c1 i).local.heap {
        registers = s.local.heap.registers;
        letters = s.local.heap.letters;
      }) =
      (let all = all-roots (Known c1 i) s.local.heap first.known in
      record { registers = all.registers; letters = all.letters }) in
      let second : Moves shape c1 c2 i =
      roots-moves s.local.heap.registers s.local.heap.letters h.inside b2 known first.moves.inv in
      let at2 : c2 i ≡ rooted_state = put-here c1 i rooted_state in
      let greys_are : (c2 i).local.heap.grey ≡ (length s.local.heap.slots ∷ []) ++ apart.new =
      ap (λ (z : NodeState). z.local.heap.grey) at2 ∙ ap (λ (z : Heap). z.grey) bare-heap in
      let wide : length (c2 i).local.heap.slots ≡ length s.local.heap.slots =
      ap (λ (z : NodeState). length z.local.heap.slots) at2
      ∙ (greys-all (λ _. Unit {0}) s.local.own cycle bare_state.local.heap own_roots
      (λ _ _. tt)).rewrites.width in
      let b3 : Becomes c2 d i (with_heap (c2 i) (record (c2 i).local.heap { grey = apart.new })) =
      subst (λ (z : NodeState).
      Becomes c2 d i (with_heap z (record z.local.heap { grey = apart.new }))) (sym at2)
      (record {
        changed = h.becomes.changed ∙ final-is;
        others = λ j other.
            h.becomes.others j other
            ∙ sym
            ((becomes-put c1 i rooted_state).others j other
            ∙ (becomes-put c i shaded_state).others j other);
      }) in
      let third : Moves shape c2 d i =
      inner-moves (scanned-inner apart.new (length s.local.heap.slots) h.inside b3
      (λ k a.
      ⊎_elim {C = Among k apart.new ⊎ (k ≡ length s.local.heap.slots)}
      (λ e. inr e) (λ b. inl b) (subst (Among k) greys_are a))
      (λ none.
      absurd
      (let never : (length s.local.heap.slots ∷ []) ++ apart.new ≡ [] = sym greys_are ∙ none in
      cc))
      (λ g y there.
      absurd
      (let below =
      occupied-within (c2 i).local.heap.slots (length s.local.heap.slots) g y there in
      omega (arith, below, wide)))
      second.inv) refl in
      moves-through first.moves (moves-through second third)
