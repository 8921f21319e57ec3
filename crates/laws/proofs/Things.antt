-- What a space without a collector sees of a heap, and of the messages that a node sends.
use Rattle.std.proofs.Common.{◌≡◌, ◌≢◌, ℕ, ◌+◌, ◌<◌, ◌≤◌, ◌⊎◌, Bool, false, cond, ◌==◌, ◌&&◌, eqb, List, [], ◌∷◌, ◌++◌, length, length-set, map, drop, get_or, set, Option, None, Some, slice_get, refl, sym, ap, ◌∙◌, subst, ⊎_elim, inl, inr, arith, append-nil, append_assoc, get_or-set_same, get_or-set_other}
use Rattle.std.specs.Prelude.{filter, option_map}
use Rattle.std.proofs.lemmas.Bool.{cases_Bool, cases_eq, cases_lt, cond_both, cond-true, cond-false, eq-eqb, ne_eqb}
use Rattle.std.proofs.lemmas.List.{get_or_past, map-append, drop-append-le, drop_more}
use Rattle.std.proofs.lemmas.List.Elements.{filter-append}
use Rattle.std.proofs.lemmas.Option.{slice_get_within, get_or_from_slice_get}
use Rattle.model.specs.References.{no_message}
use Rattle.ids.specs.declared.names.Ref.{Ref}
use Rattle.msg.specs.declared.body.Body.{Body}
use Rattle.msg.specs.declared.body.Message.{Message}
use Rattle.model.specs.State.{Object, Slot, Occupied, Retired, Heap, slot_at}
use Rattle.model.specs.Heaps.{with_rewritten, object_at, sharing, remembering}
use Rattle.model.specs.Counting.{is_reference}
use Rattle.model.specs.Shading.{is_unmarked, with_mark, make_grey, make_all_grey, is_same}
use Rattle.model.specs.Steps.{append_all}
use Rattle.model.specs.Cuts.{Among}
use Rattle.laws.specs.Objects.{Thing, Space, rewriting}
use Rattle.laws.specs.Sights.{thing_of, body_of, programs}
use Rattle.laws.proofs.Lookups.{among-append}
use Rattle.laws.proofs.StepFacts.{length-append_all}
use Rattle.laws.proofs.Slots.{rewritten-at, rewritten-back, rewritten-rewrites}
use Rattle.laws.proofs.GoodHeaps.{own_reference}
use Rattle.model.proofs.Naming.{same-is}

-- ---- heaps

-- a node's registers and letters
abbrev pub desk_of : Heap → Heap
desk_of h = record h { slots = []; free = []; grey = [] }

-- The heap g has the registers and letters of h. Each of its objects is in h, with the same word
-- and places.
pub record Kept (h g : Heap) : Type 0 where
  pub registers : g.registers ≡ h.registers
  pub letters : g.letters ≡ h.letters
  pub objects : (k e : ℕ) (y : Object) → slot_at g k ≡ Occupied e y
      → (x : Object) × (slot_at h k ≡ Occupied e x) × (thing_of y ≡ thing_of x)

-- and no object is gone
pub record Still (h g : Heap) : Type 0 where
  pub kept : Kept h g
  pub lasting : (k e : ℕ) (x : Object) → slot_at h k ≡ Occupied e x
      → (y : Object) × (slot_at g k ≡ Occupied e y)

pub kept-same : {h g : Heap} → g.registers ≡ h.registers → g.letters ≡ h.letters
    → g.slots ≡ h.slots → Kept h g
kept-same registers letters slots = record {
  registers = registers;
  letters = letters;
  objects = λ k e y there. (
    y,
    ap (λ (z : List Slot). get_or z k Retired) (sym slots) ∙ there,
    refl,
  );
}

pub still-same : {h g : Heap} → g.registers ≡ h.registers → g.letters ≡ h.letters
    → g.slots ≡ h.slots → Still h g
still-same registers letters slots = record {
  kept = kept-same registers letters slots;
  lasting = λ k e x there. (x, ap (λ (z : List Slot). get_or z k Retired) slots ∙ there);
}

pub kept-through : {h f g : Heap} → Kept h f → Kept f g → Kept h g
kept-through a b = record {
  registers = b.registers ∙ a.registers;
  letters = b.letters ∙ a.letters;
  objects = λ k e y there.
      let later = b.objects k e y there in
      let first = a.objects k e later.0 later.1 in (first.0, first.1, later.2 ∙ first.2);
}

pub still-through : {h f g : Heap} → Still h f → Still f g → Still h g
still-through a b = record {
  kept = kept-through a.kept b.kept;
  lasting = λ k e x there.
      let first = a.lasting k e x there in b.lasting k e first.0 first.1;
}

pub kept-desk : {h g : Heap} → Kept h g → desk_of g ≡ desk_of h
kept-desk {h = h} {g = g} a =
    ap (λ (z : List (Option Ref)). record (desk_of g) { registers = z }) a.registers
    ∙ ap (λ z. record (desk_of h) { letters = z }) a.letters

-- an object is rewritten in what isn't seen of it: in its mark, in who may know it, or in its age
still-rewritten : (cycle : ℕ) (h : Heap) (r : Ref) (f : Object → Object)
    → ((x : Object) → ((f x).mark ≡ x.mark) ⊎ ((f x).mark ≡ cycle))
    → ((x : Object) → thing_of (f x) ≡ thing_of x) → Still h (with_rewritten h r f)
still-rewritten cycle h r f mark same = record {
  kept = record {
    registers = refl;
    letters = refl;
    objects = λ k e y there.
        let found = rewritten-back h r f k e y there in (
          found.0,
          found.1,
          ⊎_elim {C = thing_of y ≡ thing_of found.0} (λ is. ap thing_of is)
              (λ is. ap thing_of is ∙ same found.0) found.2,
        );
  };
  lasting = λ k e x there.
      let found = (rewritten-rewrites cycle h r f mark).lasting k e x there in
      (found.object, found.there);
}

pub still-sharing : (h : Heap) (r : Ref) → Still h (with_rewritten h r sharing)
still-sharing h r = still-rewritten 0 h r sharing (λ _. inl refl) (λ _. refl)

pub still-remembering : (h : Heap) (r : Ref) → Still h (with_rewritten h r remembering)
still-remembering h r = still-rewritten 0 h r remembering (λ _. inl refl) (λ _. refl)

-- objects that turn grey are marked, and otherwise stay as they are
still-grey : (cycle : ℕ) (h : Heap) (r : Ref) → Still h (make_grey cycle h r)
unfolding make_grey
still-grey cycle h r =
    cond_both (is_unmarked cycle (object_at h r))
    (record (with_rewritten h r (with_mark cycle)) { grey = h.grey ++ r.slot ∷ [] }) h (Still h)
    (λ _.
    let s = still-rewritten cycle h r (with_mark cycle) (λ _. inr refl) (λ _. refl) in
    record {
      kept = record {
        registers = s.kept.registers;
        letters = s.kept.letters;
        objects = s.kept.objects;
      };
      lasting = s.lasting;
    })
    (λ _. still-same refl refl refl)

pub still-greys : (own cycle : ℕ) (h : Heap) (rs : List Ref)
    → Still h (make_all_grey own cycle h rs)
still-greys own cycle h [] = still-same refl refl refl
still-greys own cycle h (r ∷ rs) =
    still-through
    (cond_both (r.node == own) (make_grey cycle h r) h (Still h) (λ _. still-grey cycle h r)
    (λ _. still-same refl refl refl))
    (still-greys own cycle (cond (r.node == own) (make_grey cycle h r) h) rs)

-- ---- an object is rewritten

-- an object of this node has the given reference if the slot and the generation are the same
own-same : (i k g : ℕ) (r : Ref) → r.node ≡ i
    → is_same (own_reference i k g) r ≡ ((k == r.slot) && (g == r.generation))
own-same i k g r own =
    ap (λ (z : Bool). z && ((k == r.slot) && (g == r.generation))) (eq-eqb i r.node (sym own))

abbrev pub LivesIn : Space → ℕ → Heap → Type 0
LivesIn s i h =
    (k g : ℕ) (o : Object) → slot_at h k ≡ Occupied g o
    → s.objects (own_reference i k g) ≡ Some (thing_of o)

pub lives-rewritten : (s : Space) (i : ℕ) (h : Heap) (r : Ref) (f : Object → Object)
    (f' : Thing → Thing) → r.node ≡ i × ((x : Object) → thing_of (f x) ≡ f' (thing_of x))
    → LivesIn s i h → LivesIn (rewriting s r f') i (with_rewritten h r f)
lives-rewritten s i h r f f' both lives k g y there =
    let q : Ref = own_reference i k g in
    let here : Bool = (k == r.slot) && (g == r.generation) in
    let found = rewritten-at h r f k g y there in
    let x : Object = found.0 in
    let test : is_same q r ≡ here = own-same i k g r both.0 in
    let before : s.objects q ≡ Some (thing_of x) = lives k g x found.1 in
    ⊎_elim {C = cond (is_same q r) (option_map f' (s.objects r)) (s.objects q)
    ≡ Some (thing_of y)}
    (λ is.
    cond-true (is_same q r) (option_map f' (s.objects r)) (s.objects q) is
    ∙ ap (λ (z : Ref). option_map f' (s.objects z)) (sym (same-is q r is))
    ∙ ap (option_map f') before
    ∙ ap Some (sym (both.1 x)
    ∙ ap thing_of (sym (found.2 ∙ cond-true here (f x) x (sym test ∙ is)))))
    (λ no.
    cond-false (is_same q r) (option_map f' (s.objects r)) (s.objects q) no
    ∙ before
    ∙ ap (λ (z : Object). Some (thing_of z))
    (sym (found.2 ∙ cond-false here (f x) x (sym test ∙ no))))
    (cases_Bool (is_same q r))

-- rewriting made no object
pub rewriting-back : (s : Space) (r : Ref) (f' : Thing → Thing) (q : Ref) (o : Thing)
    → (rewriting s r f').objects q ≡ Some o → (x : Thing) × (s.objects q ≡ Some x)
rewriting-back s r f' q o =
    cond_both (is_same q r) (option_map f' (s.objects r)) (s.objects q)
    (λ z. z ≡ Some o → (x : Thing) × (s.objects q ≡ Some x))
    (λ is there.
    let found = mapped (s.objects r) there in
    (found.0, ap s.objects (same-is q r is) ∙ found.1))
    (λ _ there. (o, there))
  where
    mapped : (m : Option Thing) → option_map f' m ≡ Some o → (x : Thing) × (m ≡ Some x)
    mapped None never = absurd cc
    mapped (Some x) there = (x, refl)

-- ---- messages

-- the messages for one node, among messages with their receivers
abbrev pub sent_for : ℕ → List (ℕ × Message) → List Message
sent_for to [] = []
sent_for to (m ∷ ms) = cond (eqb m.0 to) (m.1 ∷ sent_for to ms) (sent_for to ms)

-- the messages of programs for it
abbrev pub posts : ℕ → List (ℕ × Message) → List Body
posts to ms = programs (sent_for to ms)

pub programs-append : (xs ys : List Message) → programs (xs ++ ys) ≡ programs xs ++ programs ys
programs-append xs ys =
    ap (filter is_reference) (map-append body_of xs ys)
    ∙ filter-append is_reference (map body_of xs) (map body_of ys)

sent_for-append : (to : ℕ) (ms ns : List (ℕ × Message))
    → sent_for to (ms ++ ns) ≡ sent_for to ms ++ sent_for to ns
sent_for-append to [] ns = refl
sent_for-append to (m ∷ ms) ns = ⊎_elim
    {C = sent_for to ((m ∷ ms) ++ ns) ≡ sent_for to (m ∷ ms) ++ sent_for to ns}
    (λ here. rw here (ap (λ (z : List Message). m.1 ∷ z) (sent_for-append to ms ns)))
    (λ other. rw other (sent_for-append to ms ns))
    (cases_Bool (eqb m.0 to))

pub posts-append : (to : ℕ) (ms ns : List (ℕ × Message))
    → posts to (ms ++ ns) ≡ posts to ms ++ posts to ns
posts-append to ms ns =
    ap programs (sent_for-append to ms ns)
    ∙ programs-append (sent_for to ms) (sent_for to ns)

-- none of them is a program's
abbrev pub IsQuiet : List (ℕ × Message) → Type 0
IsQuiet ms = (to : ℕ) (x : Message) → Among (to, x) ms → is_reference x.body ≡ false

pub quiet-posts : (to : ℕ) (ms : List (ℕ × Message)) → IsQuiet ms → posts to ms ≡ []
quiet-posts to [] quiet = refl
quiet-posts to ((j, x) ∷ ms) quiet =
    let rest : posts to ms ≡ [] = quiet-posts to ms (λ k y a. quiet k y (inr a)) in
    let none : is_reference x.body ≡ false = quiet j x (inl refl) in
    cond_both (eqb j to) (x ∷ sent_for to ms) (sent_for to ms)
    (λ (z : List Message). programs z ≡ []) (λ _. rw none rest) (λ _. rest)

pub quiet-append : (ms ns : List (ℕ × Message)) → IsQuiet ms → IsQuiet ns → IsQuiet (ms ++ ns)
quiet-append ms ns a b to x among =
    ⊎_elim {C = is_reference x.body ≡ false} (λ first. a to x first) (λ later. b to x later)
    (among-append (to, x) ms ns among)

-- new messages come last in what a node was sent
appended-for : (sent : List (List Message)) (ms : List (ℕ × Message)) (to : ℕ) → to < length sent
    → get_or (append_all sent ms) to [] ≡ get_or sent to [] ++ sent_for to ms
appended-for sent [] to inside = sym (append-nil (get_or sent to []))
appended-for sent ((j, x) ∷ ms) to inside =
    let longer : List Message = get_or sent j [] ++ x ∷ [] in
    appended-for (set sent j longer) ms to (subst (λ (z : ℕ). to < z)
    (sym (length-set sent j longer)) inside)
    ∙ ⊎_elim {C = get_or (set sent j longer) to [] ++ sent_for to ms
    ≡ get_or sent to [] ++ sent_for to ((j, x) ∷ ms)}
    (λ (here : j ≡ to).
    ap (λ (z : List Message). z ++ sent_for to ms)
    (ap (λ (z : ℕ). get_or (set sent z (get_or sent z [] ++ x ∷ [])) to []) here
    ∙ get_or-set_same sent to (get_or sent to [] ++ x ∷ []) [] inside)
    ∙ append_assoc (get_or sent to []) (x ∷ []) (sent_for to ms)
    ∙ ap (λ (z : List Message). get_or sent to [] ++ z)
    (sym (cond-true (eqb j to) (x ∷ sent_for to ms) (sent_for to ms) (eq-eqb j to here))))
    (λ (other : j ≢ to).
    ap (λ (z : List Message). z ++ sent_for to ms)
    (get_or-set_other sent j to longer [] (λ e. other (sym e)))
    ∙ ap (λ (z : List Message). get_or sent to [] ++ z)
    (sym (cond-false (eqb j to) (x ∷ sent_for to ms) (sent_for to ms) (ne_eqb j to other))))
    (cases_eq j to)

-- so they come last in what is in flight
pub sent-posts : (sent : List (List Message)) (ms : List (ℕ × Message)) (to g : ℕ)
    → g ≤ length (get_or sent to []) → (length sent ≤ to → posts to ms ≡ [])
    → programs (drop g (get_or (append_all sent ms) to []))
    ≡ programs (drop g (get_or sent to [])) ++ posts to ms
sent-posts sent ms to g within past = ⊎_elim
    {C = programs (drop g (get_or (append_all sent ms) to []))
    ≡ programs (drop g (get_or sent to [])) ++ posts to ms}
    (λ (inside : to < length sent).
    ap (λ (z : List Message). programs (drop g z)) (appended-for sent ms to inside)
    ∙ ap programs (drop-append-le g (get_or sent to []) (sent_for to ms) within)
    ∙ programs-append (drop g (get_or sent to [])) (sent_for to ms))
    (λ (far : length sent ≤ to).
    ap (λ (z : List Message). programs (drop g z))
    (get_or_past (append_all sent ms) to []
    (let w = length-append_all sent ms in omega (arith, far, w))
    ∙ sym (get_or_past sent to [] far))
    ∙ sym (append-nil (programs (drop g (get_or sent to []))))
    ∙ ap (λ (z : List Body). programs (drop g (get_or sent to [])) ++ z) (sym (past far)))
    (cases_lt to (length sent))

-- the first message in flight
pub drop-first : (g : ℕ) (xs : List Message) (x : Message) → slice_get xs g ≡ Some x
    → drop g xs ≡ x ∷ drop (g + 1) xs
drop-first g xs x there =
    drop_more xs g no_message (slice_get_within xs g x there)
    ∙ ap (λ (z : Message). z ∷ drop (g + 1) xs) (get_or_from_slice_get xs g x no_message there)
