-- What a node's readers return of its slots, its messages and its links is what its image says.
use Rattle.std.proofs.Common.{◌≡◌, ◌≢◌, ℕ, zero, suc, ◌+◌, ◌-◌, ◌<◌, ◌≤◌, ◌==◌, false}
use Rattle.std.proofs.Common.{cond, List, [], ◌∷◌, ◌++◌, length, map, take, get_or, Option}
use Rattle.std.proofs.Common.{Some, refl, sym, ap, ◌∙◌, arith}
use Rattle.std.specs.Prelude.{nat_le}
use Rattle.std.specs.List.{zip, remove}
use Rattle.std.proofs.Math.Seq.{take-suc}
use Rattle.std.proofs.lemmas.Bool.{eq-eqb, ne_eqb, lt-leb}
use Rattle.std.proofs.lemmas.List.{take_all, get_or-map, length-map}
use Rattle.std.proofs.lemmas.Slice.Zip.{length-zip, get_or-zip}
use Rattle.std.proofs.lemmas.Option.{slice_get-get_or}
use Rattle.arena_slot.specs.declared.Slot.TheVariants as slot
use Rattle.heap.specs.Heap.{slot_of}
use Rattle.msg.specs.declared.body.Message.{Message}
use Rattle.model.specs.State.{Slot, Retired}
use Rattle.model.specs.References.{no_message}
use Rattle.model.specs.View.{Link, no_link, message_of}
use Rattle.image_parts.specs.Links.{StoredLink, StoredSlot}
use Rattle.image_parts.specs.Stored.{stored_slot, stored_link, stored_links}

-- ---- slots

pub stored_back : (x : StoredSlot) → stored_slot (slot_of x) ≡ x
stored_back (slot.Free g) = refl
stored_back (slot.Occupied g o) = refl
stored_back slot.Retired = refl

-- what a heap shows of a slot
pub slot_there : (slots : List Slot) (k : ℕ) (x : StoredSlot) → k < length slots
    → slot_of x ≡ get_or slots k Retired → x ≡ get_or (map stored_slot slots) k x
slot_there slots k x lt e =
    sym (stored_back x) ∙ ap stored_slot e ∙ sym (get_or-map stored_slot slots k Retired x lt)

-- ---- messages

-- the kept message in this place
pub message_kept : (l : Link) (base place : ℕ) (o : Option Message) → base ≡ l.base
    → place < length l.unacknowledged → o ≡ message_of l (base + 1 + place)
    → o ≡ Some (get_or l.unacknowledged place no_message)
message_kept l base place o e lt is =
    let above : nat_le (base + 1 + place) l.base ≡ false =
    lt-leb (base + 1 + place) l.base (omega (arith, e)) in
    let at : base + 1 + place - l.base - 1 ≡ place = omega (arith, e) in
    is ∙ rw (above, at) (slice_get-get_or l.unacknowledged place no_message lt)

-- ---- links

pub count_stored : (links : List Link) (got : List ℕ) → length got ≡ length links
    → length (stored_links links got) ≡ length links
count_stored links got same =
    omega (arith, same, length-map (zip links got) stored_link, length-zip links got)

pub stored_there : (links : List Link) (got : List ℕ) (k : ℕ) (d : StoredLink) → k < length links
    → length got ≡ length links
    → get_or (stored_links links got) k d ≡ stored_link (get_or links k no_link, get_or got k 0)
stored_there links got k d lt same =
    let count = length-zip links got in
    get_or-map stored_link (zip links got) k (no_link, 0) d (omega (arith, lt, same, count))
    ∙ ap stored_link (get_or-zip links got k (no_link, 0) lt (omega (arith, lt, same)))

pub all_stored : (links : List Link) (got : List ℕ) (k : ℕ) → length got ≡ length links
    → length links ≤ k → take k (stored_links links got) ≡ stored_links links got
all_stored links got k same past =
    let count = count_stored links got same in
    take_all k (stored_links links got) (omega (arith, count, past))

without_more : {A : Type 0} (own k : ℕ) (xs ys : List A) (d : A) → k < length xs
    → (k ≡ own → ys ≡ []) → (k ≢ own → ys ≡ get_or xs k d ∷ [])
    → remove (take (suc k) xs) own ≡ remove (take k xs) own ++ ys
without_more own k [] ys d lt here there = absurd (omega (arith, lt))
without_more zero zero (x ∷ xs) ys d lt here there = sym (here refl)
without_more zero (suc k) (x ∷ xs) ys d lt here there =
    rw (there (λ e. absurd cc)) (take-suc xs k d (omega (arith, lt)))
without_more {A = A} (suc own) zero (x ∷ xs) ys d lt here there =
    rw (take_all {A = A} own [] (omega arith)) (sym (there (λ e. absurd cc)))
without_more {A = A} (suc own) (suc k) (x ∷ xs) ys d lt here there =
    ap (λ (zs : List A). x ∷ zs)
    (without_more own k xs ys d (omega (arith, lt)) (λ e. here (ap suc e))
    (λ other. there (λ e. other (omega (arith, e)))))

-- one more link, unless it is the one to the node itself
pub others_more : (own k : ℕ) (links : List Link) (got : List ℕ) → k < length links
    → length got ≡ length links
    → remove (take (k + 1) (stored_links links got)) own
    ≡ remove (take k (stored_links links got)) own
    ++ cond (k == own) [] (stored_link (get_or links k no_link, get_or got k 0) ∷ [])
others_more own k links got lt same =
    let xs : List StoredLink = stored_links links got in
    let one : StoredLink = stored_link (get_or links k no_link, get_or got k 0) in
    let more : k + 1 ≡ suc k = omega arith in
    rw more
    (without_more own k xs (cond (k == own) [] (one ∷ [])) one
    (omega (arith, lt, count_stored links got same))
    (λ here. rw (eq-eqb k own here) refl)
    (λ there.
    rw (ne_eqb k own there)
    (ap (λ (x : StoredLink). x ∷ []) (sym (stored_there links got k one lt same)))))
