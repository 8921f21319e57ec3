-- Messages that are appended one after another: what happens to the links, and whether each message
-- gets a number.
use Rattle.std.proofs.Common.{◌≡◌, ℕ, ◌+◌, ◌*◌, ◌<◌, ◌≤◌, Bool, ◌&&◌, nat_lt, List, [], ◌∷◌, ◌++◌, length, map, get_or, set, refl, ap, sym, ◌∙◌, subst, arith, length-append}
use Rattle.std.specs.List.{AllByRecursion, sum_by}
use Rattle.std.proofs.Math.Bool.{and_assoc}
use Rattle.std.proofs.lemmas.List.{length-set, map-set}
use Rattle.std.proofs.lemmas.List.Elements.{All-from_get_or}
use Rattle.std.proofs.lemmas.List.Sums.{sum_by-set, sum_by-le}
use Rattle.std.proofs.Math.ListN.{get_or-map}
use Rattle.ids.specs.Limits.{Shaped}
use Rattle.ids.specs.declared.limits.TheConstants.{GREATEST_CYCLE, GREATEST_NUMBER}
use Rattle.ids.specs.declared.names.Ref.{Ref}
use Rattle.msg.specs.declared.body.Message.{Message}
use Rattle.model.specs.Shading.{marks_for}
use Rattle.model.specs.Steps.{fits}
use Rattle.model.specs.View.{Link, no_link, used, appended, append_to}
use Rattle.model.specs.References.{IsWithin, IsSendable, no_message}
use Rattle.model.proofs.Lookups.{at_set, at_push}

-- ---- the links

abbrev with_one : List Link → ℕ × Message → List Link
with_one links m = set links m.0 (appended (get_or links m.0 no_link) m.1)

pub append_to-append : (links : List Link) (xs ys : List (ℕ × Message))
    → append_to links (xs ++ ys) ≡ append_to (append_to links xs) ys
append_to-append links [] ys = refl
append_to-append links (x ∷ xs) ys = append_to-append (with_one links x) xs ys

pub length-append_to : (links : List Link) (ms : List (ℕ × Message))
    → length (append_to links ms) ≡ length links
length-append_to links [] = refl
length-append_to links (m ∷ ms) =
    length-append_to (with_one links m) ms
    ∙ length-set links m.0 (appended (get_or links m.0 no_link) m.1)

-- one more appended message counts as one more
used_more : (l : Link) (x : Message) → used l + 1 ≡ used (appended l x)
used_more l x = omega (arith, length-append l.unacknowledged (x ∷ []))

counts_one : (links : List Link) (m : ℕ × Message)
    → set (map used links) m.0 (get_or (map used links) m.0 0 + 1) ≡ map used (with_one links m)
counts_one links m =
    ap (set (map used links) m.0)
    (ap (λ (k : ℕ). k + 1) (get_or-map used links m.0 no_link)
    ∙ used_more (get_or links m.0 no_link) m.1)
    ∙ sym (map-set used links m.0 (appended (get_or links m.0 no_link) m.1))

-- whether each message gets a number, for two lists in a row
pub fits-append : (links : List Link) (xs ys : List (ℕ × Message))
    → fits (map used links) (xs ++ ys)
    ≡ (fits (map used links) xs && fits (map used (append_to links xs)) ys)
fits-append links [] ys = refl
fits-append links (x ∷ xs) ys =
    let left : Bool = nat_lt (get_or (map used links) x.0 0) GREATEST_NUMBER in
    let counts : List ℕ = set (map used links) x.0 (get_or (map used links) x.0 0 + 1) in
    let others : fits counts (xs ++ ys)
    ≡ (fits counts xs && fits (map used (append_to (with_one links x) xs)) ys) =
    subst
    (λ (c : List ℕ). fits c (xs ++ ys)
    ≡ (fits c xs && fits (map used (append_to (with_one links x) xs)) ys))
    (sym (counts_one links x))
    (fits-append (with_one links x) xs ys) in
    ap (λ (b : Bool). left && b) others
    ∙ sym (and_assoc left (fits counts xs) (fits (map used (append_to (with_one links x) xs)) ys))

-- ---- what holds of all links

-- a property of every link that no appended message breaks still holds of every link afterwards
pub links-appended : (P : Link → Type 0) (Q : ℕ × Message → Type 0) (links : List Link)
    (ms : List (ℕ × Message)) → ((l : Link) (m : ℕ × Message) → Q m → P l → P (appended l m.1))
    → AllByRecursion Q ms → ((i : ℕ) → P (get_or links i no_link)) → (i : ℕ)
    → P (get_or (append_to links ms) i no_link)
links-appended P Q links [] keeps all holds i = holds i
links-appended P Q links (m ∷ ms) keeps all holds i =
    let l : Link = get_or links m.0 no_link in
    links-appended P Q (with_one links m) ms keeps all.1
    (λ j. at_set P links m.0 j (appended l m.1) no_link (keeps l m all.0 (holds m.0)) (holds j))
    i

-- a message that may be sent in a space of this shape, whatever its number
abbrev Sendable : Shaped → ℕ × Message → Type 0
Sendable shape m = IsSendable shape m.1

-- every kept message may be sent, if each appended one may
pub sendable-appended : (shape : Shaped) (links : List Link) (ms : List (ℕ × Message))
    → AllByRecursion (λ (m : ℕ × Message). IsSendable shape m.1) ms
    → ((i k : ℕ) → IsSendable shape
    (get_or (get_or links i no_link).unacknowledged k no_message)) → (i k : ℕ)
    → IsSendable shape
    (get_or (get_or (append_to links ms) i no_link).unacknowledged k no_message)
sendable-appended shape links ms all holds =
    let none : IsSendable shape no_message =
    record { stamp = omega arith; references = tt; place = tt } in
    links-appended
    (λ l. (k : ℕ) → IsSendable shape (get_or l.unacknowledged k no_message))
    (Sendable shape) links ms
    (λ l m may old k.
    at_push (IsSendable shape) l.unacknowledged k m.1 no_message may none (old k))
    all holds

-- Marks of objects that the shape has room for may be sent
pub marks-sendable : (shape : Shaped) (cycle : ℕ) (rs : List Ref) → cycle ≤ GREATEST_CYCLE
    → AllByRecursion (IsWithin shape) rs
    → AllByRecursion (λ (m : ℕ × Message). IsSendable shape m.1) (marks_for cycle rs)
marks-sendable shape cycle [] within all = tt
marks-sendable shape cycle (r ∷ rs) within all = (
  record { stamp = within; references = (all.0, tt); place = tt },
  marks-sendable shape cycle rs within all.1,
)

-- ---- how many messages were appended

pub sum-appended : (links : List Link) (ms : List (ℕ × Message))
    → AllByRecursion (λ (m : ℕ × Message). m.0 < length links) ms
    → sum_by used (append_to links ms) ≡ sum_by used links + length ms
sum-appended links [] inside = omega arith
sum-appended links (m ∷ ms) inside =
    let l : Link = get_or links m.0 no_link in
    let new : List Link = with_one links m in
    let wide : length new ≡ length links = length-set links m.0 (appended l m.1) in
    let others = sum-appended new ms
    (subst (λ (n : ℕ). AllByRecursion (λ (x : ℕ × Message). x.0 < n) ms) (sym wide) inside.1) in
    let one : sum_by used new + used l ≡ sum_by used links + used (appended l m.1) =
    sum_by-set used links m.0 (appended l m.1) no_link inside.0 in
    let more = used_more l m.1 in
    omega (arith, others, one, more)

-- Marks go to the nodes of their objects, one for each reference
pub marks-inside : (width cycle : ℕ) (rs : List Ref)
    → AllByRecursion (λ (r : Ref). r.node < width) rs
    → AllByRecursion (λ (m : ℕ × Message). m.0 < width) (marks_for cycle rs)
marks-inside width cycle [] all = tt
marks-inside width cycle (r ∷ rs) all = (all.0, marks-inside width cycle rs all.1)

-- each message takes a number of its link
pub few-appended : (links : List Link) (ms : List (ℕ × Message))
    → AllByRecursion (λ (m : ℕ × Message). m.0 < length links) ms
    → ((i : ℕ) → used (get_or (append_to links ms) i no_link) ≤ GREATEST_NUMBER)
    → length ms ≤ length links * GREATEST_NUMBER
few-appended links ms inside within =
    let after : List Link = append_to links ms in
    let sum = sum-appended links ms inside in
    let most : sum_by used after ≤ length after * GREATEST_NUMBER =
    sum_by-le used GREATEST_NUMBER after
    (All-from_get_or (λ l. used l ≤ GREATEST_NUMBER) after no_link (λ i _. within i)) in
    let same : length after ≡ length links = length-append_to links ms in
    subst (λ (n : ℕ). length ms ≤ n * GREATEST_NUMBER) same (omega (arith, sum, most))
