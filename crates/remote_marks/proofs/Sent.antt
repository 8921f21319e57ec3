-- Marks that are appended one after another, and retracted beginning with the last.
use Rattle.std.proofs.Common.{◌≡◌, ℕ, zero, suc, ◌+◌, ◌-◌, ◌<◌, ◌≤◌, Bool, false, ◌&&◌, List, [], ◌∷◌, ◌++◌, length, map, take, drop, get_or, set, refl, ap, sym, ◌∙◌, add-one, arith, length-append, length-drop}
use Rattle.std.proofs.lemmas.List.{map-append, take-append-drop, take_all}
use Rattle.std.proofs.Math.Seq.{take-suc, drop-append_seam}
use Rattle.ids.specs.declared.names.Ref.{Ref}
use Rattle.msg.specs.declared.body.Message.{Message}
use Rattle.model.specs.Shading.{mark_for, marks_for}
use Rattle.model.specs.Steps.{fits}
use Rattle.model.specs.View.{Link, no_link, used, appended, append_to}
use Rattle.model.proofs.Appending.{append_to-append, length-append_to, fits-append}
use Rattle.model.proofs.Lookups.{at_set}
use Rattle.link.specs.Links.{LinksView, IsLinks, retracted_to}
use Rattle.link.proofs.EveryLink.{retracted-append_to}
use Rattle.remote_marks.specs.Asked.{AreSent, all_appended}

-- ---- one after another

all_appended-append : (v : LinksView) (xs ys : List (ℕ × Message))
    → all_appended v (xs ++ ys) ≡ all_appended (all_appended v xs) ys
all_appended-append v xs ys =
    ap (λ (ls : List Link). record v { links = ls }) (append_to-append v.links xs ys)

-- after the first messages are appended, whether all fit depends on the rest
pub fits-then : (was now : LinksView) (xs ys : List (ℕ × Message)) → AreSent xs was now
    → fits (map used was.links) (xs ++ ys) ≡ fits (map used now.links) ys
fits-then was now xs ys a =
    fits-append was.links xs ys
    ∙ ap (λ (b : Bool). b && fits (map used (append_to was.links xs)) ys) a.fits
    ∙ ap (λ (v : LinksView). fits (map used v.links) ys) (sym a.sent)

pub sent-then : {xs ys : List (ℕ × Message)} {was now next : LinksView} → AreSent xs was now
    → AreSent ys now next → AreSent (xs ++ ys) was next
sent-then {xs = xs} {ys = ys} {was = was} {now = now} a b = record {
  fits = fits-then was now xs ys a ∙ b.fits;
  sent =
      b.sent
      ∙ ap (λ (v : LinksView). all_appended v ys) a.sent
      ∙ sym (all_appended-append was xs ys);
}

pub sent-width : {ms : List (ℕ × Message)} {was links : LinksView} → AreSent ms was links
    → length links.links ≡ length was.links
sent-width {ms = ms} {was = was} a =
    ap (λ (v : LinksView). length v.links) a.sent ∙ length-append_to was.links ms

-- ---- the Marks of references

-- one Mark more
marks-more : (cycle : ℕ) (rs : List Ref) (i : ℕ) (d : Ref) → i < length rs
    → marks_for cycle (take (i + 1) rs)
    ≡ marks_for cycle (take i rs) ++ mark_for cycle (get_or rs i d) ∷ []
marks-more cycle rs i d inside =
    let next : i + 1 ≡ suc i = add-one i in
    ap (λ (k : ℕ). marks_for cycle (take k rs)) next
    ∙ ap (marks_for cycle) (take-suc rs i d inside)
    ∙ map-append (mark_for cycle) (take i rs) (get_or rs i d ∷ [])

pub sent-more : {was now new : LinksView} (cycle : ℕ) (rs : List Ref) (i : ℕ) (d : Ref)
    → i < length rs → AreSent (marks_for cycle (take i rs)) was now
    → AreSent (mark_for cycle (get_or rs i d) ∷ []) now new
    → AreSent (marks_for cycle (take (i + 1) rs)) was new
sent-more cycle rs i d inside front one =
    rw (marks-more cycle rs i d inside) (sent-then front one)

-- if one gets no number after those before it, not all get numbers
pub unsent : {was now : LinksView} (cycle : ℕ) (rs : List Ref) (i : ℕ) (d : Ref) → i < length rs
    → AreSent (marks_for cycle (take i rs)) was now
    → fits (map used now.links) (mark_for cycle (get_or rs i d) ∷ []) ≡ false
    → fits (map used was.links) (marks_for cycle rs) ≡ false
unsent {was = was} {now = now} cycle rs i d inside front none =
    let one : List (ℕ × Message) = mark_for cycle (get_or rs i d) ∷ [] in
    let fore : List (ℕ × Message) = marks_for cycle (take (i + 1) rs) in
    let rest : List (ℕ × Message) = marks_for cycle (drop (i + 1) rs) in
    let all : marks_for cycle rs ≡ fore ++ rest =
    ap (marks_for cycle) (sym (take-append-drop (i + 1) rs))
    ∙ map-append (mark_for cycle) (take (i + 1) rs) (drop (i + 1) rs) in
    let first : fits (map used was.links) fore ≡ false =
    ap (fits (map used was.links)) (marks-more cycle rs i d inside)
    ∙ fits-then was now (marks_for cycle (take i rs)) one front
    ∙ none in
    ap (fits (map used was.links)) all
    ∙ fits-append was.links fore rest
    ∙ ap (λ (b : Bool). b && fits (map used (append_to was.links fore)) rest) first

-- ---- retracting

-- whatever is appended, no link counts more messages as saved than were appended
kept_below : (links : List Link) (ms : List (ℕ × Message))
    → ((i : ℕ) → (get_or links i no_link).kept ≤ used (get_or links i no_link)) → (i : ℕ)
    → (get_or (append_to links ms) i no_link).kept ≤ used (get_or (append_to links ms) i no_link)
kept_below links [] h i = h i
kept_below links (m ∷ ms) h i =
    let l : Link = get_or links m.0 no_link in
    let new : Link = appended l m.1 in
    let more = length-append l.unacknowledged (m.1 ∷ []) in
    let here : new.kept ≤ used new = omega (arith, h m.0, more) in
    kept_below (set links m.0 new) ms
    (λ j. at_set (λ (z : Link). z.kept ≤ used z) links m.0 j new no_link here (h j)) i

retracted-one : (was : LinksView) (ms : List (ℕ × Message)) (to : ℕ) (x : Message) → IsLinks was
    → retracted_to (all_appended was (ms ++ (to, x) ∷ [])) to ≡ all_appended was ms
retracted-one was ms to x sound =
    let v : LinksView = all_appended was ms in
    ap (λ (z : LinksView). retracted_to z to) (all_appended-append was ms ((to, x) ∷ []))
    ∙ ap (λ (ls : List Link). record v { links = ls })
    (retracted-append_to v.links to x
    (kept_below was.links ms (λ i. (sound.links i).kept) to))

pub retracted-more : {was now : LinksView} (cycle : ℕ) (rs : List Ref) (i : ℕ) (d : Ref)
    → i < length rs → IsLinks was
    → now ≡ all_appended was (marks_for cycle (take (i + 1) rs))
    → retracted_to now (get_or rs i d).node ≡ all_appended was (marks_for cycle (take i rs))
retracted-more {was = was} cycle rs i d inside sound all =
    ap (λ (v : LinksView). retracted_to v (get_or rs i d).node)
    (all ∙ ap (all_appended was) (marks-more cycle rs i d inside))
    ∙ retracted-one was (marks_for cycle (take i rs)) (get_or rs i d).node _ sound

-- a node that has no link
set-past : {A : Type 0} (xs : List A) (i : ℕ) (x : A) → length xs ≤ i → set xs i x ≡ xs
set-past [] i x h = refl
set-past (y ∷ xs) zero x h = absurd (omega (arith, h))
set-past {A = A} (y ∷ xs) (suc i) x h =
    ap (λ (z : List A). y ∷ z) (set-past xs i x (omega (arith, h)))

pub retracted_past : (v : LinksView) (to : ℕ) → length v.links ≤ to → v ≡ retracted_to v to
retracted_past v to h =
    ap (λ (ls : List Link). record v { links = ls }) (sym (set-past v.links to _ h))

-- ---- what was added to a list

pub cut_end : {A : Type 0} (xs ys all : List A) (n : ℕ) → n ≡ length xs → all ≡ xs ++ ys
    → take (length all - n) (drop n all) ≡ ys
cut_end {A = A} xs ys all n same whole =
    let long : length (drop n all) ≤ length all - n =
    omega (arith, length-drop n all) in
    take_all (length all - n) (drop n all) long
    ∙ ap (λ (k : ℕ). drop k all) same
    ∙ ap (λ (zs : List A). drop (length xs) zs) whole
    ∙ drop-append_seam xs ys
