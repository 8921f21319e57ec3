-- The links of given parts, and the ends that are made for them.
use Rattle.std.proofs.Common.{◌≡◌, ℕ, zero, suc, ◌<◌, ◌≤◌, ◌^◌, List, [], ◌∷◌, ◌++◌, length, map}
use Rattle.std.proofs.Common.{get_or, refl, sym, ap, subst, le_refl, arith}
use Rattle.std.specs.List.{All}
use Rattle.std.proofs.lemmas.List.{length-map}
use Rattle.ids.specs.declared.limits.TheConstants.{GREATEST_NUMBER}
use Rattle.model.specs.View.{Link, no_link}
use Rattle.link_ends.specs.Senders.{IsLink}
use Rattle.link.specs.Links.{IsLinks}
use Rattle.link.specs.Ends.{sender_of, taken_of, saved_of, view_of}
use Rattle.link.specs.Parts.{link_given, taken_given, links_given, ends_given, IsNumbered}
use Rattle.link.specs.declared.parts.LinkParts.{LinkParts}
use Rattle.link.proofs.OneLink.{link-none}

-- a look-up in the image of a list, if the fact holds of each element's image
at_map : {A B : Type 0} (P : B → Type 0) (f : A → B) (xs : List A) (k : ℕ) (d : B) → P d
    → ((i : ℕ) (x : A) → i < length xs → P (f (get_or xs i x))) → P (get_or (map f xs) k d)
at_map P f [] k d none each = none
at_map P f (x ∷ xs) zero d none each = each 0 x (omega arith)
at_map P f (x ∷ xs) (suc k) d none each =
    at_map P f xs k d none (λ i y within. each (suc i) y (omega arith))

-- the image of the element after the first ones
image_after : {A B : Type 0} (f : A → B) (came : List A) (x : A) (others : List A) (d : B)
    → get_or (map f (came ++ x ∷ others)) (length came) d ≡ f x
image_after f [] x others d = refl
image_after f (y ∷ came) x others d = image_after f came x others d

sent-given : (ps : List LinkParts) → map sender_of (map ends_given ps) ≡ map link_given ps
sent-given [] = refl
sent-given (p ∷ ps) = ap (λ (ls : List Link). link_given p ∷ ls) (sent-given ps)

taken-given : (ps : List LinkParts) → map taken_of (map ends_given ps) ≡ map taken_given ps
taken-given [] = refl
taken-given (p ∷ ps) = ap (λ (ks : List ℕ). taken_given p ∷ ks) (taken-given ps)

saved-given : (ps : List LinkParts) → map saved_of (map ends_given ps) ≡ map taken_given ps
saved-given [] = refl
saved-given (p ∷ ps) = ap (λ (ks : List ℕ). taken_given p ∷ ks) (saved-given ps)

-- the view of these ends is the links
pub shown-given : (ps : List LinkParts) → view_of (map ends_given ps) ≡ links_given ps
shown-given ps = rw (sent-given ps, taken-given ps, saved-given ps)

pub links-given : (ps : List LinkParts) → length ps < 2 ^ 8 → All IsNumbered ps
    → IsLinks (links_given ps)
links-given ps few numbered =
    let wide = length-map ps link_given in
    let same = length-map ps taken_given in
    record {
      width = omega (arith, wide);
      received = omega (arith, wide, same);
      acked = omega (arith, wide, same);
      links = λ i. at_map IsLink link_given ps i no_link link-none
          (λ k p within. record {
            base = omega arith;
            kept = le_refl _;
            used = (numbered k p within).sent;
          });
      numbers = λ i. at_map (λ (n : ℕ). n ≤ GREATEST_NUMBER) taken_given ps i 0 (omega arith)
          (λ k p within. (numbered k p within).taken);
      acks = λ i. le_refl _;
    }

-- If one of the parts has too large a number, they make no links.
pub numbered_in : (came : List LinkParts) (p : LinkParts) (others ps : List LinkParts)
    → came ++ p ∷ others ≡ ps → IsLinks (links_given ps) → IsNumbered p
numbered_in came p others ps is links =
    let given = subst (λ qs. IsLinks (links_given qs)) (sym is) links in
    record {
      sent = (subst IsLink (image_after link_given came p others no_link)
          (given.links (length came))).used;
      taken = subst (λ (n : ℕ). n ≤ GREATEST_NUMBER) (image_after taken_given came p others 0)
          (given.numbers (length came));
    }
