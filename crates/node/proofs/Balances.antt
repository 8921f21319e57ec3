-- Every node's balances stay within the number of its messages.
use Rattle.std.proofs.Common.{◌≡◌, ℕ, ◌+◌, ◌*◌, ◌<◌, ◌≤◌, List, [], ◌∷◌, length, map, get_or, set, sym, ap, ◌∙◌, subst, refl, arith}
use Rattle.std.specs.List.{sum, sum_by}
use Rattle.std.proofs.lemmas.List.Sums.{sum_by-set, sum_by-le, sum-map}
use Rattle.std.proofs.lemmas.List.Elements.{All-from_get_or}
use Rattle.ids.specs.declared.limits.TheConstants.{GREATEST_COUNTED, GREATEST_NODES}
use Rattle.ids.specs.declared.limits.TheConstants.{GREATEST_NUMBER}
use Rattle.model.specs.State.{Ring}
use Rattle.model.specs.View.{Link, NodeView, no_link, used, all_kept, trimmed}
use Rattle.link.specs.Links.{LinksView, IsLinks}
use Rattle.link.proofs.OneLink.{used-trimmed}
use Rattle.cycles.specs.Balances.{IsBounded}
use Rattle.cycles.proofs.Bounds.{bounded_more}
use Rattle.node.specs.Invariant.{IsBalanced, IsNode, links_of, number_sum}

-- the bound of a sum from the bound of its terms
sum_by-bound : {X : Type 0} (f : X → ℕ) (most : ℕ) (xs : List X) (d : X) →
    ((i : ℕ) → f (get_or xs i d) ≤ most) → sum_by f xs ≤ length xs * most
sum_by-bound f most xs d h =
    sum_by-le f most xs (All-from_get_or (λ x. f x ≤ most) xs d (λ i _. h i))

-- a sum is unchanged if no term changes
sum_by-same : {X : Type 0} (f : X → ℕ) (g : X → X) (xs : List X) →
    ((x : X) → f (g x) ≡ f x) → sum_by f (map g xs) ≡ sum_by f xs
sum_by-same f g xs h = sym (sum-map f (map g xs)) ∙ ap sum (seen f g xs h) ∙ sum-map f xs where
  seen : {X : Type 0} (f : X → ℕ) (g : X → X) (xs : List X) →
      ((x : X) → f (g x) ≡ f x) → map f (map g xs) ≡ map f xs
  seen f g [] h = refl
  seen f g (x ∷ xs) h =
      ap (λ (k : ℕ). k ∷ map f (map g xs)) (h x) ∙ ap (λ (ks : List ℕ). f x ∷ ks) (seen f g xs h)

-- ---- the same numbers, and so the same bound

balance-same : (r : Ring) (links others : List Link) (got : List ℕ) →
    sum_by used others ≡ sum_by used links → IsBalanced r links got → IsBalanced r others got
balance-same r links others got same h =
    subst (λ (n : ℕ). IsBounded (n + sum_by (λ (k : ℕ). k) got) r) (sym same) h

pub balance-kept : (r : Ring) (links : List Link) (got : List ℕ) →
    IsBalanced r links got → IsBalanced r (map all_kept links) got
balance-kept r links got h =
    balance-same r links (map all_kept links) got (sum_by-same used all_kept links (λ l. refl)) h

-- one link changes, but not how many messages were appended on it
pub balance-set : (r : Ring) (links : List Link) (got : List ℕ) (to : ℕ) (l : Link) →
    IsBalanced r links got → to < length links → used l ≡ used (get_or links to no_link) →
    IsBalanced r (set links to l) got
balance-set r links got to l h inside same =
    let sums : sum_by used (set links to l) + used (get_or links to no_link)
    ≡ sum_by used links + used l =
    sum_by-set used links to l no_link inside in
    let e : sum_by used (set links to l) ≡ sum_by used links = omega (arith, sums, same) in
    balance-same r links (set links to l) got e h

pub balance-trimmed : (r : Ring) (links : List Link) (got : List ℕ) (from number : ℕ) →
    IsBalanced r links got → from < length links →
    IsBalanced r (set links from (trimmed (get_or links from no_link) number)) got
balance-trimmed r links got from number h inside =
    let l : Link = get_or links from no_link in
    let same : sum_by used (set links from (trimmed l number)) + used l
    ≡ sum_by used links + used (trimmed l number) =
    sum_by-set used links from (trimmed l number) no_link inside in
    balance-same r links (set links from (trimmed l number)) got
    (let e : sum_by used (set links from (trimmed l number)) ≡ sum_by used links =
    omega (arith, same, used-trimmed l number) in
    e) h

-- a ring with another colour and token
pub bounded-same : (most : ℕ) (q r : Ring) → q.earlier ≡ r.earlier → q.recent ≡ r.recent
    → IsBounded most r → IsBounded most q
bounded-same most q r a b h = record {
  sum = rw (a, b) h.sum;
  difference = rw (a, b) h.difference;
  opposite = rw (a, b) h.opposite;
  negated = rw (a, b) h.negated;
}

-- ---- in the form of the code: the balances are far from the ends of their type

-- all messages of a node together
pub number-few : (l : LinksView) → IsLinks l → length l.links ≤ GREATEST_NODES
    → number_sum l.links l.got ≤ GREATEST_COUNTED
number-few l is many =
    let sent : sum_by used l.links ≤ length l.links * GREATEST_NUMBER =
    sum_by-bound used GREATEST_NUMBER l.links no_link (λ i. (is.links i).used) in
    let taken : sum_by (λ (k : ℕ). k) l.got ≤ length l.got * GREATEST_NUMBER =
    sum_by-bound (λ (k : ℕ). k) GREATEST_NUMBER l.got 0 is.numbers in
    omega (arith, sent, taken, is.received, many)

pub balance-small : (n : NodeView) → IsNode n → IsBounded GREATEST_COUNTED n.local.ring
balance-small n h =
    let many : length n.links ≤ GREATEST_NODES = omega (arith, h.links.width, h.shape.most_nodes) in
    bounded_more (number_sum n.links n.local.got) GREATEST_COUNTED n.local.ring
    (number-few (links_of n) h.links.links many) h.balance
