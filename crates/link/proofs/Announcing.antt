-- The same message is appended for every other node.
use Rattle.std.proofs.Common.{◌≡◌, ◌≢◌, ℕ, zero, suc, ◌+◌, ◌≤◌, ◌==◌, nat_lt, ◌&&◌, ◌||◌, Bool, true, false, List, [], ◌∷◌, ◌++◌, map, get_or, refl, sym, ap, ◌∙◌, subst, ⊎_elim, add-one, arith}
use Rattle.std.proofs.lemmas.Bool.{cases_Bool, cond-true, cond-false}
use Rattle.std.proofs.lemmas.List.{get_or-set_other}
use Rattle.std.proofs.Math.Bool.{and-true}
use Rattle.std.proofs.Math.ListN.{get_or-map}
use Rattle.ids.specs.declared.limits.TheConstants.{GREATEST_NUMBER}
use Rattle.msg.specs.declared.body.Body.{Body}
use Rattle.msg.specs.declared.body.Message.{Message}
use Rattle.model.specs.State.{LocalState}
use Rattle.model.specs.Counting.{stamped, to_others}
use Rattle.model.specs.Steps.{fits}
use Rattle.model.specs.View.{Link, no_link, used, appended, append_to}
use Rattle.link.specs.Links.{LinksView, IsLinks, for_other, for_others, announced_below, retracted_to}
use Rattle.model.proofs.Appending.{append_to-append, fits-append}
use Rattle.link.proofs.EveryLink.{retracted-append_to}

-- in the form of the definitions of a node
pub to_others-is : (p : LocalState) (b : Body) (n : ℕ) →
    to_others p b n ≡ for_others p.own (stamped p b) n
to_others-is p b zero = refl
to_others-is p b (suc n) =
    ap (λ (ms : List (ℕ × Message)). ms ++ for_other p.own (stamped p b) n) (to_others-is p b n)

-- a node's own link doesn't change
pub for-own : (own to : ℕ) (x : Message) → (to == own) ≡ true → for_other own x to ≡ []
for-own own to x same = cond-true (to == own) [] ((to, x) ∷ []) same

pub for-another : (own to : ℕ) (x : Message) → (to == own) ≡ false →
    for_other own x to ≡ (to, x) ∷ []
for-another own to x differs = cond-false (to == own) [] ((to, x) ∷ []) differs

-- a message for one node doesn't change the links to the others
untouched_by : (links : List Link) (own to k : ℕ) (x : Message) → k ≢ to →
    get_or (append_to links (for_other own x to)) k no_link ≡ get_or links k no_link
untouched_by links own to k x other =
    let next = appended (get_or links to no_link) x in
    let at = λ (ms : List (ℕ × Message)). get_or (append_to links ms) k no_link in
    ⊎_elim {C = at (for_other own x to) ≡ get_or links k no_link}
    (λ same. ap at (for-own own to x same))
    (λ differs. ap at (for-another own to x differs)
    ∙ get_or-set_other links to k next no_link other)
    (cases_Bool (to == own))

-- nor do messages for the nodes below it
untouched : (links : List Link) (own n k : ℕ) (x : Message) → n ≤ k →
    get_or (append_to links (for_others own x n)) k no_link ≡ get_or links k no_link
untouched links own zero k x below = refl
untouched links own (suc n) k x below =
    let front = append_to links (for_others own x n) in
    let other : k ≢ n = λ same. omega arith in
    let less : n ≤ k = omega arith in
    ap (λ (ls : List Link). get_or ls k no_link)
    (append_to-append links (for_others own x n) (for_other own x n))
    ∙ untouched_by front own n k x other
    ∙ untouched links own n k x less

-- one node more
pub announced-next : (v : LinksView) (own n : ℕ) (x : Message) →
    announced_below v own x (n + 1)
    ≡ record v { links = append_to (announced_below v own x n).links (for_other own x n) }
announced-next v own n x =
    ap (announced_below v own x) (add-one n)
    ∙ ap (λ (ls : List Link). record v { links = ls })
    (append_to-append v.links (for_others own x n) (for_other own x n))

-- a message fits if the link to the node has a number left, or the node is the sender
pub fits-other : (links : List Link) (own to : ℕ) (x : Message) →
    fits (map used links) (for_other own x to)
    ≡ ((to == own) || nat_lt (used (get_or links to no_link)) GREATEST_NUMBER)
fits-other links own to x =
    let left = nat_lt (used (get_or links to no_link)) GREATEST_NUMBER in
    let all = λ (ms : List (ℕ × Message)). fits (map used links) ms in
    ⊎_elim {C = fits (map used links) (for_other own x to) ≡ ((to == own) || left)}
    (λ same. ap all (for-own own to x same) ∙ ap (λ (b : Bool). b || left) (sym same))
    (λ differs. ap all (for-another own to x differs)
    ∙ and-true (nat_lt (get_or (map used links) to 0) GREATEST_NUMBER)
    ∙ ap (λ (k : ℕ). nat_lt k GREATEST_NUMBER) (get_or-map used links to no_link)
    ∙ ap (λ (b : Bool). b || left) (sym differs))
    (cases_Bool (to == own))

pub fits-next : (links : List Link) (own n : ℕ) (x : Message) →
    fits (map used links) (for_others own x (n + 1))
    ≡ (fits (map used links) (for_others own x n) && fits (map used links) (for_other own x n))
fits-next links own n x =
    let front = append_to links (for_others own x n) in
    let here = λ (l : Link). (n == own) || nat_lt (used l) GREATEST_NUMBER in
    let same = fits-other front own n x
    ∙ ap here (untouched links own n n x (omega arith))
    ∙ sym (fits-other links own n x) in
    ap (λ (k : ℕ). fits (map used links) (for_others own x k)) (add-one n)
    ∙ fits-append links (for_others own x n) (for_other own x n)
    ∙ ap (λ (b : Bool). fits (map used links) (for_others own x n) && b) same

-- the last one is retracted
pub retracted-announced : (v : LinksView) (own n : ℕ) (x : Message) → IsLinks v →
    (n == own) ≡ false →
    retracted_to (announced_below v own x (n + 1)) n ≡ announced_below v own x n
retracted-announced v own n x sound differs =
    let front = append_to v.links (for_others own x n) in
    let here = untouched v.links own n n x (omega arith) in
    let kept : (get_or front n no_link).kept ≤ used (get_or front n no_link) =
    subst (λ (l : Link). l.kept ≤ used l) (sym here) (sound.links n).kept in
    let next = announced-next v own n x
    ∙ ap (λ (ms : List (ℕ × Message)). record v { links = append_to front ms })
    (for-another own n x differs) in
    ap (λ (w : LinksView). retracted_to w n) next
    ∙ ap (λ (ls : List Link). record v { links = ls }) (retracted-append_to front n x kept)

pub announced-own : (v : LinksView) (own n : ℕ) (x : Message) → (n == own) ≡ true →
    announced_below v own x (n + 1) ≡ announced_below v own x n
announced-own v own n x same =
    announced-next v own n x
    ∙ ap (λ (ms : List (ℕ × Message)). record v {
      links = append_to (append_to v.links (for_others own x n)) ms;
    })
    (for-own own n x same)
