-- The number of a mailbox, among those between this many nodes.
use Rattle.std.proofs.Common.{◌≡◌, ℕ, ◌+◌, ◌*◌, ◌/◌, ◌%◌, ◌<◌, ◌≤◌, ◌==◌, ◌||◌, eq-eqb, Bool, true, true≢false, refl, sym, ap, ◌∙◌, subst, arith, suc, suc-mul, mul-le-mul_right}
use Rattle.std.proofs.lemmas.Nat.{div-mul-add, mod-mul-add}
use Rattle.std.proofs.Math.Bool.{or-true}
use Rattle.wire.specs.Seated.{IsOwnBox}
use Rattle.wire.specs.Views.{Role, dealer, node, watch, is_node, is_watch}

pub record IsBox (i j n m : ℕ) : Type 0 where
  pub below : m < n * n
  pub sender : i ≡ m / n
  pub receiver : j ≡ m % n

pub is-box : (i j n : ℕ) → i < n → j < n → IsBox i j n (i * n + j)
is-box i j n first second = record {
  below = (
      let row : suc i * n ≤ n * n = mul-le-mul_right n first in
      omega (arith, suc-mul i n, row, second)
      );
  sender = sym (div-mul-add i n j second);
  receiver = sym (mod-mul-add i n j second);
}

pub in-words : {m n k words : ℕ} → m < n * n → n ≡ k → words ≡ k * k + 2 → m < words
in-words {m} {k = k} below same long =
    subst (λ (z : ℕ). m < z) (sym long)
    (let less : m < k * k = subst (λ (z : ℕ). m < z * z) same below in omega arith)

pub box-of : {k m : ℕ} (i j n : ℕ) → i < n → j < n → n ≡ k → m ≡ i * n + j → IsBox i j k m
box-of {k} i j n first second same is =
    subst (λ (z : ℕ). IsBox i j k z) (sym is)
    (subst (λ (z : ℕ). IsBox i j z (i * n + j)) same (is-box i j n first second))

-- a mailbox from the node, and one to it, is its own
pub own-from : (i j n : ℕ) → i < n → j < n → IsOwnBox i n (i * n + j)
own-from i j n first second =
    let m = i * n + j in
    let box = is-box i j n first second in
    (box.below, ap (λ (b : Bool). b || m % n == i) (eq-eqb (m / n) i (sym box.sender)))

pub own-to : (i j n : ℕ) → i < n → j < n → IsOwnBox j n (i * n + j)
own-to i j n first second =
    let m = i * n + j in
    let box = is-box i j n first second in (
      box.below,
      ap (λ (b : Bool). m / n == j || b) (eq-eqb (m % n) j (sym box.receiver))
          ∙ or-true (m / n == j),
    )

pub a-node : (r : Role) → is_node r ≡ true → r ≡ node
a-node dealer e = absurd (true≢false (sym e))
a-node node e = refl
a-node watch e = absurd (true≢false (sym e))

pub a-watch : (r : Role) → is_watch r ≡ true → r ≡ watch
a-watch dealer e = absurd (true≢false (sym e))
a-watch node e = absurd (true≢false (sym e))
a-watch watch e = refl
