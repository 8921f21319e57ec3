-- A node's links and the bounds of its balances after it has appended messages.
use Rattle.std.proofs.Common.{◌≡◌, ◌≢◌, ℕ, zero, suc, ◌+◌, ◌<◌, ◌≤◌, ◌==◌, cond, List, [], ◌∷◌, ◌++◌, length, arith, subst, sym, ◌∙◌}
use Rattle.std.specs.List.{AllByRecursion}
use Rattle.std.proofs.lemmas.Bool.{cond_both, eqb-false}
use Rattle.ids.specs.Limits.{Shaped}
use Rattle.ids.specs.declared.names.Ref.{Ref}
use Rattle.ids.specs.declared.limits.TheConstants.{GREATEST_CYCLE}
use Rattle.msg.specs.declared.body.Message.{Message}
use Rattle.model.specs.View.{append_to}
use Rattle.model.specs.References.{IsSendable, IsWithin}
use Rattle.model.specs.Shading.{marks_for, unasked}
use Rattle.model.specs.WellFormed.{IsOther}
use Rattle.model.proofs.Appending.{length-append_to, marks-inside, marks-sendable, sendable-appended, sum-appended}
use Rattle.model.proofs.References.{all-append}
use Rattle.model.proofs.Asking.{marks-others, marks-timely, timely-appended, timely-later, unasked-others}
use Rattle.model.proofs.Shading.{unasked-all}
use Rattle.link.specs.Links.{LinksView, IsLinks, for_others}
use Rattle.remote_marks.specs.Asked.{all_appended}
use Rattle.node.specs.Invariant.{AreLinked, number_sum}

-- messages that a node in this cycle may append: they are for other nodes of the shape
pub record MaySend (shape : Shaped) (own cycle : ℕ) (ms : List (ℕ × Message)) : Type 0 where
  pub inside : AllByRecursion (λ (m : ℕ × Message). m.0 < shape.nodes) ms
  pub others : AllByRecursion (λ (m : ℕ × Message). m.0 ≢ own) ms
  pub sendable : AllByRecursion (λ (m : ℕ × Message). IsSendable shape m.1) ms
  pub stamps : AllByRecursion (λ (m : ℕ × Message). m.1.stamp ≤ cycle) ms

pub none-may : (shape : Shaped) (own cycle : ℕ) → MaySend shape own cycle []
none-may shape own cycle = record { inside = tt; others = tt; sendable = tt; stamps = tt }

pub one-may : (shape : Shaped) (own cycle to : ℕ) (x : Message) → IsOther shape own to
    → IsSendable shape x → x.stamp ≤ cycle → MaySend shape own cycle ((to, x) ∷ [])
one-may shape own cycle to x there sendable stamp = record {
  inside = (there.0, tt);
  others = (there.1, tt);
  sendable = (sendable, tt);
  stamps = (stamp, tt);
}

pub both-may : (shape : Shaped) (own cycle : ℕ) (xs ys : List (ℕ × Message))
    → MaySend shape own cycle xs → MaySend shape own cycle ys → MaySend shape own cycle (xs ++ ys)
both-may shape own cycle xs ys a b = record {
  inside = all-append (λ (m : ℕ × Message). m.0 < shape.nodes) xs ys a.inside b.inside;
  others = all-append (λ (m : ℕ × Message). m.0 ≢ own) xs ys a.others b.others;
  sendable = all-append (λ (m : ℕ × Message). IsSendable shape m.1) xs ys a.sendable b.sendable;
  stamps = all-append (λ (m : ℕ × Message). m.1.stamp ≤ cycle) xs ys a.stamps b.stamps;
}

pub nodes-within : (shape : Shaped) (rs : List Ref) → AllByRecursion (IsWithin shape) rs
    → AllByRecursion (λ (r : Ref). r.node < shape.nodes) rs
nodes-within shape [] all = tt
nodes-within shape (r ∷ rs) all = (all.0.node, nodes-within shape rs all.1)

pub marks-may : (shape : Shaped) (own cycle : ℕ) (asked rs : List Ref) → cycle ≤ GREATEST_CYCLE
    → AllByRecursion (IsWithin shape) rs
    → MaySend shape own cycle (marks_for cycle (unasked own asked rs))
marks-may shape own cycle asked rs within all =
    let us : List Ref = unasked own asked rs in
    let sought = unasked-all (IsWithin shape) own asked rs all in
    record {
      inside = marks-inside shape.nodes cycle us (nodes-within shape us sought);
      others = marks-others own cycle us (unasked-others own asked rs);
      sendable = marks-sendable shape cycle us within sought;
      stamps = marks-timely cycle us;
    }

pub linked-appended : (shape : Shaped) (own cycle : ℕ) (l : LinksView) (ms : List (ℕ × Message))
    → AreLinked shape own cycle l → MaySend shape own cycle ms → IsLinks (all_appended l ms)
    → AreLinked shape own cycle (all_appended l ms)
linked-appended shape own cycle l ms h may links = record {
  width = length-append_to l.links ms ∙ h.width;
  links = links;
  messages = sendable-appended shape l.links ms may.sendable h.messages;
  timely = timely-appended h.timely ms may.others may.stamps;
}

-- the same links of a node in a later cycle
pub linked-later : {shape : Shaped} {own cycle : ℕ} {l : LinksView} (later : ℕ) → cycle ≤ later
    → AreLinked shape own cycle l → AreLinked shape own later l
linked-later {own = own} {cycle = cycle} {l = l} later more h = record {
  width = h.width;
  links = h.links;
  messages = h.messages;
  timely = timely-later h.timely later more;
}

pub numbers-appended : (shape : Shaped) (own cycle : ℕ) (l : LinksView) (ms : List (ℕ × Message))
    → AreLinked shape own cycle l → MaySend shape own cycle ms
    → number_sum (append_to l.links ms) l.got ≡ number_sum l.links l.got + length ms
numbers-appended shape own cycle l ms h may =
    let inside =
    subst (λ (k : ℕ). AllByRecursion (λ (m : ℕ × Message). m.0 < k) ms) (sym h.width) may.inside in
    omega (arith, sum-appended l.links ms inside)

-- the same message for all others
below-may : (shape : Shaped) (own cycle : ℕ) (x : Message) (width : ℕ) → width ≤ shape.nodes
    → IsSendable shape x → x.stamp ≤ cycle → MaySend shape own cycle (for_others own x width)
below-may shape own cycle x zero few sendable stamp = none-may shape own cycle
below-may shape own cycle x (suc n) few sendable stamp =
    let there : n < shape.nodes = omega (arith, few) in
    both-may shape own cycle (for_others own x n) (cond (n == own) [] ((n, x) ∷ []))
    (below-may shape own cycle x n (omega (arith, few)) sendable stamp)
    (cond_both (n == own) [] ((n, x) ∷ []) (MaySend shape own cycle)
    (λ _. none-may shape own cycle)
    (λ other. one-may shape own cycle n x (there, eqb-false n own other) sendable stamp))

pub others-may : (shape : Shaped) (own cycle : ℕ) (x : Message) → IsSendable shape x
    → x.stamp ≤ cycle → MaySend shape own cycle (for_others own x shape.nodes)
others-may shape own cycle x sendable stamp =
    below-may shape own cycle x shape.nodes (omega arith) sendable stamp
