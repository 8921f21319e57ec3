-- Whether two nodes are equal.
use Rattle.std.proofs.Common.{◌≡◌, true, sym, ap, refl, subst}
use Rattle.std.proofs.lemmas.Bool.{eqb-true, eq-eqb, and_parts, and_from, true≢false}
use base.Stored.{Gv, gnil, gnum, gcons}
use Rattle.model.specs.View.{NodeView}
use Rattle.cell.specs.Disks.{is_same_node, node_code, same_tree}

tree-true : (a b : Gv) → same_tree a b ≡ true → a ≡ b
unfolding same_tree
tree-true gnil gnil is = refl
tree-true gnil (gnum n) is = absurd (true≢false (sym is))
tree-true gnil (gcons c d) is = absurd (true≢false (sym is))
tree-true (gnum m) gnil is = absurd (true≢false (sym is))
tree-true (gnum m) (gnum n) is = ap gnum (eqb-true m n is)
tree-true (gnum m) (gcons c d) is = absurd (true≢false (sym is))
tree-true (gcons a b) gnil is = absurd (true≢false (sym is))
tree-true (gcons a b) (gnum n) is = absurd (true≢false (sym is))
tree-true (gcons a b) (gcons c d) is =
    let both = and_parts (same_tree a c) (same_tree b d) is in
    λ i. gcons (tree-true a c both.0 i) (tree-true b d both.1 i)

tree-same : (a : Gv) → same_tree a a ≡ true
unfolding same_tree
tree-same gnil = refl
tree-same (gnum n) = eq-eqb n n refl
tree-same (gcons a b) = and_from (same_tree a a) (same_tree b b) (tree-same a) (tree-same b)

pub same-true : (m n : NodeView) → is_same_node m n ≡ true → m ≡ n
same-true m n is = node_code.inj m n (tree-true (node_code.code m) (node_code.code n) is)

pub same-node : (m n : NodeView) → m ≡ n → is_same_node m n ≡ true
same-node m n same =
    subst (λ (k : NodeView). is_same_node m k ≡ true) same (tree-same (node_code.code m))
