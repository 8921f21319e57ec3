use Rattle.std.proofs.Common.{ℕ, ◌≡◌, ◌*◌, ◌+◌, List, length, replicate, get_or, sym, ap, ◌∙◌}
use Rattle.std.proofs.lemmas.List.{length-map, length-replicate}
use Rattle.model.proofs.Lookups.{get_or-replicate_any}
use Rattle.wire.proofs.DealSteps.{starts}
use Rattle.wire.proofs.dealing.start.Goals as goal

pub new-requires : goal.new-requires
new-requires c =
    let n : ℕ = c.args.nodes in
    let is : c.as_slice.result.now ≡ replicate (n * n + 2) 0 =
    c.as_slice.ensures.value ∙ c.in_ok-words.ensures.items_if_clones_equal (λ y e. e) in
    let square = ap (λ (k : ℕ). k * k) (sym c.requires.nodes.0) in
    let long = c.in_ok-slots.ensures ∙ square in
    starts c.as_slice.result.now c.in_ok-slots.slots.items
    c.requires.opens
    (ap length is ∙ length-replicate (n * n + 2) 0 ∙ ap (λ (k : ℕ). k + 2) square)
    (λ k. ap (λ (l : List ℕ). get_or l k 0) is ∙ get_or-replicate_any (n * n + 2) k 0)
    long
    (length-map c.in_ok-slots.slots.items _ ∙ long)
