use Rattle.std.proofs.Common.{◌≡◌, ◌++◌, ◌∙◌, refl, sym, ap, length, arith, append_assoc}
use Rattle.std.proofs.lemmas.Grind.{common_steps}
use Rattle.std.proofs.lemmas.List.{length-map}
use Rattle.link.specs.Parts.{link_given, taken_given}
use Rattle.image.specs.Nodes.{link_of}
use Rattle.image.proofs.Elements.{map-insert}
use Rattle.image.proofs.Made.{same_more}
use Rattle.image.proofs.restoring.every_link.Goals as goal

pub loop-link-preserved : goal.loop-link-preserved
loop-link-preserved c =
    let old = c.loop-link.invariant in
    let one = c.given_link.ensures in
    record {
      came = append_assoc c.loop-link.yielded _ _
          ∙ ap (λ xs. c.loop-link.yielded ++ xs) (sym c.in-Some.ensures.steps.0) ∙ old.came;
      sent = rw c.in_ok-push.ensures.items
          (same_more _ _ _ c.loop-link.yielded _ _ old.sent one.sent);
      taken = rw c.in_ok-push.ensures.items
          (same_more _ _ _ c.loop-link.yielded _ _ old.taken one.taken);
    }

pub insert-requires : goal.insert-requires
insert-requires c =
    let all : c.loop-link.yielded ≡ c.args.stored.items = grind (arith, common_steps) in
    omega (
      arith,
      c.requires,
      ap length c.loop-link.invariant.sent,
      ap length all,
      length-map c.loop-link.links.items link_given,
      length-map c.loop-link.yielded link_of,
    )

pub returns : goal.returns
returns c =
    let all : c.loop-link.yielded ≡ c.args.stored.items = grind (arith, common_steps) in
    let links = c.loop-link.links.items in
    record {
      sent = rw (
        c.in_ok-insert.ensures.items,
        c.from.ensures,
        map-insert link_given links c.args.own _,
        c.new.ensures.items,
        c.loop-link.invariant.sent,
        all,
      ) refl;
      taken = rw (
        c.in_ok-insert.ensures.items,
        c.from.ensures,
        map-insert taken_given links c.args.own _,
        c.loop-link.invariant.taken,
        all,
      ) refl;
      refused = tt;
    }
