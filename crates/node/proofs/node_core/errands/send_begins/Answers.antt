use Rattle.std.proofs.Common.{◌-◌, ◌∙◌, ℕ, ap}
use Rattle.link.specs.Links.{LinksView, retracted_to}
use Rattle.link.proofs.EveryLink.{retracted_to-appended_to}
use Rattle.node.proofs.Sends.{begins-sent, begins-spent}
use Rattle.node.proofs.node_core.errands.send_begins.Goals as goal

pub returns-in-Err : goal.returns-in-Err
returns-in-Err c =
    let first = c.in_ok-append.ensures in
    let left = c.in-Err.ensures in
    let last-is = ap (λ (k : ℕ). k - 1) c.width-last.ensures.value in
    record {
      done = tt;
      refused = λ other.
          let spent = left.refused other in
          (spent.0, begins-spent _ c.args.own c.args.cycle last-is first.done first.fits spent.1);
      unchanged = c.retract.ensures.done
          ∙ ap (λ (l : LinksView). retracted_to l (c.width-last.result - 1))
          (left.unchanged ∙ first.done)
          ∙ retracted_to-appended_to _ _ _ c.width-last.ensures.sound;
      sound = c.retract.ensures.sound;
    }

pub returns : goal.returns
returns c =
    let first = c.in_ok-append.ensures in
    let left = c.in_default.ensures in
    let last-is = ap (λ (k : ℕ). k - 1) c.width-last.ensures.value in
    record {
      done = begins-sent _ c.args.own c.args.cycle last-is first.done first.fits left.done
          left.fits;
      refused = tt;
      unchanged = tt;
      sound = left.sound;
    }
