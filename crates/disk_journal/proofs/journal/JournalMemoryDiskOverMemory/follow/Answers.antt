use Rattle.std.proofs.Common.{◌∙◌, ap, is_some, subst, sym}
use Rattle.disk.specs.Areas.{part}
use Rattle.disk_shelf.specs.Logs.{IsBehind}
use Rattle.disk.specs.Record.{areas_of, leaves}
use Rattle.disk_shelf.specs.Shelf.{half, recorded, side}
use Rattle.disk.specs.declared.account.Account.{Account}
use Rattle.disk.specs.declared.state.State.{State}
use Rattle.disk_journal.proofs.journal.JournalMemoryDiskOverMemory.follow.Goals as goal

pub invariant_of-self : goal.invariant_of-self
invariant_of-self g c =
    let tail = c.args.self.now.tail in
    let same = ap (λ (a : Account). a.state) c.follow.ensures.account in
    record {
      kept = λ is.
          let k = c.args.self.now.kept is in
          record {
            only = λ x left.
                k.only x (subst (λ s. leaves s x) same left)
                ∙ sym (ap (λ (s : State). areas_of s.held) same);
            selected = ap (λ (s : State). side (areas_of s.held).select) same ∙ k.selected;
            holds = ap (λ (s : State). is_some (recorded (part (half tail.in_b) (areas_of s.held))))
                same ∙ k.holds;
            behind = subst (λ (s : State). IsBehind g.P.Persist.logs tail.end
                (part (half tail.in_b) (areas_of s.held))) (sym same) k.behind;
          };
      plain = λ plain.
          let was = c.args.self.now.plain plain in
          (was.0, λ x left. was.1 x (subst (λ s. leaves s x) same left));
    }
