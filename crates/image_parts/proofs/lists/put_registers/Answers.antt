use Rattle.std.proofs.Common.{◌≡◌, ◌+◌, ◌-◌, ◌++◌, ℕ, List, Option, take, drop, sym, ◌∙◌, ap, subst, arith}
use Rattle.std.proofs.Math.Seq.{take-add}
use Rattle.codec.specs.Writing.{PutsAll}
use Rattle.codec.proofs.Writing.{written_also}
use Rattle.ids.specs.declared.names.Ref.{Ref}
use Rattle.frames.specs.Formats.{optional}
use Rattle.frames.specs.declared.version.Version.TheVariants.{Second}
use Rattle.image_parts.proofs.lists.put_registers.Goals as goal

pub loop-done-preserved : goal.loop-done-preserved
loop-done-preserved c =
    let F = optional Second in
    let xs : List (Option Ref) = c.args.registers.now in
    let done = c.loop-done.done in
    let end = c.put_some-done.result in
    let further : done + (end - done) ≡ end = omega (arith, c.put_some-done.ensures.more) in
    let more : take done xs ++ take (end - done) (drop done xs) ≡ take end xs =
    sym (take-add done (end - done) xs) ∙ ap (λ (n : ℕ). take n xs) further in
    record {
      within = c.put_some-done.ensures.within;
      written =
          subst (λ (ys : List (Option Ref)). PutsAll F c.args.out.now c.put_some-done.new.out ys)
          more
          (written_also F.spell F.IsWide (take done xs) _ c.loop-done.invariant.written
          c.put_some-done.ensures.written);
    }
