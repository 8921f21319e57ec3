use Rattle.std.proofs.Common.{◌≡◌, ◌+◌, ◌-◌, ℕ, List, Option, length, take, drop, subst, arith}
use Rattle.std.proofs.lemmas.List.{take_all, length-drop}
use Rattle.ids.specs.declared.names.Ref.{Ref}
use Rattle.codec.specs.Writing.{PutsAll}
use Rattle.frames.specs.Formats.{optional}
use Rattle.frames.specs.declared.version.Version.TheVariants.{Second}
use Rattle.image_parts.proofs.lists.put_some.Goals as goal

pub returns-then-all_empty-clause-written : goal.returns-then-all_empty-clause-written
returns-then-all_empty-clause-written c =
    let xs : List (Option Ref) = c.args.registers.now in
    let left : List (Option Ref) = drop c.args.done xs in
    let count : 16 ≡ c.args.done + 16 - c.args.done = omega arith in
    let all : take (length xs - c.args.done) left ≡ left =
    take_all (length xs - c.args.done) left (omega (arith, length-drop c.args.done xs)) in
    subst (λ (n : ℕ). PutsAll (optional Second) c.args.out.now c.put_empty.new.out (take n left))
    count (rw all at c.put_empty.ensures)

pub returns-clause-written : goal.returns-clause-written
returns-clause-written c =
    let xs : List (Option Ref) = c.args.registers.now in
    let left : List (Option Ref) = drop c.args.done xs in
    let some = c.min-count.result in
    let count : some ≡ c.args.done + some - c.args.done = omega arith in
    let all : take (length xs - c.args.done) left ≡ left =
    take_all (length xs - c.args.done) left (omega (arith, length-drop c.args.done xs)) in
    subst (λ (n : ℕ). PutsAll (optional Second) c.args.out.now c.put_few.new.out (take n left))
    count (rw all at c.put_few.ensures)
