use Rattle.std.proofs.Common.{◌≡◌, ◌∙◌, ◌∷◌, ◌++◌, ℕ, ◌+◌, ◌<◌, List, Option, suc, length, take, drop, set, option_to_list, ap, sym, arith}
use Rattle.std.proofs.lemmas.Grind.{common_steps}
use Rattle.c_values.specs.declared.fields.CFreed.{CFreed}
use Rattle.c_handles.proofs.Entries.{drop_next, moved_one}
use Rattle.c_handles.proofs.gone.move_out.Goals.{in-Some, in_default}
use Rattle.c_handles.proofs.gone.move_out.Goals as goal

pub loop-place-preserved : goal.loop-place-preserved
loop-place-preserved c =
    let loop = c.loop-place in
    let i = loop.place in
    let xs = c.args.list.now.items in
    let ys = c.args.buffer.now in
    let next : suc i ≡ i + 1 = omega arith in
    let less : i < length ys =
    omega (arith, c.loop-place-test.true, c.loop-place.auto.place-end, c.requires.room) in
    elim c.match-pop_front.branch [
      | in-Some w ↦
          let freed = w.in-Some.freed in
          let rest = c.pop_front.new.self.items in
          let first : drop i xs ≡ freed ∷ rest =
          sym loop.invariant.left ∙ c.pop_front.ensures.items
          ∙ ap (λ (o : Option CFreed). option_to_list o ++ rest) w.in-Some.is in
          record {
            left = c.pop_front.ensures.rest ∙ ap (drop 1) loop.invariant.left ∙ drop_next i xs
                ∙ ap (λ (n : ℕ). drop n xs) next;
            moved = w.buffer-is
                ∙ ap (λ (b : List CFreed). set b i freed) loop.invariant.moved
                ∙ moved_one i xs ys freed rest first less
                ∙ ap (λ (n : ℕ). take n xs ++ drop n ys) next;
          }
      | in_default w ↦ grind (arith, common_steps)
    ]
