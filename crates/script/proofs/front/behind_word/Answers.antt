use Rattle.std.proofs.Common.{◌≡◌, ◌∙◌, ◌+◌, ℕ, List, length, take, drop, sym, ap, subst, arith}
use Rattle.std.proofs.Math.Seq.{take-length}
use Rattle.std.specs.Str.{IsCharBoundary}
use Rattle.script.specs.Words.{past, word_end}
use Rattle.script.proofs.Words.{StartsWord, started_cut, started_rest, started_word}
use Rattle.script.proofs.front.behind_word.Goals as goal
use Rattle.script.proofs.front.behind_word.Goals.{After-loop-place}

starts : (c : After-loop-place) → StartsWord c.args.name.now c.args.text.now
starts c =
    let bytes : List ℕ = c.as_bytes-bytes.result.now in
    let wanted : List ℕ = c.as_bytes-wanted.result.now in
    let name = c.as_bytes-wanted.ensures.value in
    let all = c.loop-place.invariant.0 in
    let end = c.loop-place-test.false in
    let whole : c.loop-place.place ≡ length wanted = omega (arith, all, end) in
    subst (λ (t : List ℕ). StartsWord c.args.name.now t) c.as_bytes-bytes.ensures.value
    (subst (λ (n : List ℕ). StartsWord n bytes) name (record {
      word = subst (λ (n : List ℕ). word_end n ≡ length n) (sym name) c.requires;
      within = c.if-bytes-wanted.false;
      front = subst (λ (k : ℕ). take k bytes ≡ take k wanted) whole c.loop-place.invariant.1
          ∙ take-length wanted;
      space = c.if-bytes-wanted-ne32.false;
    }))

pub range_from-requires : goal.range_from-requires
range_from-requires c _ =
    subst (λ (n : List ℕ). IsCharBoundary c.args.text.now (length n + 1))
    (sym c.as_bytes-wanted.ensures.value) (started_cut (starts c) c.utf8.text)

pub returns-clause-word : goal.returns-clause-word
returns-clause-word c = started_word (starts (goal.at.returns-clause-word c).After-loop-place)

pub returns-clause-rest : goal.returns-clause-rest
returns-clause-rest c =
    c.past_spaces.ensures.rest ∙ ap past (c.range_from.ensures.value
    ∙ ap (λ (n : List ℕ). drop (length n + 1) c.args.text.now) c.as_bytes-wanted.ensures.value)
    ∙ started_rest (starts (goal.at.returns-clause-rest c).After-loop-place)
