use Rattle.std.proofs.Common.{◌≡◌, ℕ, ◌+◌, List, ◌++◌, Some, None, refl, subst, arith, rules}
use Rattle.std.proofs.lemmas.Int.{to_z-of_z}
use mir.Syntax.{w64}
use Rattle.codec.specs.Pieces.{Gains}
use Rattle.codec.specs.Writing.{Puts}
use Rattle.codec.proofs.Pieces.{then_more, tag_gained, tag_alone, piece_written}
use Rattle.model.specs.State.{Ring}
use Rattle.frames.specs.declared.version.Version.TheVariants.{Second}
use Rattle.image_parts.specs.Grammar.{front_format, ring_format, held_format}
use Rattle.image_parts.specs.Stored.{phases_by}
use Rattle.image_parts.proofs.writing.put_front.Goals as goal

-- one text and another
infixr 20 ◌⊕◌
◌⊕◌ : {a b c x y : List ℕ} {m n : ℕ} {P Q : Type 0} → Gains a b x m P → Gains b c y n Q
    → Gains a c (x ++ y) (m + n) (P × Q)
one ⊕ two = then_more one two (omega arith)

pub returns-in-None : goal.returns-in-None
unfolding front_format ring_format held_format
returns-in-None c =
    let ring : Ring = record {
      colour = c.colour.result;
      earlier = c.earlier.result;
      recent = c.recent.result;
      token = None;
    } in
    let held : c.token.result ≡ None = c.in-None.is in
    let same : ring ≡ c.args.ring = rw (
      c.colour.ensures,
      c.earlier.ensures,
      c.recent.ensures,
      ← held,
      c.token.ensures,
    ) refl in
    subst (λ (r : Ring). Puts (front_format Second) c.args.out.now c.piece.new.self
    (c.args.head.now, (phases_by c.args.phases.now, r))) same
    (piece_written
    ((rw c.new-piece.ensures at c.add_head.ensures) ⊕ c.add_phases.ensures ⊕ c.add_colour.ensures
    ⊕ (rw (to_z-of_z w64 c.earlier.result (search rules)) at c.i64.ensures)
    ⊕ (rw (to_z-of_z w64 c.recent.result (search rules)) at c.i64-2.ensures)
    ⊕ tag_alone {k = 1} c.u8.ensures (omega arith))
    c.piece.ensures)

pub returns-in-Some : goal.returns-in-Some
unfolding front_format ring_format held_format
returns-in-Some c =
    let ring : Ring = record {
      colour = c.colour.result;
      earlier = c.earlier.result;
      recent = c.recent.result;
      token = Some c.in-Some.token;
    } in
    let held : c.token.result ≡ Some c.in-Some.token = c.in-Some.is in
    let same : ring ≡ c.args.ring = rw (
      c.colour.ensures,
      c.earlier.ensures,
      c.recent.ensures,
      ← held,
      c.token.ensures,
    ) refl in
    subst (λ (r : Ring). Puts (front_format Second) c.args.out.now c.piece-in-Some.new.self
    (c.args.head.now, (phases_by c.args.phases.now, r))) same
    (piece_written
    ((rw c.new-piece.ensures at c.add_head.ensures) ⊕ c.add_phases.ensures ⊕ c.add_colour.ensures
    ⊕ (rw (to_z-of_z w64 c.earlier.result (search rules)) at c.i64.ensures)
    ⊕ (rw (to_z-of_z w64 c.recent.result (search rules)) at c.i64-2.ensures)
    ⊕ tag_gained {k = 10} c.u8-in-Some.ensures c.add_token.ensures (omega arith))
    c.piece-in-Some.ensures)
