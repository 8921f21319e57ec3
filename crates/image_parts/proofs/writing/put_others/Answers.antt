use Rattle.std.proofs.Common.{List, ℕ, ◌++◌, append_assoc, subst}
use Rattle.codec.specs.declared.writer.Writer.{Writer}
use Rattle.codec.specs.Writing.{Says, Writes}
use Rattle.codec.proofs.Writing.{both}
use Rattle.frames.specs.Formats.{body_format}
use Rattle.image_parts.specs.Grammar.{others_format, link_format, message_format}
use Rattle.image_parts.proofs.writing.put_others.Goals as goal

-- a third text after two that were written at once
third : {a b c : Writer} {z : List ℕ} {P Q R : Type 0} (x y : List ℕ)
    → Writes a b (x ++ y) (P × Q) → Writes b c z R → Writes a c (x ++ (y ++ z)) (P × (Q × R))
third {c = c} {z = z} x y two one =
    let w = both two one in
    record {
      limit = w.limit;
      back = w.back;
      more = λ before is.
          subst (λ (t : List ℕ). Says c (before ++ t)) (append_assoc x y z) (w.more before is);
      known = λ is. let k = w.known is in (k.0.0, (k.0.1, k.1));
    }

pub returns : goal.returns
unfolding others_format link_format message_format body_format
returns c = third _ _ c.put_waiting.ensures c.put_links.ensures
