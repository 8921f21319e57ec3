use Rattle.std.proofs.Common.{rules, subst, sym, refl, true, false, Err}
use Rattle.ids.specs.declared.refusal.Refusal.TheVariants.{BadFrame}
use Rattle.frames.specs.Grammar.{ack_at, data_at}
use Rattle.frames.specs.Decoding.{Decodes}
use Rattle.frames.proofs.Wholes.{first_whole, first_unknown, plain_decodes}
use Rattle.frames.proofs.reading.whole.Goals as goal

pub returns-in-69 : goal.returns-in-69
returns-in-69 c =
    subst (Decodes c.whole_data.result)
    (first_whole (data_at true) c.args.bytes.now c.new-reader.ensures c.u8.ensures
    (λ rest. rw c.in-69.is refl)) c.whole_data.ensures

pub returns-in-66 : goal.returns-in-66
returns-in-66 c =
    subst (Decodes c.whole_ack.result)
    (first_whole ack_at c.args.bytes.now c.new-reader.ensures c.u8.ensures
    (λ rest. rw c.in-66.is refl))
    (plain_decodes c.whole_ack.result _ c.whole_ack.ensures.value c.whole_ack.ensures.refused)

pub returns-in-70 : goal.returns-in-70
returns-in-70 c =
    subst (Decodes c.whole_wide.result)
    (first_whole (data_at false) c.args.bytes.now c.new-reader.ensures c.u8.ensures
    (λ rest. rw c.in-70.is refl)) c.whole_wide.ensures

pub returns-in_default : goal.returns-in_default
returns-in_default c =
    subst (Decodes (Err BadFrame))
    (sym (first_unknown c.args.bytes.now c.new-reader.ensures c.u8.ensures
    (λ rest. search rules))) refl
