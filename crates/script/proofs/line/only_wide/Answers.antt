use Rattle.std.proofs.Common.{◌∙◌, refl}
use Rattle.script.specs.Grammar.{only_wide}
use Rattle.script.proofs.Readers.{by_verb}
use Rattle.script.proofs.line.only_wide.Goals as goal

pub returns-in-setbytes : goal.returns-in-setbytes
unfolding only_wide
returns-in-setbytes c =
    c.set_bytes.ensures ∙ by_verb c.args.node refl c.in_ok-verb.ensures.word c.in-setbytes.is

pub returns-in-patch : goal.returns-in-patch
unfolding only_wide
returns-in-patch c =
    c.patch.ensures ∙ by_verb c.args.node refl c.in_ok-verb.ensures.word c.in-patch.is

pub returns-in-bytes : goal.returns-in-bytes
unfolding only_wide
returns-in-bytes c =
    c.bytes.ensures ∙ by_verb c.args.node refl c.in_ok-verb.ensures.word c.in-bytes.is

pub returns-in-post : goal.returns-in-post
unfolding only_wide
returns-in-post c =
    c.post.ensures ∙ by_verb c.args.node refl c.in_ok-verb.ensures.word c.in-post.is

pub returns-in-fetch : goal.returns-in-fetch
unfolding only_wide
returns-in-fetch c =
    c.fetch.ensures ∙ by_verb c.args.node refl c.in_ok-verb.ensures.word c.in-fetch.is

pub returns-in-resolve : goal.returns-in-resolve
unfolding only_wide
returns-in-resolve c =
    c.resolve.ensures ∙ by_verb c.args.node refl c.in_ok-verb.ensures.word c.in-resolve.is

pub returns-in-letter : goal.returns-in-letter
unfolding only_wide
returns-in-letter c =
    c.letter.ensures ∙ by_verb c.args.node refl c.in_ok-verb.ensures.word c.in-letter.is

pub returns-in-reclaim : goal.returns-in-reclaim
unfolding only_wide
returns-in-reclaim c =
    c.reclaim.ensures ∙ by_verb c.args.node refl c.in_ok-verb.ensures.word c.in-reclaim.is
