-- A letter for which memory runs out when it is delivered.
use Rattle.std.proofs.Common.{◌≡◌, ℕ, ◌<◌, true, List, [], length, Option, Result, Ok, Err, refl, sym, subst, ◌∙◌}
use Rattle.std.specs.Prelude.{IfOk, OnErr}
use Rattle.std.proofs.lemmas.Bool.{and_parts}
use Rattle.std.proofs.lemmas.List.{append-nil, set-get_or}
use Rattle.ids.specs.declared.names.Ref.{Ref}
use Rattle.ids.specs.declared.refusal.Refusal.{Refusal}
use Rattle.frames.specs.Formats.{framed}
use Rattle.frames.specs.Grammar.{Fits, frame, spelling, is_letter}
use Rattle.frames.specs.Decoding.{SpellLetter}
use Rattle.frames.proofs.Frames.{no_spelling_begins_another}
use Rattle.msg.specs.Frames.{Plain, plain_ack, plain_data, data_frame}
use Rattle.msg.specs.Limits.{is_post, data_fits}
use Rattle.msg.specs.declared.body.Body.{Body}
use Rattle.msg.specs.declared.body.Body.TheVariants as body
use Rattle.msg.specs.declared.frame.Ack.{Ack}
use Rattle.msg.specs.declared.frame.Data.{Data}
use Rattle.model.specs.declared.event.Answer.{Answer}
use Rattle.model.specs.declared.event.Answer.TheVariants as answer
use Rattle.model.specs.declared.event.Event.TheVariants as event
use Rattle.node.specs.Keeping.{AreKeptIn, Rings, after_data}
use Rattle.node.specs.Lacking.{Lacks}
use Rattle.world.specs.Sites.{KeepingSite, SiteView, ActedKeeping, IsLetterOf, IsNoMessage, SpellNoMessage, bases, whole_at}
use Rattle.world.specs.Shows.{no_site}
use Rattle.world.specs.Spaces.{SpaceView, GivenSpace, keeping_at}

-- ---- the node

-- what is kept stays as it is
kept-same : (taken : ℕ) (es : Rings) (d : Data) (r : Result Answer Refusal)
    → IfOk r (λ a. a ≡ answer.Repeat) → es ≡ after_data taken es d r
kept-same taken es d (Ok a) is = rw is refl
kept-same taken es d (Err e) is = refl

none-dropped : (q : SiteView) (r : Result Answer Refusal)
    → IfOk r (λ a. bases q.current ≡ bases q.current)
none-dropped q (Ok a) = refl
none-dropped q (Err e) = tt

same-site : (q : SiteView) (r : Result Answer Refusal) → OnErr r (q ≡ q)
same-site q (Ok a) = tt
same-site q (Err e) = refl

-- an answer to a message that changes nothing
pub lacking : (q : KeepingSite) (d : Data) (r : Result Answer Refusal) → Lacks q.site.current d r
    → AreKeptIn (whole_at q) → ActedKeeping r q q (event.Data d)
lacking q d r h kept = record {
  acted = record {
    performs = h.performed.performs;
    unchanged = same-site q.site r;
    others = refl;
    leaves = record { shape = refl; own = refl; acks = refl; kept = refl; bases = λ _. refl };
    lets_go = none-dropped q.site r;
    memory_free = h.memory_free;
  };
  early = kept-same _ q.early d r h.repeats;
  turn = λ other. absurd (other refl);
  kept = kept;
}

-- ---- the message

-- a letter has a label, references and bytes
pub record IsPosted (b : Body) : Type 0 where
  pub label : ℕ
  pub references : List (Option Ref)
  pub bytes : List ℕ
  pub is : b ≡ body.Post label references bytes

pub posted : (b : Body) → is_post b ≡ true → IsPosted b
posted (body.Post label references bytes) is =
    record { label = label; references = references; bytes = bytes; is = refl }
posted b is = absurd cc

-- the message of a frame
message-of : {bytes : List ℕ} (f : Plain) → Fits f → is_letter f ≡ true → bytes ≡ spelling f
    → (d : Data) × IsLetterOf bytes d
unfolding frame framed
message-of (data_frame from to number stamp (body.Post label references text)) fits letter same = (
  record {
    from = from;
    to = to;
    number = number;
    stamp = stamp;
    body = body.Post label references text;
    fits = (and_parts (data_fits from to number stamp (body.Post label references text)) _
        fits.within.1).0;
  },
  record { letter = letter; fits = fits; spelled = same },
)
message-of f fits letter same = absurd cc

pub message : {bytes : List ℕ} → SpellLetter bytes → (d : Data) × IsLetterOf bytes d
message h = message-of h.0 h.1 h.2 h.3

-- and only that message has these bytes
pub message-only : {bytes : List ℕ} {d : Data} → IsLetterOf bytes d → (x : Plain) → Fits x
    → bytes ≡ spelling x → plain_data d ≡ x
message-only {d = d} h x fits same =
    (no_spelling_begins_another (plain_data d) x [] h.fits fits
    (append-nil (spelling (plain_data d)) ∙ sym h.spelled ∙ same)).1

-- what an acknowledgement spells is no message
pub no-message : {bytes : List ℕ} (a : Ack)
    → ((x : Plain) → Fits x → bytes ≡ spelling x → plain_ack a ≡ x) → SpellNoMessage bytes
no-message a only x fits same = subst IsNoMessage (only x fits same) tt

-- ---- the space

given-same : {n : SpaceView} {i : ℕ} {d : Data} {r : Result Answer Refusal}
    → i < length n.sites → ActedKeeping r (keeping_at n i) (keeping_at n i) (event.Data d)
    → GivenSpace r n n i (event.Data d)
given-same {n = n} {i = i} less acted = record {
  within = less;
  site = keeping_at n i;
  acted = acted;
  sites = sym (set-get_or n.sites i no_site);
  early = sym (set-get_or n.early i []);
}

-- the same in terms of the code, which reads the site
pub given-at : {n : SpaceView} {i : ℕ} {q : KeepingSite} {d : Data} {r : Result Answer Refusal}
    → i < length n.sites → q ≡ keeping_at n i → ActedKeeping r q q (event.Data d)
    → GivenSpace r n n i (event.Data d)
given-at {d = d} {r = r} less same acted =
    given-same less (subst (λ (z : KeepingSite). ActedKeeping r z z (event.Data d)) same acted)
