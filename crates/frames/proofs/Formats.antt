-- The formats of the parts of frames are sound.
use Rattle.std.proofs.Common.{◌≡◌, ℕ, Bool, true, false, List, [], ◌∷◌, ◌++◌, Some, refl, arith}
use Rattle.std.specs.Prelude.{not}
use Rattle.codec.specs.Formats.{Format, Fits, byte, number4, number8, nothing, made_at}
use Rattle.codec.specs.Reading.{IsSound}
use Rattle.codec.proofs.Growing.{Grows, Later, same, mapped_grows, option_grows, counted_grows, ◌⊛◌}
use Rattle.codec.proofs.Laws.{nothing_sound, mapped_sound, ◌⊗◌, kept_sound, made_again, ◌⊕◌, found}
use Rattle.codec.proofs.Laws.{AreFound, tagged_takes}
use Rattle.std.proofs.lemmas.Bool.{false≢true}
use Rattle.std.specs.Prelude.{Option}
use Rattle.ids.specs.declared.names.Ref.{Ref}
use Rattle.codec.proofs.Numbers.{byte_sound, number4_sound, number8_sound, signed8_sound}
use Rattle.codec.proofs.Runs.{bytes4_sound}
use Rattle.msg.specs.declared.body.Body.{Body}
use Rattle.msg.specs.declared.body.Body.TheVariants as body
use Rattle.msg.specs.declared.body.Colour.{Colour}
use Rattle.msg.specs.declared.body.Colour.TheVariants.{White, Black}
use Rattle.frames.specs.declared.version.Version.{Version}
use Rattle.frames.specs.declared.version.Version.TheVariants.{First, Second}
use Rattle.frames.specs.Formats.{generation, reference, optional, colour, token, give, put, get}
use Rattle.frames.specs.Formats.{post, fetch, give_at, put_at, get_at, post_at, fetch_at}
use Rattle.frames.specs.Formats.{said, plain_bodies, bodies, body_format, head, sent}
use Rattle.frames.specs.Lengths.{optional_long}
use Rattle.frames.specs.Formats.{sent_fits, is_framed, framed, known, head_fits}

-- a format that grows from the first version to the second is sound in both
pub any : {A : Type 0} (F : Version → Format A) → Grows (F First) (F Second) → (v : Version)
    → IsSound (F v)
any F g First = g.first
any F g Second = g.second

pub generation_grows : Grows (generation First) (generation Second)
unfolding number4 number8
generation_grows = record {
  first = number4_sound;
  second = number8_sound;
  later = λ g. (λ is. omega (arith, is), λ is. tt);
}

pub reference_grows : Grows (reference First) (reference Second)
unfolding reference
reference_grows =
    mapped_grows _ _ (same byte_sound ⊛ same number4_sound ⊛ generation_grows) (λ _. refl)
    (λ _. refl)

pub optional_grows : Grows (optional First) (optional Second)
unfolding optional
optional_grows = option_grows reference_grows

colour_again : (c : Colour) (rest : List ℕ) → Fits colour c
    → colour.read (colour.spell c ++ rest) ≡ Some (c, rest)
unfolding colour
colour_again White rest fits = refl
colour_again Black rest fits = refl

pub colour_sound : IsSound colour
unfolding colour
colour_sound = record {
  takes = tagged_takes colour
      ((0, made_at nothing (λ _. White)) ∷ (1, made_at nothing (λ _. Black)) ∷ []) (
      found nothing colour 0 (λ _. White) nothing_sound (λ _. refl) (λ _ w. w) (λ _ w. w)
      ⊕ found nothing colour 1 (λ _. Black) nothing_sound (λ _. refl) (λ _ w. w) (λ _ w. w)
      ⊕ tt
      );
  again = colour_again;
}

pub token_sound : IsSound token
unfolding token
token_sound =
    mapped_sound _ _ _ (colour_sound ⊗ signed8_sound) (λ a fits. refl) (λ t. refl)

give_grows : Grows (give First) (give Second)
give_grows = same number4_sound ⊛ optional_grows

put_grows : Grows (put First) (put Second)
put_grows = reference_grows ⊛ same byte_sound ⊛ optional_grows

get_grows : Grows (get First) (get Second)
get_grows = reference_grows ⊛ same byte_sound ⊛ same number4_sound

pub post_grows : Grows (post First) (post Second)
post_grows =
    same number4_sound
    ⊛ counted_grows optional_grows (optional_long First) (optional_long Second) byte byte_sound
    ⊛ same bytes4_sound

fetch_grows : Grows (fetch First) (fetch Second)
fetch_grows =
    reference_grows ⊛ same number4_sound ⊛ same number4_sound ⊛ same number4_sound

-- ---- bodies

abbrev give_of : ℕ × Option Ref → Body
give_of x = body.Give x.0 x.1

abbrev put_of : Ref × (ℕ × Option Ref) → Body
put_of x = body.Put x.0 x.1.0 x.1.1

abbrev get_of : Ref × (ℕ × ℕ) → Body
get_of x = body.Get x.0 x.1.0 x.1.1

-- what a letter says
abbrev pub Posted : Type 0
Posted = ℕ × (List (Option Ref) × List ℕ)

abbrev pub post_of : Posted → Body
post_of x = body.Post x.0 x.1.0 x.1.1

abbrev fetch_of : Ref × (ℕ × (ℕ × ℕ)) → Body
fetch_of x = body.Fetch x.0 x.1.0 x.1.1.0 x.1.1.1

body_again : (wide : Bool) (v : Version) (b : Body) (rest : List ℕ) → Fits (body_format wide v) b
    → (body_format wide v).read ((body_format wide v).spell b ++ rest) ≡ Some (b, rest)
unfolding body_format give_at put_at get_at post_at fetch_at
body_again true v body.Begin rest fits = refl
body_again true v (body.Token t) rest fits =
    made_again token body.Token token_sound t rest fits.wide fits.within.1
body_again true v (body.Mark target) rest fits =
    made_again (reference v) body.Mark (any reference reference_grows v) target rest fits.wide
    fits.within.1
body_again true v (body.Give label r) rest fits =
    made_again (give v) give_of (any give give_grows v) (label, r) rest fits.wide fits.within.1
body_again true v (body.Put target place r) rest fits =
    made_again (put v) put_of (any put put_grows v) (target, (place, r)) rest fits.wide
    fits.within.1
body_again true v (body.Get target place label) rest fits =
    made_again (get v) get_of (any get get_grows v) (target, (place, label)) rest fits.wide
    fits.within.1
body_again true v body.Ended rest fits = refl
body_again true v body.Swept rest fits = refl
body_again true v (body.Post label rs bytes) rest fits =
    made_again (post v) post_of (any post post_grows v) (label, (rs, bytes)) rest fits.wide
    fits.within.1
body_again true v (body.Fetch target label offset count) rest fits =
    made_again (fetch v) fetch_of (any fetch fetch_grows v) (target, (label, (offset, count))) rest
    fits.wide fits.within.1
body_again false v body.Begin rest fits = refl
body_again false v (body.Token t) rest fits =
    made_again token body.Token token_sound t rest fits.wide fits.within.1
body_again false v (body.Mark target) rest fits =
    made_again (reference v) body.Mark (any reference reference_grows v) target rest fits.wide
    fits.within.1
body_again false v (body.Give label r) rest fits =
    made_again (give v) give_of (any give give_grows v) (label, r) rest fits.wide fits.within.1
body_again false v (body.Put target place r) rest fits =
    made_again (put v) put_of (any put put_grows v) (target, (place, r)) rest fits.wide
    fits.within.1
body_again false v (body.Get target place label) rest fits =
    made_again (get v) get_of (any get get_grows v) (target, (place, label)) rest fits.wide
    fits.within.1
body_again false v body.Ended rest fits = refl
body_again false v body.Swept rest fits = refl
body_again false v (body.Post label rs bytes) rest fits = absurd (false≢true fits.within.0)
body_again false v (body.Fetch target label offset count) rest fits =
    absurd (false≢true fits.within.0)

-- what every space has, in a space of either kind
plain_found : (wide : Bool) (v : Version) → AreFound (body_format wide v) (plain_bodies v)
unfolding body_format give_at put_at get_at
plain_found wide v =
    let F = body_format wide v in
    found nothing F 1 (λ _. body.Begin) nothing_sound (λ _. refl) (λ _ w. w) (λ _ w. (tt, w))
    ⊕ found token F 2 body.Token token_sound (λ _. refl) (λ _ w. w) (λ _ w. (tt, w))
    ⊕ found (reference v) F 3 body.Mark (any reference reference_grows v) (λ _. refl)
    (λ _ w. w) (λ _ w. (tt, w))
    ⊕ found (give v) F 4 give_of (any give give_grows v) (λ _. refl) (λ _ w. w) (λ _ w. (tt, w))
    ⊕ found (put v) F 5 put_of (any put put_grows v) (λ _. refl) (λ _ w. w) (λ _ w. (tt, w))
    ⊕ found (get v) F 6 get_of (any get get_grows v) (λ _. refl) (λ _ w. w) (λ _ w. (tt, w))
    ⊕ found nothing F 7 (λ _. body.Ended) nothing_sound (λ _. refl) (λ _ w. w) (λ _ w. (tt, w))
    ⊕ found nothing F 8 (λ _. body.Swept) nothing_sound (λ _. refl) (λ _ w. w) (λ _ w. (tt, w))
    ⊕ tt

bodies_found : (wide : Bool) (v : Version) → AreFound (body_format wide v) (bodies wide v)
unfolding body_format post_at fetch_at
bodies_found true v =
    let F = body_format true v in
    let all = plain_found true v in
    all.0 ⊕ all.1.0 ⊕ all.1.1.0 ⊕ all.1.1.1.0 ⊕ all.1.1.1.1.0 ⊕ all.1.1.1.1.1.0
    ⊕ all.1.1.1.1.1.1.0 ⊕ all.1.1.1.1.1.1.1.0
    ⊕ found (post v) F 9 post_of (any post post_grows v) (λ _. refl) (λ _ w. w) (λ _ w. (refl, w))
    ⊕ found (fetch v) F 10 fetch_of (any fetch fetch_grows v) (λ _. refl) (λ _ w. w)
    (λ _ w. (refl, w))
    ⊕ tt
bodies_found false v = plain_found false v

pub body_sound : (wide : Bool) (v : Version) → IsSound (body_format wide v)
unfolding body_format
body_sound wide v = record {
  takes = tagged_takes (body_format wide v) (bodies wide v) (bodies_found wide v);
  again = body_again wide v;
}

said_later : (b : Body) → ((said First b).is_wide → (said Second b).is_wide)
    × ((said First b).is_within → (said Second b).is_within)
said_later (body.Mark target) = reference_grows.later target
said_later (body.Give label o) = give_grows.later (label, o)
said_later (body.Put target place o) = put_grows.later (target, (place, o))
said_later (body.Get target place label) = get_grows.later (target, (place, label))
said_later (body.Post label rs bytes) = post_grows.later (label, (rs, bytes))
said_later (body.Fetch target label offset count) =
    fetch_grows.later (target, (label, (offset, count)))
said_later b = (λ is. is, λ is. is)

body_later : (wide : Bool) (b : Body) → Later (body_format wide First) (body_format wide Second) b
unfolding body_format
body_later wide b = let later = said_later b in (later.0, λ is. (is.0, later.1 is.1))

pub body_grows : (wide : Bool) → Grows (body_format wide First) (body_format wide Second)
body_grows wide = record {
  first = body_sound wide First;
  second = body_sound wide Second;
  later = body_later wide;
}

-- ---- what follows a frame's first byte

pub head_sound : IsSound head
unfolding head
head_sound = byte_sound ⊗ byte_sound ⊗ number8_sound

pub sent_sound : IsSound sent
unfolding sent
sent_sound = kept_sound _ sent_fits (head_sound ⊗ number8_sound ⊗ body_sound true Second)

pub framed_sound : (plain : Bool) → IsSound (framed plain)
unfolding framed
framed_sound plain =
    kept_sound _ (is_framed plain)
    (head_sound ⊗ number8_sound ⊗ body_sound (not plain) Second)

pub known_sound : IsSound known
unfolding known
known_sound = kept_sound _ head_fits head_sound
