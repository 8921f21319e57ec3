-- What is read behind the first byte of a frame, to its end.
use Rattle.std.proofs.Common.{◌≡◌, ℕ, Bool, true, false, not, List, [], ◌∷◌, Option, Some, None}
use Rattle.std.proofs.Common.{Result, Ok, Err, refl, sym, ap, subst, ◌∙◌}
use Rattle.std.specs.Prelude.{IfOk, IfErr}
use Rattle.std.specs.Option.{option_map}
use Rattle.std.specs.Result.{result_ok}
use Rattle.std.proofs.lemmas.Bool.{false≢true}
use Rattle.codec.specs.Formats as codec
use Rattle.codec.specs.Formats.{Format, Behind, ◌&◌, ◌>>=◌, byte, byte_at, number8, behind, tagged, tagged_at, whole_at}
use Rattle.codec.specs.declared.reader.Reader.{Reader}
use Rattle.codec.specs.Readers.{left, is_whole, whole_of, with_rest, Reads, Takes}
use Rattle.codec.proofs.Readers.{all_read, not_all_read, let_through, made_of, tested}
use Rattle.msg.specs.Frames.{Plain, plain}
use Rattle.msg.specs.Frames as msg
use Rattle.msg.specs.declared.frame.Frame.{Frame}
use Rattle.ids.specs.declared.refusal.Refusal.{Refusal}
use Rattle.ids.specs.declared.refusal.Refusal.TheVariants.{Memory, BadFrame}
use Rattle.frames.specs.declared.version.Version.TheVariants.{Second}
use Rattle.frames.specs.Formats.{Head, Sent, head, framed, is_framed, post, post_at, bodies, body_tag}
use Rattle.frames.specs.Formats.{body_format}
use Rattle.frames.specs.Grammar.{data_at, frame, frames, is_letter}
use Rattle.frames.specs.Decoding.{Decodes, message_of}
use Rattle.frames.proofs.Formats.{Posted, post_of}
use Rattle.frames.proofs.Frames.{data_of}
use Rattle.frames.proofs.Written.{parts}

-- ---- to the end

module _ {A : Type 0} (read : codec.Reader A) (a b : Reader) (o : Option A)
    (took : Takes read a b o) where
  pub left_read : is_whole b ≡ true → (left a >>= whole_at read) ≡ o
  left_read whole = by (left a) refl where
    none : (o : Option A) (q : Option (List ℕ)) → None ≡ (o >>= λ x. with_rest x q)
        → whole_of q ≡ true → None ≡ o
    none None q e h = refl
    none (Some x) None e h = absurd (false≢true h)
    none (Some x) (Some r) e h = absurd cc

    by : (p : Option (List ℕ)) → left a ≡ p → (p >>= whole_at read) ≡ o
    by None is = none o (left b) (rw is at took.is) whole
    by (Some bytes) is = all_read read bytes a b o is took whole

  pub left_over : is_whole b ≡ false → (left a >>= whole_at read) ≡ None
  left_over whole = by (left a) refl where
    by : (p : Option (List ℕ)) → left a ≡ p → (p >>= whole_at read) ≡ None
    by None is = refl
    by (Some bytes) is = not_all_read read bytes a b o is took whole

pub ruleset left_taken = (left_read, left_over)

-- ---- a message for which plain spaces have room or not

module _ (plain : Bool) {a b : Reader} {x : Sent}
    (took : Reads (head & number8 & body_format (not plain) Second) a b x) where
  message_taken : is_framed plain x ≡ true → Takes (data_at plain) a b (Some (data_of x))
  unfolding data_at framed
  message_taken is = made_of data_of (let_through (is_framed plain) took is) refl

  message_left : is_framed plain x ≡ false → Takes (data_at plain) a b None
  unfolding data_at framed
  message_left is =
      tested (is_framed plain) took data_of msg.plain None
      (λ h. absurd (false≢true h), λ t. sym is ∙ t) tt

  pub message_whole : is_whole b ≡ true → is_framed plain x ≡ true
      → message_of plain a ≡ Some (data_of x)
  message_whole whole is =
      left_read (data_at plain) a b (Some (data_of x)) (message_taken is) whole

  pub message_unfit : is_framed plain x ≡ false → message_of plain a ≡ None
  message_unfit is = by (is_whole b) refl where
    by : (w : Bool) → is_whole b ≡ w → message_of plain a ≡ None
    by true whole = left_read (data_at plain) a b None (message_left is) whole
    by false whole = left_over (data_at plain) a b None (message_left is) whole

  pub message_over : is_whole b ≡ false → message_of plain a ≡ None
  message_over whole = by (is_framed plain x) refl where
    by : (t : Bool) → is_framed plain x ≡ t → message_of plain a ≡ None
    by true is = left_over (data_at plain) a b (Some (data_of x)) (message_taken is) whole
    by false is = left_over (data_at plain) a b None (message_left is) whole

  -- what is returned
  pub over_decodes : is_whole b ≡ false → Decodes (Err BadFrame) (message_of plain a)
  over_decodes whole = subst (Decodes (Err BadFrame)) (sym (message_over whole)) refl

  pub unfit_decodes : is_framed plain x ≡ false → Decodes (Err BadFrame) (message_of plain a)
  unfit_decodes is = subst (Decodes (Err BadFrame)) (sym (message_unfit is)) refl

  pub message_decodes : (r : Result Frame Refusal) → is_whole b ≡ true
      → IfOk r (λ f. msg.plain f ≡ data_of x) → IfOk r (λ f. is_framed plain x ≡ true)
      → IfErr r (λ e. (e ≡ BadFrame) × (is_framed plain x ≡ false))
      → Decodes r (message_of plain a)
  message_decodes (Ok f) whole made fits refused =
      message_whole whole fits ∙ ap Some (sym made)
  message_decodes (Err e) whole made fits refused =
      subst (Decodes (Err e)) (sym (message_unfit refused.1)) refused.0

-- ---- behind a tag

module _ {A B C : Type 0} (F : Format A) (G : Format B) (spell : C → Behind)
    (choices : List (ℕ × codec.Reader C)) where
  abbrev with_y : {D : Type 0} → B → D × List ℕ → Option ((B × D) × List ℕ)
  with_y y w = Some ((y, w.0), w.1)

  abbrev with_x : {D : Type 0} → A → D × List ℕ → Option ((A × D) × List ℕ)
  with_x x w = Some ((x, w.0), w.1)

  abbrev with_both : A → B → C × List ℕ → Option ((A × (B × C)) × List ℕ)
  with_both x y w = Some ((x, (y, w.0)), w.1)

  regrouped : (o : Option (C × List ℕ)) (x : A) (y : B)
      → ((o >>= with_y y) >>= with_x x) ≡ (o >>= with_both x y)
  regrouped None x y = refl
  regrouped (Some w) x y = refl

  abbrev next : (A × (B × ℕ)) × List ℕ → Option ((A × (B × C)) × List ℕ)
  next z = behind choices z.0.1.1 z.1 >>= with_both z.0.0 z.0.1.0

  third : (x : A) (y : B) (bytes : List ℕ)
      → ((tagged_at choices bytes >>= with_y y) >>= with_x x)
      ≡ (((byte_at bytes >>= with_y y) >>= with_x x) >>= next)
  third x y [] = refl
  third x y (t ∷ rest) = regrouped (behind choices t rest) x y

  second : (x : A) (o : Option (B × List ℕ))
      → ((o >>= λ y. tagged_at choices y.1 >>= with_y y.0) >>= with_x x)
      ≡ (((o >>= λ y. byte_at y.1 >>= with_y y.0) >>= with_x x) >>= next)
  second x None = refl
  second x (Some y) = third x y.0 y.1

  first : (o : Option (A × List ℕ))
      → (o >>= λ x. (G & tagged spell choices).read x.1 >>= with_x x.0)
      ≡ ((o >>= λ x. (G & byte).read x.1 >>= with_x x.0) >>= next)
  first None = refl
  first (Some x) = second x.0 (G.read x.1)

  same_read : (o : Option (List ℕ))
      → (o >>= (F & G & tagged spell choices).read) ≡ ((o >>= (F & G & byte).read) >>= next)
  same_read None = refl
  same_read (Some bytes) = first (F.read bytes)

  last : (p q : Option (List ℕ)) (x : A) (y : B) (t : ℕ) (z : C)
      → (p >>= behind choices t) ≡ with_rest z q
      → (with_rest (x, (y, t)) p >>= next) ≡ with_rest (x, (y, z)) q
  last None None x y t z e = refl
  last None (Some r) x y t z e = absurd cc
  last (Some s) None x y t z e = rw e refl
  last (Some s) (Some r) x y t z e = rw e refl

  -- two values and a tag were read, and then what follows the tag
  pub tag_behind : {a b c : Reader} {x : A} {y : B} {t : ℕ} {z : C}
      → Reads (F & G & byte) a b (x, (y, t)) → Takes (behind choices t) b c (Some z)
      → Reads (F & G & tagged spell choices) a c (x, (y, z))
  tag_behind {a = a} {b = b} {c = c} {x = x} {y = y} {t = t} {z = z} one two = record {
    is = same_read (left a) ∙ ap (λ o. o >>= next) one.is
        ∙ last (left b) (left c) x y t z two.is;
  }

-- a letter, if its tag and the parts before it were read
pub letter_parts : {a b c : Reader} {front : Head} {stamp : ℕ} {x : Posted}
    → Reads (head & number8 & byte) a b (front, (stamp, 9)) → Reads (post Second) b c x
    → Reads parts a c (front, (stamp, post_of x))
unfolding body_format post_at
letter_parts one two =
    tag_behind head number8 (body_tag true Second) (bodies true Second) one
    (made_of post_of two refl)

-- ---- what is returned

pub lacking_decodes : {a b : Reader} {x : Sent} {e : Refusal} → Reads parts a b x
    → is_whole b ≡ true → is_framed false x ≡ true → is_letter (data_of x) ≡ true → e ≡ Memory
    → Decodes (Err e) (message_of false a)
lacking_decodes {e = e} took whole fits letter lacks =
    subst (Decodes (Err e)) (sym (message_whole false took whole fits)) (lacks, letter)

-- a first byte, and what is behind it
pub first_whole : {a b : Reader} {t : ℕ} (read : codec.Reader Plain) (bytes : List ℕ)
    → left a ≡ Some bytes → Reads byte a b t
    → ((rest : List ℕ) → behind frames t rest ≡ read rest)
    → (left b >>= whole_at read) ≡ whole_at frame.read bytes
unfolding frame whole_at
first_whole {b = b} {t = t} read bytes all took same = by (left b) (rw all at took.is) where
  by : (q : Option (List ℕ)) → byte_at bytes ≡ with_rest t q
      → (q >>= whole_at read) ≡ whole_at frame.read bytes
  by None e = rw e refl
  by (Some rest) e = rw (e, same rest) refl

-- a byte that begins no frame
pub first_unknown : {a b : Reader} {t : ℕ} (bytes : List ℕ) → left a ≡ Some bytes
    → Reads byte a b t → ((rest : List ℕ) → behind frames t rest ≡ None)
    → whole_at frame.read bytes ≡ None
unfolding whole_at
first_unknown {b = b} bytes all took none =
    sym (first_whole (λ rest. None) bytes all took none) ∙ by (left b)
  where
    by : (q : Option (List ℕ)) → (q >>= whole_at {A = Plain} (λ rest. None)) ≡ None
    by None = refl
    by (Some rest) = refl

pub plain_decodes : (r : Result Frame Refusal) (o : Option Plain)
    → o ≡ option_map plain (result_ok r) → IfErr r (λ e. e ≡ BadFrame) → Decodes r o
plain_decodes (Ok f) o is refused = is
plain_decodes (Err e) o is refused = subst (Decodes (Err e)) (sym is) refused
