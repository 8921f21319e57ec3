-- Lines by the words that a reader reads one after another.
use Rattle.std.proofs.Common.{codes, ◌&&◌, ◌≡◌, ◌==◌, ◌∙◌, ℕ, Bool, true, false, cond, List, [], ◌∷◌, length, Option, Some, None, refl, sym, ap}
use Rattle.std.specs.Option.{option_and_then, option_map}
use Rattle.std.specs.Str.{bytes_eq}
use Rattle.ids.specs.declared.names.Ref.{Ref}
use Rattle.model.specs.declared.age.Scope.TheVariants as scope
use Rattle.model.specs.Steps.{lent}
use Rattle.script.specs.declared.line.Line.{Line}
use Rattle.script.specs.declared.line.Line.TheVariants as line
use Rattle.script.specs.Grammar.{bytes_of, fetch_of, letter_of, only_wide, patch_of, post_of, reclaim_of, reference_of, resolve_of, set_bytes_of, u16_of, u32_of, u8_of, wide_of, words_of}
use Rattle.script.specs.Readers.{Left, Reads, is_done}
use Rattle.script.specs.Words.{IsTrimmed}
use Rattle.script.proofs.Words.{words_none, words_split}

-- no word is left at the end of the text
pub empty_is_done : (text : List ℕ) (empty : Bool) → IsTrimmed text → (length text == 0) ≡ empty
    → empty ≡ is_done (Some (words_of text))
empty_is_done text true trimmed is = sym (ap (λ ws. is_done (Some ws)) (words_none text is))
empty_is_done text false trimmed is =
    sym (ap (λ ws. is_done (Some ws)) (words_split text trimmed is))

-- what words mean: the first one a value, which decides what the others mean; at last a value
data Form (X : Type 0) : Type 1 where
  ended : X → Form X
  taken : {A : Type 0} → (List ℕ → Option A) → (A → Form X) → Form X

meant : {X : Type 0} → Form X → Left → Option X
meant (ended x) left = cond (is_done left) (Some x) None
meant (taken meaning others) None = None
meant (taken meaning others) (Some []) = None
meant (taken meaning others) (Some (w ∷ ws)) =
    option_and_then (λ x. meant (others x) (Some ws)) (meaning w)

no_left : {X : Type 0} (form : Form X) → meant form None ≡ None
unfolding meant
no_left (ended x) = refl
no_left (taken meaning others) = refl

-- a value and the words behind it
abbrev next : {A : Type 0} → A → Left → Option (A × List (List ℕ))
next x left = option_and_then (λ words. Some (x, words)) left

module _ {A X : Type 0} (others : A → Form X) (x : A) where
  by_value : (words : List (List ℕ)) (value : Option A) (new : Left)
      → option_and_then (λ y. next y (Some words)) value ≡ next x new
      → option_and_then (λ y. meant (others y) (Some words)) value ≡ meant (others x) new
  by_value words None None is = sym (no_left (others x))
  by_value words None (Some new) is = absurd cc
  by_value words (Some y) None is = absurd cc
  by_value words (Some y) (Some new) is =
      ap (option_and_then (λ (z : A × List (List ℕ)). meant (others z.0) (Some z.1))) is

  no_value : (new : Left) → None ≡ next x new → None ≡ meant (others x) new
  no_value None is = sym (no_left (others x))
  no_value (Some new) is = absurd cc

-- what a reader reads is the value
reads : {A X : Type 0} {x : A} {meaning : List ℕ → Option A} {old new : Left} (others : A → Form X)
    → Reads meaning old new x → meant (taken meaning others) old ≡ meant (others x) new
unfolding meant
reads {x = x} {old = None} {new = new} others read = no_value others x new read.is
reads {x = x} {old = Some []} {new = new} others read = no_value others x new read.is
reads {x = x} {meaning = meaning} {old = Some (w ∷ ws)} {new = new} others read =
    by_value others x ws (meaning w) new read.is

done : {X : Type 0} (x : X) {right : Bool} (left : Left) → right ≡ is_done left
    → meant (ended x) left ≡ cond right (Some x) None
unfolding meant
done x left is = ap (λ b. cond b (Some x) None) (sym is)

-- no value, some value or the last one by those that a number may have
no : {A X : Type 0} (f : A → Option X) (o : Option A) → ((x : A) → f x ≡ None)
    → option_and_then f o ≡ None
no f None none = refl
no f (Some x) none = none x

each : {A X : Type 0} (f g : A → Option X) (o : Option A) → ((x : A) → f x ≡ g x)
    → option_and_then f o ≡ option_and_then g o
each f g None same = refl
each f g (Some x) same = same x

last : {A X : Type 0} (make : A → X) (o : Option A)
    → option_and_then (λ x. Some (make x)) o ≡ option_map make o
last make None = refl
last make (Some x) = refl

-- any word
abbrev pub any : List ℕ → Option (List ℕ)
any word = Some word

-- ---- `setbytes`

abbrev set_bytes_form : ℕ → Form Line
set_bytes_form node =
    taken u16_of (λ object. taken any (λ hex. ended (line.SetBytes node object (lent hex))))

set_bytes_is : (node : ℕ) (words : List (List ℕ))
    → meant (set_bytes_form node) (Some words) ≡ set_bytes_of node words
unfolding meant set_bytes_of
set_bytes_is node [] = refl
set_bytes_is node (a ∷ []) = no _ (u16_of a) (λ _. refl)
set_bytes_is node (a ∷ b ∷ []) = last _ (u16_of a)
set_bytes_is node (a ∷ b ∷ c ∷ words) = no _ (u16_of a) (λ _. refl)

pub set_bytes_read : (node : ℕ) {words : List (List ℕ)} {a b c : Left} {object : ℕ} {hex : List ℕ}
    {right : Bool}
    → a ≡ Some words → Reads u16_of a b object → Reads any b c hex → right ≡ is_done c
    → cond right (Some (line.SetBytes node object (lent hex))) None ≡ set_bytes_of node words
set_bytes_read node {words = words} all r1 r2 is =
    sym (sym (set_bytes_is node words) ∙ ap (meant (set_bytes_form node)) (sym all)
    ∙ reads _ r1 ∙ reads _ r2 ∙ done _ _ is)

-- ---- `patch`

abbrev patch_form : ℕ → Form Line
patch_form node =
    taken u16_of (λ object. taken u32_of (λ offset. taken any (λ hex. ended (line.Patch node object
    offset (lent hex)))))

patch_is : (node : ℕ) (words : List (List ℕ))
    → meant (patch_form node) (Some words) ≡ patch_of node words
unfolding meant patch_of
patch_is node [] = refl
patch_is node (a ∷ []) = no _ (u16_of a) (λ _. refl)
patch_is node (a ∷ b ∷ []) = no _ (u16_of a) (λ _. no _ (u32_of b) (λ _. refl))
patch_is node (a ∷ b ∷ c ∷ []) = each _ _ (u16_of a) (λ _. last _ (u32_of b))
patch_is node (a ∷ b ∷ c ∷ d ∷ words) = no _ (u16_of a) (λ _. no _ (u32_of b) (λ _. refl))

pub patch_read : (node : ℕ) {words : List (List ℕ)} {a b c d : Left} {object offset : ℕ}
    {hex : List ℕ} {right : Bool}
    → a ≡ Some words → Reads u16_of a b object → Reads u32_of b c offset → Reads any c d hex
    → right ≡ is_done d
    → cond right (Some (line.Patch node object offset (lent hex))) None ≡ patch_of node words
patch_read node {words = words} all r1 r2 r3 is =
    sym (sym (patch_is node words) ∙ ap (meant (patch_form node)) (sym all)
    ∙ reads _ r1 ∙ reads _ r2 ∙ reads _ r3 ∙ done _ _ is)

-- ---- `bytes`

abbrev bytes_form : ℕ → Form Line
bytes_form node =
    taken u16_of (λ object. taken u32_of (λ offset. taken u32_of (λ count. ended (line.Bytes node
    object offset count))))

bytes_is : (node : ℕ) (words : List (List ℕ))
    → meant (bytes_form node) (Some words) ≡ bytes_of node words
unfolding meant bytes_of
bytes_is node [] = refl
bytes_is node (a ∷ []) = no _ (u16_of a) (λ _. refl)
bytes_is node (a ∷ b ∷ []) = no _ (u16_of a) (λ _. no _ (u32_of b) (λ _. refl))
bytes_is node (a ∷ b ∷ c ∷ []) =
    each _ _ (u16_of a) (λ _. each _ _ (u32_of b) (λ _. last _ (u32_of c)))
bytes_is node (a ∷ b ∷ c ∷ d ∷ words) =
    no _ (u16_of a) (λ _. no _ (u32_of b) (λ _. no _ (u32_of c) (λ _. refl)))

pub bytes_read : (node : ℕ) {words : List (List ℕ)} {a b c d : Left} {object offset count : ℕ}
    {right : Bool}
    → a ≡ Some words → Reads u16_of a b object → Reads u32_of b c offset → Reads u32_of c d count
    → right ≡ is_done d
    → cond right (Some (line.Bytes node object offset count)) None ≡ bytes_of node words
bytes_read node {words = words} all r1 r2 r3 is =
    sym (sym (bytes_is node words) ∙ ap (meant (bytes_form node)) (sym all)
    ∙ reads _ r1 ∙ reads _ r2 ∙ reads _ r3 ∙ done _ _ is)

-- ---- `post`

abbrev post_form : ℕ → Form Line
post_form node =
    taken u8_of (λ to. taken u32_of (λ label. taken u16_of (λ first. taken u8_of (λ count. taken any
    (λ hex. ended (line.Post node to label first count (lent hex)))))))

post_is : (node : ℕ) (words : List (List ℕ))
    → meant (post_form node) (Some words) ≡ post_of node words
unfolding meant post_of
post_is node [] = refl
post_is node (a ∷ []) = no _ (u8_of a) (λ _. refl)
post_is node (a ∷ b ∷ []) = no _ (u8_of a) (λ _. no _ (u32_of b) (λ _. refl))
post_is node (a ∷ b ∷ c ∷ []) =
    no _ (u8_of a) (λ _. no _ (u32_of b) (λ _. no _ (u16_of c) (λ _. refl)))
post_is node (a ∷ b ∷ c ∷ d ∷ []) =
    no _ (u8_of a) (λ _. no _ (u32_of b) (λ _. no _ (u16_of c) (λ _. no _ (u8_of d) (λ _. refl))))
post_is node (a ∷ b ∷ c ∷ d ∷ e ∷ []) =
    each _ _ (u8_of a) (λ _. each _ _ (u32_of b) (λ _. each _ _ (u16_of c) (λ _. last _ (u8_of d))))
post_is node (a ∷ b ∷ c ∷ d ∷ e ∷ f ∷ words) =
    no _ (u8_of a) (λ _. no _ (u32_of b) (λ _. no _ (u16_of c) (λ _. no _ (u8_of d) (λ _. refl))))

pub post_read : (node : ℕ) {words : List (List ℕ)} {a b c d e f : Left} {to label first count : ℕ}
    {hex : List ℕ} {right : Bool}
    → a ≡ Some words → Reads u8_of a b to → Reads u32_of b c label → Reads u16_of c d first
    → Reads u8_of d e count → Reads any e f hex → right ≡ is_done f
    → cond right (Some (line.Post node to label first count (lent hex))) None ≡ post_of node words
post_read node {words = words} all r1 r2 r3 r4 r5 is =
    sym (sym (post_is node words) ∙ ap (meant (post_form node)) (sym all)
    ∙ reads _ r1 ∙ reads _ r2 ∙ reads _ r3 ∙ reads _ r4 ∙ reads _ r5 ∙ done _ _ is)

-- ---- `fetch`

abbrev fetch_form : ℕ → Form Line
fetch_form node =
    taken u16_of (λ object. taken u32_of (λ label. taken u32_of (λ offset. taken u32_of (λ count.
    ended (line.Fetch node object label offset count)))))

fetch_is : (node : ℕ) (words : List (List ℕ))
    → meant (fetch_form node) (Some words) ≡ fetch_of node words
unfolding meant fetch_of
fetch_is node [] = refl
fetch_is node (a ∷ []) = no _ (u16_of a) (λ _. refl)
fetch_is node (a ∷ b ∷ []) = no _ (u16_of a) (λ _. no _ (u32_of b) (λ _. refl))
fetch_is node (a ∷ b ∷ c ∷ []) =
    no _ (u16_of a) (λ _. no _ (u32_of b) (λ _. no _ (u32_of c) (λ _. refl)))
fetch_is node (a ∷ b ∷ c ∷ d ∷ []) =
    each _ _ (u16_of a) (λ _. each _ _ (u32_of b) (λ _. each _ _ (u32_of c) (λ _. last _ (u32_of
    d))))
fetch_is node (a ∷ b ∷ c ∷ d ∷ e ∷ words) =
    no _ (u16_of a) (λ _. no _ (u32_of b) (λ _. no _ (u32_of c) (λ _. no _ (u32_of d) (λ _. refl))))

pub fetch_read : (node : ℕ) {words : List (List ℕ)} {a b c d e : Left}
    {object label offset count : ℕ} {right : Bool}
    → a ≡ Some words → Reads u16_of a b object → Reads u32_of b c label → Reads u32_of c d offset
    → Reads u32_of d e count → right ≡ is_done e
    → cond right (Some (line.Fetch node object label offset count)) None ≡ fetch_of node words
fetch_read node {words = words} all r1 r2 r3 r4 is =
    sym (sym (fetch_is node words) ∙ ap (meant (fetch_form node)) (sym all)
    ∙ reads _ r1 ∙ reads _ r2 ∙ reads _ r3 ∙ reads _ r4 ∙ done _ _ is)

-- ---- `resolve`

abbrev resolve_form : ℕ → Form Line
resolve_form node =
    taken u16_of (λ register. taken reference_of (λ reference. ended (line.Resolve node register
    reference)))

resolve_is : (node : ℕ) (words : List (List ℕ))
    → meant (resolve_form node) (Some words) ≡ resolve_of node words
unfolding meant resolve_of
resolve_is node [] = refl
resolve_is node (a ∷ []) = no _ (u16_of a) (λ _. refl)
resolve_is node (a ∷ b ∷ []) = each _ _ (u16_of a) (λ _. last _ (reference_of b))
resolve_is node (a ∷ b ∷ c ∷ words) = no _ (u16_of a) (λ _. no _ (reference_of b) (λ _. refl))

pub resolve_read : (node : ℕ) {words : List (List ℕ)} {a b c : Left} {register : ℕ}
    {reference : Ref} {right : Bool}
    → a ≡ Some words → Reads u16_of a b register → Reads reference_of b c reference
    → right ≡ is_done c
    → cond right (Some (line.Resolve node register reference)) None ≡ resolve_of node words
resolve_read node {words = words} all r1 r2 is =
    sym (sym (resolve_is node words) ∙ ap (meant (resolve_form node)) (sym all)
    ∙ reads _ r1 ∙ reads _ r2 ∙ done _ _ is)

-- ---- `wide`

abbrev wide_form : Form Line
wide_form =
    taken u8_of (λ nodes. taken u16_of (λ registers. taken u32_of (λ slots. taken u8_of (λ places.
    taken u32_of (λ bytes. ended (line.Wide nodes registers slots places bytes))))))

wide_is : (words : List (List ℕ))
    → meant wide_form (Some words) ≡ wide_of words
unfolding meant wide_of
wide_is [] = refl
wide_is (a ∷ []) = no _ (u8_of a) (λ _. refl)
wide_is (a ∷ b ∷ []) = no _ (u8_of a) (λ _. no _ (u16_of b) (λ _. refl))
wide_is (a ∷ b ∷ c ∷ []) = no _ (u8_of a) (λ _. no _ (u16_of b) (λ _. no _ (u32_of c) (λ _. refl)))
wide_is (a ∷ b ∷ c ∷ d ∷ []) =
    no _ (u8_of a) (λ _. no _ (u16_of b) (λ _. no _ (u32_of c) (λ _. no _ (u8_of d) (λ _. refl))))
wide_is (a ∷ b ∷ c ∷ d ∷ e ∷ []) =
    each _ _ (u8_of a) (λ _. each _ _ (u16_of b) (λ _. each _ _ (u32_of c) (λ _. each _ _ (u8_of d)
    (λ _. last _ (u32_of e)))))
wide_is (a ∷ b ∷ c ∷ d ∷ e ∷ f ∷ words) =
    no _ (u8_of a) (λ _. no _ (u16_of b) (λ _. no _ (u32_of c) (λ _. no _ (u8_of d) (λ _. no _
    (u32_of e) (λ _. refl)))))

pub wide_read : {words : List (List ℕ)} {a b c d e f : Left}
    {nodes registers slots places bytes : ℕ} {right : Bool}
    → a ≡ Some words → Reads u8_of a b nodes → Reads u16_of b c registers → Reads u32_of c d slots
    → Reads u8_of d e places → Reads u32_of e f bytes → right ≡ is_done f
    → cond right (Some (line.Wide nodes registers slots places bytes)) None ≡ wide_of words
wide_read {words = words} all r1 r2 r3 r4 r5 is =
    sym (sym (wide_is words) ∙ ap (meant wide_form) (sym all)
    ∙ reads _ r1 ∙ reads _ r2 ∙ reads _ r3 ∙ reads _ r4 ∙ reads _ r5 ∙ done _ _ is)

-- ---- `letter`

pub letter_read : (node : ℕ) (text : List ℕ) (right : Bool) → IsTrimmed text
    → right ≡ (length text == 0)
    → cond right (Some (line.Letter node)) None ≡ letter_of node (words_of text)
unfolding letter_of
letter_read node text true trimmed is = sym (ap (letter_of node) (words_none text (sym is)))
letter_read node text false trimmed is =
    sym (ap (letter_of node) (words_split text trimmed (sym is)))

-- ---- `reclaim`

-- freeing young objects, if this is asked for
abbrev pub young : ℕ → Bool → Option Line
young node named = cond named (Some (line.Reclaim node scope.Young)) None

pub reclaim_read : (node : ℕ) (word rest : List ℕ) {words : List (List ℕ)} → IsTrimmed rest
    → words ≡ word ∷ words_of rest
    → young node (bytes_eq word (codes "young") && (length rest == 0)) ≡ reclaim_of node words
unfolding reclaim_of
reclaim_read node word rest {words = words} trimmed is =
    by (bytes_eq word (codes "young")) (length rest == 0) refl refl
  where
    others : (ws : List (List ℕ)) → words_of rest ≡ ws
        → reclaim_of node (word ∷ ws) ≡ reclaim_of node words
    others ws same = sym (ap (reclaim_of node) (is ∙ ap (λ ws. word ∷ ws) same))

    by : (named last : Bool) → bytes_eq word (codes "young") ≡ named → (length rest == 0) ≡ last
        → young node (named && last) ≡ reclaim_of node words
    by true true same empty =
        sym (ap (young node) same) ∙ others [] (words_none rest empty)
    by false true same empty =
        sym (ap (young node) same) ∙ others [] (words_none rest empty)
    by true false same some = others _ (words_split rest trimmed some)
    by false false same some = others _ (words_split rest trimmed some)

-- ---- by the verb

pub by_verb : (node : ℕ) {verb name : List ℕ} {words rest : List (List ℕ)} {meaning : Option Line}
    → meaning ≡ only_wide node (name ∷ rest) → words ≡ verb ∷ rest → verb ≡ name
    → meaning ≡ only_wide node words
by_verb node {rest = rest} same is named =
    same ∙ sym (ap (only_wide node) (is ∙ ap (λ v. v ∷ rest) named))
