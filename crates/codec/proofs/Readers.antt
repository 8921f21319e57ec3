-- What is read one part after another.
use Rattle.std.proofs.Common.{◌≡◌, ℕ, suc, ◌≤◌, Bool, true, false, ltb, List, [], ◌∷◌, ◌++◌, length}
use Rattle.std.proofs.Common.{take, drop, Option, Some, None, refl, sym, ap, ◌∙◌, append_assoc, arith}
use Rattle.std.specs.Prelude.{⊤, IsSome, IfSome, IsTrue, ◌↔◌, if◌then◌else◌}
use Rattle.std.specs.Option.{option_map}
use Rattle.std.proofs.lemmas.Bool.{le-ltb, false≢true}
use Rattle.std.proofs.lemmas.List.{append-nil}
use Rattle.byteorder.specs.Endian.{big_number}
use Rattle.byteorder.specs.Numbers.{big_from-take}
use Rattle.codec.specs.declared.reader.Reader.{Reader}
use Rattle.codec.specs.Formats as codec
use Rattle.codec.specs.Formats.{Format, Behind, ◌>>=◌, byte, nothing, number_at, mapped, made_at}
use Rattle.codec.specs.Formats.{joined, ◌&◌, kept, behind, tagged_at, tagged, each_at, many_at, many}
use Rattle.codec.specs.Formats.{counted, whole_at}
use Rattle.codec.specs.Readers.{left, with_rest, is_open, open_of, is_whole, whole_of, Takes, Reads}
use Rattle.codec.specs.Readers.{enough, passing}

pub number_taken : {old new : Reader} {bytes first rest : List ℕ} (n : ℕ) → left old ≡ Some bytes
    → left new ≡ Some rest → n ≤ length bytes → first ≡ take n bytes → rest ≡ drop n bytes
    → Takes (number_at n) old new (Some (big_number n first))
number_taken {bytes = bytes} n old_is new_is there is_first is_rest =
    let long : ltb (length bytes) n ≡ false = le-ltb _ _ there in
    record {
      is = rw (old_is, new_is, long, is_first, is_rest, big_from-take 0 n n bytes (omega arith))
          refl;
    }

-- what comes after a value
after : {A B : Type 0} (read : codec.Reader A) (next : A × List ℕ → Option B) (x : A)
    (o p : Option (List ℕ)) → (o >>= read) ≡ with_rest x p
    → (o >>= λ bytes. read bytes >>= next) ≡ (p >>= λ rest. next (x, rest))
after read next x None None e = refl
after read next x None (Some p) e = absurd cc
after read next x (Some o) None e = rw e refl
after read next x (Some o) (Some p) e = rw e refl

none_after : {A B : Type 0} (read : codec.Reader A) (next : A × List ℕ → Option B)
    (o : Option (List ℕ)) → (o >>= read) ≡ None → (o >>= λ bytes. read bytes >>= next) ≡ None
none_after read next None e = refl
none_after read next (Some o) e = rw e refl

none : {A : Type 0} (read : codec.Reader A) → ((bytes : List ℕ) → read bytes ≡ None)
    → (o : Option (List ℕ)) → (o >>= read) ≡ None
none read never None = refl
none read never (Some bytes) = never bytes

module _ {A B : Type 0} where
  pub joined_read : {F : Format A} (G : A → Format B) {a b c : Reader} {x : A} {y : B}
      → Reads F a b x → Reads (G x) b c y → Reads (joined F G) a c (x, y)
  joined_read {F = F} G {a = a} {b = b} {c = c} {x = x} {y = y} first second = record {
    is = after F.read (λ z. (G z.0).read z.1 >>= λ u. Some ((z.0, u.0), u.1)) x (left a) (left b)
        first.is
        ∙ after (G x).read (λ u. Some ((x, u.0), u.1)) y (left b) (left c) second.is;
  }

  pub both_read : {F : Format A} {G : Format B} {a b c : Reader} {x : A} {y : B} → Reads F a b x
      → Reads G b c y → Reads (F & G) a c (x, y)
  both_read {G = G} first second = joined_read (λ _. G) first second

  -- what is made of a value
  pub made_of : {F : Format A} (make : A → B) {a b : Reader} {x : A} {y : B} → Reads F a b x
      → make x ≡ y → Takes (made_at F make) a b (Some y)
  made_of {F = F} make {a = a} {b = b} {x = x} took same = record {
    is = rw (← same) (after F.read (λ z. Some (make z.0, z.1)) x (left a) (left b) took.is);
  }

  pub made : {F : Format A} (make : A → B) (parts : B → A) {a b : Reader} {x : A} {y : B}
      → Reads F a b x → make x ≡ y → Reads (mapped F make parts) a b y
  made make parts took same = record { is = (made_of make took same).is }

-- ---- tests

module _ {A : Type 0} {F : Format A} (test : A → Bool) {a b : Reader} {x : A}
    (took : Reads F a b x) where
  abbrev keep : A × List ℕ → Option (A × List ℕ)
  keep z = if test z.0 then Some z else None

  tried : (left a >>= (kept F test).read) ≡ (left b >>= λ rest. keep (x, rest))
  tried = after F.read keep x (left a) (left b) took.is

  kept_none : test x ≡ false → (left a >>= (kept F test).read) ≡ None
  kept_none is = tried ∙ none (λ rest. keep (x, rest)) (λ rest. rw is refl) (left b)

  pub let_through : test x ≡ true → Reads (kept F test) a b x
  let_through is = record { is = tried ∙ by (left b) } where
    by : (p : Option (List ℕ)) → (p >>= λ rest. keep (x, rest)) ≡ with_rest x p
    by None = refl
    by (Some rest) = rw is refl

  pub turned_away : (c : Reader) (y : A) → test x ≡ false → left c ≡ None
      → Reads (kept F test) a c y
  turned_away c y is failed = record { is = rw failed (kept_none is) }

  pub passed : {c : Reader} → Takes (passing (test x)) b c (Some tt) → Reads (kept F test) a c x
  passed {c = c} passes = record { is = tried ∙ by (test x) (left b) passes.is } where
    by : (t : Bool) (p : Option (List ℕ)) → (p >>= passing t) ≡ with_rest tt (left c)
        → (p >>= λ rest. if t then Some (x, rest) else None) ≡ with_rest x (left c)
    by true p e = after (passing true) (λ u. Some (x, u.1)) tt p (left c) e
    by false p e = after (passing false) (λ u. Some (x, u.1)) tt p (left c) e

  -- what is made of a value that passes
  pub tested : {B C : Type 0} (make : A → B) (view : C → B) (o : Option C)
      → IsSome o ↔ IsTrue (test x) → IfSome o (λ c. view c ≡ make x)
      → Takes (made_at (kept F test) make) a b (option_map view o)
  tested {C = C} make view o iff value = by o (test x) refl iff value where
    by : (o : Option C) (t : Bool) → test x ≡ t → IsSome o ↔ IsTrue t
        → IfSome o (λ c. view c ≡ make x)
        → Takes (made_at (kept F test) make) a b (option_map view o)
    by (Some c) true is iff value = made_of make (let_through is) (sym value)
    by (Some c) false is iff value = absurd (false≢true (iff.0 refl))
    by None true is iff value = absurd (false≢true (iff.1 refl))
    by None false is iff value = record {
      is = none_after (kept F test).read (λ z. Some (make z.0, z.1)) (left a) (kept_none is);
    }

pub ruleset tests = (let_through, turned_away)

-- ---- one of several

module _ {A : Type 0} where
  -- a tag, and what follows it
  pub behind_tag : (choices : List (ℕ × codec.Reader A)) {a b c : Reader} {t : ℕ} {o : Option A}
      → Reads byte a b t → Takes (behind choices t) b c o → Takes (tagged_at choices) a c o
  behind_tag choices {a = a} {b = b} {t = t} took others = record {
    is = after byte.read (λ z. behind choices z.0 z.1) t (left a) (left b) took.is ∙ others.is;
  }

  pub of_tag : (spell : A → Behind) (choices : List (ℕ × codec.Reader A)) {a b c : Reader} {t : ℕ}
      {x : A} → Reads byte a b t → Takes (behind choices t) b c (Some x)
      → Reads (tagged spell choices) a c x
  of_tag spell choices took others = record { is = (behind_tag choices took others).is }

  -- nothing after the tag
  pub alone : (make : ⊤ → A) (a : Reader) {x : A} → make tt ≡ x
      → Takes (made_at nothing make) a a (Some x)
  alone make a same = record { is = rw (← same) refl }

  -- none of the tags
  pub no_value : (read : codec.Reader A) (b c : Reader) → ((bytes : List ℕ) → read bytes ≡ None)
      → Takes read b c None
  no_value read b c never = record { is = none read never (left b) }

  pub unknown : (read : codec.Reader A) (b c : Reader) {x : A}
      → ((bytes : List ℕ) → read bytes ≡ None) → left c ≡ None → Takes read b c (Some x)
  unknown read b c never failed = record { is = rw failed (none read never (left b)) }

pub ruleset tags = (of_tag, behind_tag, alone, unknown, no_value, made_of)

-- ---- lists

-- how many there are, and each of them
pub counted_read : {A : Type 0} {count : Format ℕ} (F : Format A) {a b c : Reader} {n : ℕ}
    {xs : List A} → Reads count a b n → Reads (many F n) b c xs → Reads (counted count F) a c xs
counted_read F first others =
    made (λ x. x.1) (λ xs. (length xs, xs)) (joined_read (many F) first others) refl

-- values, and those of a list after them
abbrev pub with_front : {A : Type 0} → List A → Option (List A × List ℕ)
    → Option (List A × List ℕ)
with_front front read = read >>= λ x. Some (front ++ x.0, x.1)

-- the first of n values were read, and `others` more are still to come
pub record ReadsFirst {A : Type 0} (F : Format A) (old new : Reader) (xs : List A) (others : ℕ)
    (n : ℕ) : Type 0 where
  pub is : with_front xs (left new >>= each_at F.read others) ≡ (left old >>= each_at F.read n)

module _ {A : Type 0} (F : Format A) where
  each_of : (n : ℕ) (a b : Reader) → Takes (enough n) a b (Some tt)
      → (left a >>= (many F n).read) ≡ (left b >>= each_at F.read n)
  unfolding many_at
  each_of n a b there =
      by (left a) ∙ after (enough n) (λ u. each_at F.read n u.1) tt (left a) (left b) there.is where
        one : (bytes : List ℕ) (t : Bool) → ltb (length bytes) n ≡ t
            → many_at F.read n bytes ≡ (enough n bytes >>= λ u. each_at F.read n u.1)
        one bytes true is = rw is refl
        one bytes false is = rw is refl

        by : (o : Option (List ℕ))
            → (o >>= (many F n).read)
            ≡ (o >>= λ bytes. enough n bytes >>= λ u. each_at F.read n u.1)
        by None = refl
        by (Some bytes) = one bytes (ltb (length bytes) n) refl

  -- there aren't that many bytes
  pub too_many : (n : ℕ) (a b : Reader) → Takes (enough n) a b (Some tt) → is_open b ≡ false
      → Reads (many F n) a b []
  too_many n a b there closed = record { is = each_of n a b there ∙ by (left b) closed } where
    by : (p : Option (List ℕ)) → open_of p ≡ false → (p >>= each_at F.read n) ≡ with_rest [] p
    by None h = refl
    by (Some rest) h = absurd cc

  pub none_yet : (a : Reader) (n k : ℕ) → k ≡ n → ReadsFirst F a a [] k n
  none_yet a n k same = record { is = rw same (by (left a >>= each_at F.read n)) } where
    by : (o : Option (List A × List ℕ)) → with_front [] o ≡ o
    by None = refl
    by (Some x) = refl

  pub one_more : {n : ℕ} {a b c : Reader} {xs : List A} {x : A} (k l : ℕ) → ReadsFirst F a b xs k n
      → k ≡ suc l → Reads F b c x → ReadsFirst F a c (xs ++ x ∷ []) l n
  one_more {b = b} {c} {xs} {x} k l before one took =
      let step = after F.read (λ z. each_at F.read l z.1 >>= λ u. Some (z.0 ∷ u.0, u.1)) x
      (left b) (left c) took.is in
      record { is = sym (ap (with_front xs) step ∙ by (left c)) ∙ (rw one at before.is) } where
        regroup : (read : Option (List A × List ℕ))
            → with_front xs (read >>= λ u. Some (x ∷ u.0, u.1)) ≡ with_front (xs ++ x ∷ []) read
        regroup (Some u) = ap (λ (ys : List A). Some (ys, u.1)) (simp append_assoc)
        regroup None = refl

        by : (q : Option (List ℕ))
            → with_front xs (q >>= λ rest. each_at F.read l rest >>= λ u. Some (x ∷ u.0, u.1))
            ≡ with_front (xs ++ x ∷ []) (q >>= each_at F.read l)
        by None = refl
        by (Some rest) = regroup (each_at F.read l rest)

  pub all_of : (n : ℕ) (a b c : Reader) (xs : List A) → Takes (enough n) a b (Some tt)
      → ReadsFirst F b c xs 0 n → Reads (many F n) a c xs
  all_of n a b c xs there took =
      record { is = each_of n a b there ∙ sym took.is ∙ last (left c) } where
        last : (q : Option (List ℕ)) → with_front xs (q >>= each_at F.read 0) ≡ with_rest xs q
        last None = refl
        last (Some rest) = ap (λ (ys : List A). Some (ys, rest)) (append-nil xs)

  -- one of them wasn't there
  pub stopped : {n k : ℕ} {a b c : Reader} {xs : List A} → Takes (enough n) a b (Some tt)
      → ReadsFirst F b c xs k n → is_open c ≡ false → Reads (many F n) a c xs
  stopped {n} {k} {a} {b} {c} {xs} there took closed =
      record { is = each_of n a b there ∙ sym took.is ∙ by (left c) closed } where
        by : (q : Option (List ℕ)) → open_of q ≡ false
            → with_front xs (q >>= each_at F.read k) ≡ with_rest xs q
        by None h = refl
        by (Some rest) h = absurd cc

pub ruleset lists = (too_many, none_yet, one_more, all_of, stopped)

-- ---- the whole

-- what is read, and whether it is the whole
whole_if : {A : Type 0} (read : codec.Reader A) (bytes : List ℕ) (o : Option A)
    (q : Option (List ℕ))
    → read bytes ≡ (o >>= λ x. with_rest x q) → whole_of q ≡ true → whole_at read bytes ≡ o
unfolding whole_at
whole_if read bytes o None e h = absurd cc
whole_if read bytes None (Some r) e h = rw e refl
whole_if read bytes (Some x) (Some r) e h = rw (e, h) refl

none_if : {A : Type 0} (read : codec.Reader A) (bytes : List ℕ) (o : Option A) (q : Option (List ℕ))
    → read bytes ≡ (o >>= λ x. with_rest x q) → whole_of q ≡ false → whole_at read bytes ≡ None
unfolding whole_at
none_if read bytes None q e h = rw e refl
none_if read bytes (Some x) None e h = rw e refl
none_if read bytes (Some x) (Some r) e h = rw (e, h) refl

module _ {A : Type 0} (read : codec.Reader A) (bytes : List ℕ) (a b : Reader) (o : Option A)
    (all : left a ≡ Some bytes) (took : Takes read a b o) where
  found : read bytes ≡ (o >>= λ x. with_rest x (left b))
  found = rw all at took.is

  pub all_read : is_whole b ≡ true → whole_at read bytes ≡ o
  all_read whole = whole_if read bytes o (left b) found whole

  pub not_all_read : is_whole b ≡ false → whole_at read bytes ≡ None
  not_all_read whole = none_if read bytes o (left b) found whole

module _ {A : Type 0} (F : Format A) (bytes : List ℕ) (a b : Reader) (x : A) where
  pub whole_is : left a ≡ Some bytes → Reads F a b x → is_whole b ≡ true
      → whole_at F.read bytes ≡ Some x
  whole_is all took = all_read F.read bytes a b (Some x) all (record { is = took.is })

  pub no_whole : left a ≡ Some bytes → Reads F a b x → is_whole b ≡ false
      → whole_at F.read bytes ≡ None
  no_whole all took = not_all_read F.read bytes a b (Some x) all (record { is = took.is })
