-- What depends only on the numbers that words spell, so that the words themselves may be forgotten.
use Rattle.std.proofs.Common.{◌≡◌, ◌∙◌, ℕ, Bool, true, false, cond, List, [], ◌∷◌, Option, Some, None, refl, sym, ap, decimal}
use Rattle.std.specs.Option.{option_and_then, option_map}
use Rattle.script.specs.declared.line.Line.{Line}
use Rattle.script.specs.declared.operands.Operands.TheVariants as operands
use Rattle.script.specs.Grammar.{Number, of_three, of_two, u64_of}
use Rattle.script.specs.Operands.{operands_of, spelled}

-- of one word, of two and of three
pub record One {X : Type 0} (f : List ℕ → Option X) : Type 0 where
  pub is : (a : List ℕ) → f a ≡ option_and_then (λ x. f (decimal x)) (u64_of a)

pub record Two {X : Type 0} (f : List ℕ → List ℕ → Option X) : Type 0 where
  pub is : (a b : List ℕ) → f a b
      ≡ option_and_then (λ x. option_and_then (λ y. f (decimal x) (decimal y)) (u64_of b))
      (u64_of a)

pub record Three {X : Type 0} (f : List ℕ → List ℕ → List ℕ → Option X) : Type 0 where
  pub is : (a b c : List ℕ) → f a b c
      ≡ option_and_then (λ x. option_and_then (λ y. option_and_then
      (λ z. f (decimal x) (decimal y) (decimal z)) (u64_of c)) (u64_of b)) (u64_of a)

-- ---- nothing

none_then : {A B : Type 0} (o : Option A) → None ≡ option_and_then {U = B} (λ x. None) o
none_then None = refl
none_then (Some x) = refl

pub one_none : {X : Type 0} → One {X = X} (λ a. None)
one_none = record { is = λ a. none_then (u64_of a) }

pub two_none : {X : Type 0} → Two {X = X} (λ a b. None)
two_none = record {
  is = λ a b. none_then (u64_of a)
      ∙ ap (λ o. option_and_then (λ x. o) (u64_of a)) (none_then (u64_of b));
}

pub three_none : {X : Type 0} → Three {X = X} (λ a b c. None)
three_none = record {
  is = λ a b c. none_then (u64_of a)
      ∙ ap (λ o. option_and_then (λ x. o) (u64_of a)) (none_then (u64_of b)
      ∙ ap (λ o. option_and_then (λ y. o) (u64_of b)) (none_then (u64_of c)));
}

-- ---- one of two

pub one_either : {X : Type 0} {f g : List ℕ → Option X} (t : Bool) → One f → One g
    → One (λ a. cond t (f a) (g a))
one_either true p q = p
one_either false p q = q

pub two_either : {X : Type 0} {f g : List ℕ → List ℕ → Option X} (t : Bool) → Two f → Two g
    → Two (λ a b. cond t (f a b) (g a b))
two_either true p q = p
two_either false p q = q

pub three_either : {X : Type 0} {f g : List ℕ → List ℕ → List ℕ → Option X} (t : Bool)
    → Three f → Three g → Three (λ a b c. cond t (f a b c) (g a b c))
three_either true p q = p
three_either false p q = q

-- ---- built from numbers

map_then : {A B C : Type 0} (make : B → C) (f : A → Option B) (o : Option A)
    → option_map make (option_and_then f o) ≡ option_and_then (λ x. option_map make (f x)) o
map_then make f None = refl
map_then make f (Some x) = refl

pub one_map : {X Y : Type 0} {f : List ℕ → Option X} (make : X → Y) → One f
    → One (λ a. option_map make (f a))
one_map make p = record {
  is = λ a. ap (option_map make) (p.is a) ∙ map_then make _ (u64_of a);
}

pub two_map : {X Y : Type 0} {f : List ℕ → List ℕ → Option X} (make : X → Y) → Two f
    → Two (λ a b. option_map make (f a b))
two_map {f = f} make p = record {
  is = λ a b. ap (option_map make) (p.is a b) ∙ by a (u64_of b) (u64_of a);
} where
  by : (a : List ℕ) (v u : Option ℕ) → option_map make
      (option_and_then (λ x. option_and_then (λ y. f (decimal x) (decimal y)) v) u)
      ≡ option_and_then
      (λ x. option_and_then (λ y. option_map make (f (decimal x) (decimal y))) v) u
  by a v None = refl
  by a None (Some x) = refl
  by a (Some y) (Some x) = refl

pub three_map : {X Y : Type 0} {f : List ℕ → List ℕ → List ℕ → Option X} (make : X → Y)
    → Three f → Three (λ a b c. option_map make (f a b c))
three_map {f = f} make p = record {
  is = λ a b c. ap (option_map make) (p.is a b c) ∙ by (u64_of c) (u64_of b) (u64_of a);
} where
  by : (w v u : Option ℕ) → option_map make (option_and_then (λ x. option_and_then
      (λ y. option_and_then (λ z. f (decimal x) (decimal y) (decimal z)) w) v) u)
      ≡ option_and_then (λ x. option_and_then (λ y. option_and_then
      (λ z. option_map make (f (decimal x) (decimal y) (decimal z))) w) v) u
  by w v None = refl
  by w None (Some x) = refl
  by None (Some y) (Some x) = refl
  by (Some z) (Some y) (Some x) = refl

pub two_of : {X : Type 0} {f g : Number} (make : ℕ → ℕ → X) → One f → One g
    → Two (λ a b. of_two f g make a b)
two_of {f = f} {g = g} make p q = record {
  is = λ a b. ap (λ o. option_and_then (λ x. option_map (λ y. make x y) (g b)) o) (p.is a)
      ∙ ap (λ o. option_and_then (λ x. option_map (λ y. make x y) o)
      (option_and_then (λ n. f (decimal n)) (u64_of a))) (q.is b)
      ∙ by (u64_of b) (u64_of a);
} where
  by : (v u : Option ℕ) → option_and_then
      (λ x. option_map (λ y. make x y) (option_and_then (λ n. g (decimal n)) v))
      (option_and_then (λ n. f (decimal n)) u)
      ≡ option_and_then
      (λ x. option_and_then (λ y. of_two f g make (decimal x) (decimal y)) v) u
  by v None = refl
  by None (Some x) = sym (none_then (f (decimal x)))
  by (Some y) (Some x) = refl

pub three_of : {X : Type 0} {f g h : Number} (make : ℕ → ℕ → ℕ → X) → One f → One g → One h
    → Three (λ a b c. of_three f g h make a b c)
three_of {f = f} {g = g} {h = h} make p q r = record {
  is = λ a b c. ap (λ o. option_and_then (λ x. of_two g h (λ y z. make x y z) b c) o) (p.is a)
      ∙ ap (λ o. option_and_then
      (λ x. option_and_then (λ y. option_map (λ z. make x y z) (h c)) o)
      (option_and_then (λ n. f (decimal n)) (u64_of a))) (q.is b)
      ∙ ap (λ o. option_and_then
      (λ x. option_and_then (λ y. option_map (λ z. make x y z) o)
      (option_and_then (λ n. g (decimal n)) (u64_of b)))
      (option_and_then (λ n. f (decimal n)) (u64_of a))) (r.is c)
      ∙ by (u64_of c) (u64_of b) (u64_of a);
} where
  by : (w v u : Option ℕ) → option_and_then (λ x. option_and_then
      (λ y. option_map (λ z. make x y z) (option_and_then (λ n. h (decimal n)) w))
      (option_and_then (λ n. g (decimal n)) v)) (option_and_then (λ n. f (decimal n)) u)
      ≡ option_and_then (λ x. option_and_then (λ y. option_and_then
      (λ z. of_three f g h make (decimal x) (decimal y) (decimal z)) w) v) u
  by w v None = refl
  by w None (Some x) = sym (none_then (f (decimal x)))
  by None (Some y) (Some x) =
      ap (λ o. option_and_then (λ n. o) (f (decimal x))) (sym (none_then (g (decimal y))))
      ∙ sym (none_then (f (decimal x)))
  by (Some z) (Some y) (Some x) = refl

-- ---- of all words

-- by the operands that the words spell
pub record All (f : List (List ℕ) → Option Line) : Type 0 where
  pub one : One (λ a. f (a ∷ []))
  pub two : Two (λ a b. f (a ∷ b ∷ []))
  pub three : Three (λ a b c. f (a ∷ b ∷ c ∷ []))
  pub more : (a b c d : List ℕ) (ws : List (List ℕ)) → f (a ∷ b ∷ c ∷ d ∷ ws) ≡ None

pub all_either : {f g : List (List ℕ) → Option Line} (t : Bool) → All f → All g
    → All (λ ws. cond t (f ws) (g ws))
all_either true p q = p
all_either false p q = q

pub operands_are : {f : List (List ℕ) → Option Line} → All f → (ws : List (List ℕ))
    → f ws ≡ option_and_then (λ o. f (spelled o)) (operands_of ws)
unfolding operands_of
operands_are p [] = refl
operands_are {f} p (a ∷ []) = p.one.is a ∙ by (u64_of a) where
  by : (u : Option ℕ) → option_and_then (λ x. f (decimal x ∷ [])) u
      ≡ option_and_then (λ o. f (spelled o)) (option_map (λ x. operands.One x) u)
  by None = refl
  by (Some x) = refl
operands_are {f} p (a ∷ b ∷ []) = p.two.is a b ∙ by (u64_of b) (u64_of a) where
  by : (v u : Option ℕ) → option_and_then
      (λ x. option_and_then (λ y. f (decimal x ∷ decimal y ∷ [])) v) u
      ≡ option_and_then (λ o. f (spelled o))
      (option_and_then (λ x. option_map (λ y. operands.Two x y) v) u)
  by v None = refl
  by None (Some x) = refl
  by (Some y) (Some x) = refl
operands_are {f} p (a ∷ b ∷ c ∷ []) = p.three.is a b c ∙ by (u64_of c) (u64_of b) (u64_of a)
  where
    by : (w v u : Option ℕ) → option_and_then (λ x. option_and_then (λ y. option_and_then
        (λ z. f (decimal x ∷ decimal y ∷ decimal z ∷ [])) w) v) u
        ≡ option_and_then (λ o. f (spelled o)) (option_and_then (λ x. option_and_then
        (λ y. option_map (λ z. operands.Three x y z) w) v) u)
    by w v None = refl
    by w None (Some x) = refl
    by None (Some y) (Some x) = refl
    by (Some z) (Some y) (Some x) = refl
operands_are p (a ∷ b ∷ c ∷ d ∷ ws) = p.more a b c d ws
