-- The steps of making an arena: what they preserve, and what they detect.
use Rattle.std.proofs.Common.{◌≡◌, ◌≢◌, ℕ, zero, suc, ◌-◌, ◌^◌, ◌<◌, ◌≤◌, List, [], ◌∷◌, ◌++◌, map}
use Rattle.std.proofs.Common.{length, get_or, set, drop, count_by, cond, Bool, ◌+◌, true, false, lit<}
use Rattle.std.specs.Prelude.{IsTrue, ◌↔◌, ◌&&◌}
use Rattle.std.proofs.Common.{refl, sym, ap, ◌∙◌, subst, inl, inr, arith, true≢false}
use Rattle.std.proofs.lemmas.Bool.{cases_lt, ne_eqb, and_parts, and_from, cases_Bool}
use Rattle.std.proofs.Math.ListN.{get_or-map, length-append}
use Rattle.std.proofs.lemmas.List.Sums.{sum_by-set, sum_by-cons, sum_by_push}
use Rattle.std.proofs.lemmas.List.Sums.{count_by-le-length}
use Rattle.std.proofs.Math.Seq.{map-set_same, drop-nil, drop-cons}
use Rattle.std.proofs.lemmas.List.{get_or_past, get_or_read, get_or-set_same, map_push, length-map}
use Rattle.arena.specs.Arena.{Has, Once, IsSound, plain}
use Rattle.arena_slot.specs.Slot.{IsFree, IsBorn, is_occupied}
use Rattle.arena.specs.Entry.{chain, arena_of, IsLinked}
use Rattle.arena_slot.specs.Entry.{slot_of, next_of}
use Rattle.arena.specs.Made.{entry_at, AreCounted, IsLinking}
use Rattle.arena_slot.specs.Entry.{unlinked_of, is_unlinked, linked_to}
use Rattle.arena.specs.Row.{Row, row}
use Rattle.arena_slot.specs.declared.Slot.{Slot}
use Rattle.arena_slot.specs.declared.Slot.TheVariants as slot
use Rattle.arena_slot.specs.declared.Entry.{Entry}
use Rattle.arena_slot.specs.declared.Entry.TheVariants.{Free, Occupied, Retired}
use Rattle.arena_slot.specs.declared.TheConstants.{UNLINKED}
use Rattle.arena.proofs.Sound.{at_set, each_push}
use Rattle.arena.proofs.Chains.{chain-set, length-free}

-- what is in a tail of a list is in the list
Has-drop : (xs : List ℕ) (k i : ℕ) → Has (drop k xs) i → Has xs i
Has-drop [] k i has = absurd (subst (λ ys. Has ys i) (drop-nil k) has)
Has-drop (x ∷ xs) zero i has = has
Has-drop (x ∷ xs) (suc k) i has = inr (Has-drop xs k i has)

-- a tail of a list with no number twice has no number twice
Once-drop : (xs : List ℕ) (k : ℕ) → Once xs → Once (drop k xs)
Once-drop [] k once = subst Once (sym (drop-nil k)) tt
Once-drop (x ∷ xs) zero once = once
Once-drop (x ∷ xs) (suc k) once = Once-drop xs k once.1

-- the tail that begins one number earlier
pub drop-back : (xs : List ℕ) (n : ℕ) → 0 < n → n ≤ length xs
    → drop (n - 1) xs ≡ get_or xs (n - 1) 0 ∷ drop n xs
drop-back xs n some within =
    let inside : n - 1 < length xs = omega arith in
    let next : suc (n - 1) ≡ n = omega arith in
    drop-cons xs (n - 1) 0 inside ∙ ap (λ k. get_or xs (n - 1) 0 ∷ drop k xs) next

module _ {T : Type 0} where
  slot-unlinked : (s : Slot T) → slot_of (unlinked_of s) ≡ s
  slot-unlinked (slot.Free g) = refl
  slot-unlinked (slot.Occupied g x) = refl
  slot-unlinked slot.Retired = refl

  free_unlinked : (s : Slot T) → IsFree (slot_of (unlinked_of s))
      → is_unlinked (unlinked_of s) ≡ true
  free_unlinked (slot.Free g) free = refl
  free_unlinked (slot.Occupied g x) free = absurd free
  free_unlinked slot.Retired free = absurd free

  -- if each generation is at least the first with another slot, it is without it
  born_before : (ss : List (Slot T)) (s : Slot T)
      → ((i : ℕ) → IsBorn (get_or (ss ++ s ∷ []) i slot.Retired)) → (i : ℕ)
      → IsBorn (get_or ss i slot.Retired)
  born_before [] s all i = tt
  born_before (x ∷ ss) s all zero = all 0
  born_before (x ∷ ss) s all (suc i) = born_before ss s (λ j. all (suc j)) i

  born_last : (ss : List (Slot T)) (s : Slot T)
      → ((i : ℕ) → IsBorn (get_or (ss ++ s ∷ []) i slot.Retired)) → IsBorn s
  born_last [] s all = all 0
  born_last (x ∷ ss) s all = born_last ss s (λ j. all (suc j))

  pub slots_more : (es : List (Entry T)) (s : Slot T)
      → map slot_of (es ++ unlinked_of s ∷ []) ≡ map slot_of es ++ s ∷ []
  slots_more es s = rw (map_push slot_of es (unlinked_of s), slot-unlinked s) refl

  -- the entry of another slot
  pub counted_more : {es : Row (Entry T)} {occupied vacant : ℕ} {born : Bool}
      → AreCounted es occupied vacant born → (s : Slot T) (b : Bool) → IsTrue b ↔ IsBorn s
      → length (map slot_of es.items) < es.capacity
      → AreCounted (row (es.items ++ unlinked_of s ∷ []) es.capacity)
      (occupied + cond (is_occupied s) 1 0) (vacant + cond (is_unlinked (unlinked_of s)) 1 0)
      (born && b)
  counted_more {es} {occupied} {vacant} {born} before s b is room =
      let ss = map slot_of es.items in
      record {
        unlinked = rw (slots_more es.items s, map_push unlinked_of ss s, ← before.unlinked) refl;
        occupied_ones = rw (slots_more es.items s, before.occupied_ones)
            (sym (sum_by_push (λ (x : Slot T). cond (is_occupied x) 1 0) ss s));
        vacant_ones = rw before.vacant_ones
            (sym (sum_by_push (λ (e : Entry T). cond (is_unlinked e) 1 0) es.items
            (unlinked_of s)));
        all_born = rw (slots_more es.items s) (
          λ both.
              let two = and_parts born b both in
              each_push IsBorn tt ss s (before.all_born.0 two.0) (is.0 two.1),
          λ all.
              and_from born b (before.all_born.1 (born_before ss s all))
              (is.1 (born_last ss s all)),
        );
        within = omega (
          arith,
          room,
          length-map es.items slot_of,
          length-append es.items (unlinked_of s ∷ []),
        );
        short = before.short;
      }

  -- the counts of free and of occupied slots are below the limit
  pub counts_fit : {es : Row (Entry T)} {occupied vacant : ℕ} {born : Bool}
      → AreCounted es occupied vacant born → (vacant < 2 ^ 32) × (occupied < 2 ^ 32)
  counts_fit {es} counted =
      let long = length-map es.items slot_of in
      let free = count_by-le-length is_unlinked es.items in
      let taken = count_by-le-length is_occupied (map slot_of es.items) in (
        omega (arith, free, counted.vacant_ones, counted.within, counted.short),
        omega (arith, taken, long, counted.occupied_ones, counted.within, counted.short),
      )

  -- at first none is linked
  pub starts : (ss : List (Slot T)) → IsLinking (map unlinked_of ss) [] 0
  starts ss =
      record {
        chained = refl;
        named = λ i has. absurd has;
        once = tt;
        marked = λ i has. absurd has;
        unmarked = λ i free linked.
            let at : entry_at (map unlinked_of ss) i ≡ unlinked_of (get_or ss i slot.Retired) =
            get_or-map unlinked_of ss i slot.Retired in
            let unlinked = free_unlinked (get_or ss i slot.Retired)
            (subst (λ e. IsFree (slot_of e)) at free) in
            absurd (true≢false (sym unlinked ∙ sym (ap is_unlinked at) ∙ linked));
        below = lit< tt;
      }

  -- an unlinked entry is free, and within the list
  unlinked_is_free : (e : Entry T) → is_unlinked e ≡ true → IsFree (slot_of e)
  unlinked_is_free (Free g next) is = tt
  unlinked_is_free (Occupied g x) is = absurd (true≢false (sym is))
  unlinked_is_free Retired is = absurd (true≢false (sym is))

  pub unlinked_within : (es : List (Entry T)) (k : ℕ) → is_unlinked (entry_at es k) ≡ true
      → k < length es
  unlinked_within es k is =
      elim (cases_lt k (length es)) [
        | inl within ↦ within
        | inr past ↦
            absurd (true≢false (sym is ∙ ap is_unlinked (get_or_past es k Retired past)))
      ]

  -- a free slot that names another one is linked
  linked_apart : (e : Entry T) (next : ℕ) → next < UNLINKED
      → is_unlinked (linked_to e next) ≡ false
  linked_apart (Free g old) next below = ne_eqb next UNLINKED (λ same. omega arith)
  linked_apart (Occupied g x) next below = refl
  linked_apart Retired next below = refl

  slot-linked : (e : Entry T) (next : ℕ) → slot_of (linked_to e next) ≡ slot_of e
  slot-linked (Free g old) next = refl
  slot-linked (Occupied g x) next = refl
  slot-linked Retired next = refl

  next-linked : (e : Entry T) (next : ℕ) → IsFree (slot_of e) → next_of (linked_to e next) ≡ next
  next-linked (Free g old) next free = refl
  next-linked (Occupied g x) next free = absurd free
  next-linked Retired next free = absurd free

  -- another slot is linked, before the others
  pub record LinksOne (es : List (Entry T)) (rest : List ℕ) (first k : ℕ) : Type 0 where
    pub linking : IsLinking (set es k (linked_to (entry_at es k) first)) (k ∷ rest) k
    pub slots : map slot_of (set es k (linked_to (entry_at es k) first)) ≡ map slot_of es
    pub counted : count_by is_unlinked (set es k (linked_to (entry_at es k) first)) + 1
        ≡ count_by is_unlinked es

  pub links_one : {es : List (Entry T)} {rest : List ℕ} {first : ℕ} → IsLinking es rest first
      → (k : ℕ) → is_unlinked (entry_at es k) ≡ true → length es < 2 ^ 32
      → LinksOne es rest first k
  links_one {es} {rest} {first} linking k unlinked short =
      let e = linked_to (entry_at es k) first in
      let within = unlinked_within es k unlinked in
      let free = unlinked_is_free (entry_at es k) unlinked in
      let off : Has rest k → ⊥ = λ has. true≢false (sym unlinked ∙ linking.marked k has) in
      let written : get_or (set es k e) k Retired ≡ e = get_or-set_same es k e Retired within in
      let next : next_of e ≡ first = next-linked (entry_at es k) first free in
      let kept : chain (set es k e) (length rest) first ≡ rest =
      chain-set es k e (length rest) first (subst (λ ks. Has ks k → ⊥) (sym linking.chained) off)
      ∙ linking.chained in
      record {
        linking = record {
          chained = rw (written, next, kept);
          named = λ i has. elim (at_set es k i e Retired within) [
            | inl here ↦ rw (here.1, slot-linked (entry_at es k) first) free
            | inr there ↦
                elim has [
                  | inl same ↦ absurd (there.0 same)
                  | inr later ↦ rw there.1 (linking.named i later)
                ]
          ];
          once = (off, linking.once);
          marked = λ i has. elim (at_set es k i e Retired within) [
            | inl here ↦ rw here.1 (linked_apart (entry_at es k) first linking.below)
            | inr there ↦
                elim has [
                  | inl same ↦ absurd (there.0 same)
                  | inr later ↦ rw there.1 (linking.marked i later)
                ]
          ];
          unmarked = λ i free linked. elim (at_set es k i e Retired within) [
            | inl here ↦ inl here.0
            | inr there ↦
                inr (linking.unmarked i (rw there.1 at free) (rw there.1 at linked))
          ];
          below = omega arith;
        };
        slots = map-set_same slot_of es k e Retired (slot-linked (entry_at es k) first);
        counted =
            let one = sum_by-set (λ (x : Entry T). cond (is_unlinked x) 1 0) es k e Retired
            within in
            let apart : is_unlinked e ≡ false = linked_apart (entry_at es k) first linking.below in
            omega (arith, rw (unlinked, apart) at one);
      }

  slot_seen : (es : List (Entry T)) (i : ℕ)
      → get_or (map slot_of es) i slot.Retired ≡ slot_of (entry_at es i)
  slot_seen es i = get_or-map slot_of es i Retired

  -- if a number of the list can't be linked before those after it, the list is wrong
  pub refuses : {es : List (Entry T)} {rest : List ℕ} {first : ℕ} → IsLinking es rest first
      → (ks : List ℕ) (n k : ℕ) → drop n ks ≡ k ∷ rest → is_unlinked (entry_at es k) ≡ false
      → (limit : ℕ) → IsSound (plain (map slot_of es) ks limit) → ⊥
  refuses {es} {rest} linking ks n k ends linked limit sound =
      let there : Has ks k = Has-drop ks n k (rw ends (inl refl)) in
      let free = rw (slot_seen es k) at (sound.named k there) in
      let once : Once (k ∷ rest) = rw ends at (Once-drop ks n sound.once) in
      once.0 (linking.unmarked k free linked)

  -- if the count of slots that aren't linked isn't 0, there is one
  pub some_unlinked : (es : List (Entry T)) → 0 < count_by is_unlinked es
      → (i : ℕ) × (is_unlinked (entry_at es i) ≡ true)
  some_unlinked [] some = absurd (omega (arith, some))
  some_unlinked (e ∷ es) some =
      elim (cases_Bool (is_unlinked e)) [
        | inl is ↦ (0, is)
        | inr not ↦ let other = some_unlinked es (rw not at some) in (suc other.0, other.1)
      ]

  linked_behind : (e : Entry T) (es : List (Entry T)) → is_unlinked e ≡ false
      → ((i : ℕ) → is_unlinked (entry_at es i) ≡ false) → (i : ℕ)
      → is_unlinked (entry_at (e ∷ es) i) ≡ false
  linked_behind e es not rest zero = not
  linked_behind e es not rest (suc i) = rest i

  pub none_unlinked : (es : List (Entry T)) → count_by is_unlinked es ≡ 0 → (i : ℕ)
      → is_unlinked (entry_at es i) ≡ false
  none_unlinked [] none i = refl
  none_unlinked (e ∷ es) none i =
      elim (cases_Bool (is_unlinked e)) [
        | inl is ↦
            let all : count_by is_unlinked (e ∷ es)
            ≡ cond (is_unlinked e) 1 0 + count_by is_unlinked es =
            sum_by-cons (λ (x : Entry T). cond (is_unlinked x) 1 0) e es in
            let one : ◌≡◌ {A = ℕ} (cond (is_unlinked e) 1 0) 1 = rw is refl in
            absurd (omega (arith, all, one, none))
        | inr not ↦ linked_behind e es not (none_unlinked es (rw not at none)) i
      ]

  -- if there is a free slot that the list doesn't name, the list is wrong
  pub misses : {es : List (Entry T)} {ks : List ℕ} {first : ℕ} → IsLinking es ks first → (i : ℕ)
      → is_unlinked (entry_at es i) ≡ true → (limit : ℕ)
      → IsSound (plain (map slot_of es) ks limit) → ⊥
  misses {es} linking i unlinked limit sound =
      let free = unlinked_is_free (entry_at es i) unlinked in
      let has = sound.listed i (rw (slot_seen es i) free) in
      true≢false (sym unlinked ∙ linking.marked i has)

  -- every free slot is linked, in the order of the list
  pub record Made (ss : List (Slot T)) (es : List (Entry T)) (ks : List ℕ) (first limit : ℕ)
      : Type 0 where
    pub linked : IsLinked es first (length ks) (count_by is_occupied ss) limit
    pub is : arena_of es first (length ks) limit ≡ plain ss ks limit
    pub sound : IsSound (plain ss ks limit)
    pub few : length ks < 2 ^ 32

  makes_seen : {es : List (Entry T)} {ks : List ℕ} {first : ℕ} → IsLinking es ks first
      → ((i : ℕ) → is_unlinked (entry_at es i) ≡ false)
      → ((i : ℕ) → IsBorn (get_or (map slot_of es) i slot.Retired)) → (limit : ℕ) → limit < 2 ^ 32
      → length (map slot_of es) ≤ limit → Made (map slot_of es) es ks first limit
  makes_seen {es} {ks} {first} linking all born limit small within =
      let sound : IsSound (plain (map slot_of es) ks limit) = record {
        small = small;
        within = within;
        born = born;
        named = λ i has. rw (slot_seen es i) (linking.named i has);
        listed = λ i free. linking.unmarked i (rw (slot_seen es i) at free) (all i);
        once = linking.once;
      } in
      let most = length-free (plain (map slot_of es) ks limit) sound in
      let is : arena_of es first (length ks) limit ≡ plain (map slot_of es) ks limit =
      ap (λ free. plain (map slot_of es) free limit) linking.chained in
      record {
        linked = record { sound = rw is sound; counted = refl };
        is = is;
        sound = sound;
        few = omega arith;
      }

  pub makes : {ss : List (Slot T)} {es : List (Entry T)} {ks : List ℕ} {first : ℕ}
      → map slot_of es ≡ ss → IsLinking es ks first
      → ((i : ℕ) → is_unlinked (entry_at es i) ≡ false)
      → ((i : ℕ) → IsBorn (get_or ss i slot.Retired)) → (limit : ℕ) → limit < 2 ^ 32
      → length ss ≤ limit → Made ss es ks first limit
  makes {es = es} {ks} {first} seen linking all born limit small within =
      subst (λ ss. Made ss es ks first limit) seen
      (makes_seen linking all (rw (← seen) at born) limit small (rw (← seen) at within))

  -- a free slot has an entry
  pub free_within_entries : (es : List (Entry T)) (k : ℕ) → IsFree (slot_of (entry_at es k))
      → k < length es
  free_within_entries [] k free = absurd free
  free_within_entries (e ∷ es) zero free = omega arith
  free_within_entries (e ∷ es) (suc k) free =
      let rest = free_within_entries es k free in
      omega arith

  -- the first slot of a list of free slots that isn't empty
  pub record Next (es : List (Entry T)) (left first : ℕ) (e : Entry T) : Type 0 where
    pub free : IsFree (slot_of e)
    pub chained : chain es left first ≡ first ∷ chain es (left - 1) (next_of e)

  pub comes_next : (es : List (Entry T)) (left first : ℕ) (e : Entry T)
      → ((i : ℕ) → Has (chain es left first) i → IsFree (slot_of (entry_at es i)))
      → left ≢ 0 → e ≡ get_or es first e → Next es left first e
  comes_next es zero first e free some read = absurd (some refl)
  comes_next es (suc n) first e free some read =
      let here = free first (inl refl) in
      let within = free_within_entries es first here in
      let is : e ≡ entry_at es first = get_or_read es first e within read Retired in
      let less : suc n - 1 ≡ n = omega arith in
      record {
        free = rw is here;
        chained = rw (less, is);
      }
