-- What a node does, compared with a space without a collector, for each event of a program and the
-- receipt of each message.
use Rattle.std.proofs.Common.{◌≡◌, ◌≢◌, ℕ, Bool, true, not, cond, ◌==◌, ◌&&◌, List, [], ◌∷◌, ◌++◌, ◌⊎◌, set, Option, None, Some, option_to_list, refl, sym, ap, ◌∙◌, subst, ⊎_elim, inl, inr, append-nil, zero, suc}
use Rattle.std.specs.Prelude.{is_some, option_map}
use Rattle.std.proofs.lemmas.Bool.{cases_eq, cond_both, cond-true, cond-false, eq-eqb, ne_eqb, eqb-true, and_from, false_from_ne_true}
use Rattle.ids.specs.declared.names.Ref.{Ref}
use Rattle.msg.specs.declared.body.Body.{Body}
use Rattle.msg.specs.declared.body.Body.TheVariants as body
use Rattle.msg.specs.declared.body.Message.{Message}
use Rattle.model.specs.declared.event.Event.{Event}
use Rattle.model.specs.declared.event.Event.TheVariants as event
use Rattle.model.specs.Checks.{AllPass}
use Rattle.model.specs.State.{Object, Occupied, Heap, LocalState, register_at, slot_at}
use Rattle.model.specs.Heaps.{alloc_heap, with_object, new_reference, new_object, named, object_at, has_place, place_of, word_of, overwritten, with_register, register_copied, with_letter, with_rewritten, placing, place_loaded, next_slot, generation_for, oldest_letter, accepting, told_of, simple_letter, with_letters, letters_of, contents, fetched, letter_taken, letters_taken}
use Rattle.model.specs.Effects.{Work}
use Rattle.model.specs.Counting.{is_reference, append, stamped}
use Rattle.model.specs.Shading.{is_same, see_to}
use Rattle.model.specs.declared.event.Answer.TheVariants as answer
use Rattle.model.specs.Steps.{tests, made, take_body, target_of, carried, share}
use Rattle.laws.specs.Objects.{Thing, Space, object_in, has_that, content_of, word_in, with_desk, with_thing, rewriting, posted, is_program, new_thing, IsAnswer, does, follows, with_place, with_word, with_bytes, with_patch, fetched_of}
use Rattle.laws.specs.Sights.{thing_of, programs}
use Rattle.model.proofs.Slots.{found-object}
use Rattle.model.proofs.Ages.{noted_for, noted-keeps}
use Rattle.laws.proofs.Slots.{object-where, object-placed}
use Rattle.laws.proofs.Invariant.{FreeSlots}
use Rattle.laws.proofs.Past.{PastAt, occupied-past, new-not_past}
use Rattle.laws.proofs.GoodHeaps.{own_reference}
use Rattle.laws.proofs.Resolving.{resolved-there}
use Rattle.model.proofs.Naming.{same-is, is-same}
use Rattle.laws.proofs.Things.{desk_of, Kept, kept-same, kept-desk, still-remembering, LivesIn, lives-rewritten, rewriting-back, posts, posts-append, IsQuiet, quiet-posts, quiet-append}
use Rattle.laws.proofs.Unseen.{none-quiet, calm-collects, calm-shares}
use Rattle.model.proofs.Walk.{taken-roots}

-- Node i of a space without a collector has this heap's registers and letters, and its objects.
pub record Here (s : Space) (i : ℕ) (h : Heap) : Type 0 where
  pub desk : s.desk i ≡ desk_of h
  pub lives : LivesIn s i h

abbrev pub IsMade : Space → Ref → Type 0
IsMade s r = (o : Thing) × (s.objects r ≡ Some o)

-- Between the two spaces, node i changes like a node that then has this heap and sends these
-- messages. Any object that is made is new to the node.
pub record Effects (s t : Space) (i : ℕ) (h : Heap) (ms : List (ℕ × Message)) : Type 0 where
  pub here : Here t i h
  pub desks : (j : ℕ) → j ≢ i → t.desk j ≡ s.desk j
  pub objects : (r : Ref) → r.node ≢ i → t.objects r ≡ s.objects r
  pub past : (k g : ℕ) → IsMade t (own_reference i k g)
      → IsMade s (own_reference i k g) ⊎ PastAt h k g
  pub sends : (to : ℕ) → t.under_way i to ≡ s.under_way i to ++ posts to ms
  pub others : (from to : ℕ) → from ≢ i → t.under_way from to ≡ s.under_way from to

-- ---- kinds of steps

pub here-kept : {s : Space} {i : ℕ} {h g : Heap} → Here s i h → Kept h g → Here s i g
here-kept x a = record {
  desk = x.desk ∙ sym (kept-desk a);
  lives = λ k e y there.
      let found = a.objects k e y there in
      x.lives k e found.0 found.1 ∙ ap Some (sym found.2);
}

nothing-more : (bs : List Body) (to : ℕ) (ms : List (ℕ × Message)) → IsQuiet ms
    → bs ≡ bs ++ posts to ms
nothing-more bs to ms quiet =
    sym (append-nil bs) ∙ ap (λ (z : List Body). bs ++ z) (sym (quiet-posts to ms quiet))

-- nothing is seen
pub effects-none : {s : Space} {i : ℕ} {h : Heap} {ms : List (ℕ × Message)} → Here s i h
    → IsQuiet ms → Effects s s i h ms
effects-none {s = s} {i = i} {ms = ms} x quiet = record {
  here = x;
  desks = λ j other. refl;
  objects = λ r other. refl;
  past = λ k g made. inl made;
  sends = λ to. nothing-more (s.under_way i to) to ms quiet;
  others = λ from to other. refl;
}

-- messages that were sent before aren't seen
pub effects-behind : {s t : Space} {i : ℕ} {h : Heap} {ns : List (ℕ × Message)}
    (ms : List (ℕ × Message)) → IsQuiet ms → Effects s t i h ns → Effects s t i h (ms ++ ns)
effects-behind {s = s} {i = i} {ns = ns} ms quiet x = record {
  here = x.here;
  desks = x.desks;
  objects = x.objects;
  past = x.past;
  sends = λ to.
      x.sends to
      ∙ ap (λ (z : List Body). s.under_way i to ++ z)
      (sym (posts-append to ms ns
      ∙ ap (λ (z : List Body). z ++ posts to ns) (quiet-posts to ms quiet)));
  others = x.others;
}

-- registers and letters change
pub effects-desk : {s : Space} {i : ℕ} {h : Heap} {ms : List (ℕ × Message)} (desk : Heap)
    → desk ≡ desk_of h → LivesIn s i h → IsQuiet ms → Effects s (with_desk s i desk) i h ms
effects-desk {s = s} {i = i} {ms = ms} desk same lives quiet = record {
  here = record {
    desk = cond-true (i == i) desk (s.desk i) (eq-eqb i i refl) ∙ same;
    lives = lives;
  };
  desks = λ j other. cond-false (j == i) desk (s.desk j) (ne_eqb j i other);
  objects = λ r other. refl;
  past = λ k g made. inl made;
  sends = λ to. nothing-more (s.under_way i to) to ms quiet;
  others = λ from to other. refl;
}

-- an object of the node is rewritten
pub effects-rewritten : {s : Space} {i : ℕ} {h : Heap} (r : Ref) (f : Object → Object)
    (f' : Thing → Thing) → r.node ≡ i → ((x : Object) → thing_of (f x) ≡ f' (thing_of x))
    → Here s i h → Effects s (rewriting s r f') i (with_rewritten h r f) []
effects-rewritten {s = s} {i = i} {h = h} r f f' own same x = record {
  here = record { desk = x.desk; lives = lives-rewritten s i h r f f' (own, same) x.lives };
  desks = λ j other. refl;
  objects = λ z other.
      cond-false (is_same z r) _ (s.objects z)
      (false_from_ne_true (is_same z r)
      (λ is. other (ap (λ (y : Ref). y.node) (same-is z r is) ∙ own)));
  past = λ k g made. inl (rewriting-back s r f' (own_reference i k g) made.0 made.1);
  sends = λ to. sym (append-nil (s.under_way i to));
  others = λ from to other. refl;
}

-- a place of an object of the node is written, and what it is to name may be remembered
effects-placed : {s : Space} {i : ℕ} {h : Heap} (own : ℕ) (r : Ref) (place : ℕ) (v : Option Ref)
    → r.node ≡ i → Here s i h
    → Effects s (with_place s r place v) i
    (with_rewritten (noted_for own h r v) r (placing place v)) []
effects-placed {s = s} {i = i} {h = h} own r place v here x =
    effects-rewritten r (placing place v) (λ o. record o { places = set o.places place v }) here
    (λ _. refl)
    (here-kept x
    (noted-keeps (Kept h) own h r v (λ z. (still-remembering h z).kept)
    (kept-same refl refl refl)))

-- a message of a program is sent
pub effects-posted : {s : Space} {i : ℕ} {h : Heap} (to stamp : ℕ) (b : Body)
    → is_reference b ≡ true → Here s i h
    → Effects s (posted s i to b) i h ((to, record { stamp = stamp; body = b }) ∷ [])
effects-posted {s = s} {i = i} to stamp b is here = record {
  here = record { desk = here.desk; lives = here.lives };
  desks = λ j other. refl;
  objects = λ r other. refl;
  past = λ k g made. inl made;
  sends = λ k. ⊎_elim
      {C = cond ((i == i) && (k == to)) (s.under_way i to ++ b ∷ []) (s.under_way i k)
      ≡ s.under_way i k ++ programs (cond (to == k) (x ∷ []) [])}
      (λ (at : k ≡ to).
      cond-true ((i == i) && (k == to)) (s.under_way i to ++ b ∷ []) (s.under_way i k)
      (and_from (i == i) (k == to) (eq-eqb i i refl) (eq-eqb k to at))
      ∙ ap (λ (z : ℕ). s.under_way i z ++ b ∷ []) (sym at)
      ∙ ap (λ (z : List Body). s.under_way i k ++ z)
      (sym (ap programs (cond-true (to == k) (x ∷ []) [] (eq-eqb to k (sym at)))
      ∙ cond-true (is_reference b) (b ∷ []) [] is)))
      (λ (other : k ≢ to).
      cond-false ((i == i) && (k == to)) (s.under_way i to ++ b ∷ []) (s.under_way i k)
      (ap (λ (z : Bool). z && (k == to)) (eq-eqb i i refl) ∙ ne_eqb k to other)
      ∙ sym (append-nil (s.under_way i k))
      ∙ ap (λ (z : List Message). s.under_way i k ++ programs z)
      (sym (cond-false (to == k) (x ∷ []) [] (ne_eqb to k (λ e. other (sym e))))))
      (cases_eq k to);
  others = λ from k other.
      cond-false ((from == i) && (k == to)) (s.under_way i to ++ b ∷ []) (s.under_way from k)
      (ap (λ (z : Bool). z && (k == to)) (ne_eqb from i other));
}
  where
    x : Message
    x = record { stamp = stamp; body = b }

-- and what it carries becomes shared
effects-shared : {s : Space} {i : ℕ} (p : LocalState) (to : ℕ) (b : Body) → is_reference b ≡ true
    → Here s i p.heap
    → Effects s (posted s i to b) i (share (carried b) p).local.heap
    ((to, stamped p b) ∷ [])
effects-shared p to b is here =
    effects-posted to p.phases.cycle b is
    (here-kept here (calm-shares p (carried b)).still.kept)

-- ---- what the node has is what was made

pub found-same : {s : Space} {i : ℕ} {h : Heap} (r : Ref) → Here s i h → r.node ≡ i
    → is_some (object_at h r) ≡ true → s.objects r ≡ option_map thing_of (object_at h r)
found-same {s = s} {i = i} {h = h} r x own = by (object_at h r) refl
  where
    by : (found : Option Object) → object_at h r ≡ found → is_some found ≡ true
        → s.objects r ≡ option_map thing_of found
    by None is never = absurd cc
    by (Some o) is there =
        ap (λ (z : ℕ). s.objects (own_reference z r.slot r.generation)) own
        ∙ x.lives r.slot r.generation o (found-object h r o is)

pub thing-has : (o : Option Object) (place : ℕ)
    → has_that (option_map thing_of o) place ≡ has_place o place
thing-has None place = refl
thing-has (Some o) place = refl

pub thing-place : (o : Option Object) (place : ℕ)
    → content_of (option_map thing_of o) place ≡ place_of o place
thing-place None place = refl
thing-place (Some o) place = refl

thing-fetched : (o : Option Object) (offset count : ℕ)
    → fetched_of (option_map thing_of o) offset count ≡ fetched o offset count
thing-fetched None offset count = refl
thing-fetched (Some o) offset count = refl

pub thing-word : (o : Option Object) → word_in (option_map thing_of o) ≡ word_of o
thing-word None = refl
thing-word (Some o) = refl

pub thing-there : (o : Option Object) → is_some (option_map thing_of o) ≡ is_some o
thing-there None = refl
thing-there (Some o) = refl

pub placed-there : (o : Option Object) (place : ℕ) → has_place o place ≡ true → is_some o ≡ true
placed-there None place never = absurd cc
placed-there (Some o) place there = refl

-- the object that a register names
pub object-same : {s : Space} {i : ℕ} {h : Heap} (object : ℕ) → Here s i h
    → ((named h object).node == i) ≡ true → is_some (object_at h (named h object)) ≡ true
    → object_in s i object ≡ option_map thing_of (object_at h (named h object))
object-same {s = s} {i = i} {h = h} object x own there =
    ap (λ (z : Heap). s.objects (named z object)) x.desk
    ∙ found-same (named h object) x (eqb-true (named h object).node i own) there

-- ---- events of a program

-- A node may do an event: every test passed, and no object was made under a reference that the node
-- hasn't given out.
pub record Doing (s : Space) (p : LocalState) (e : Event) : Type 0 where
  pub here : Here s p.own p.heap
  pub past : (k g : ℕ) → IsMade s (own_reference p.own k g) → PastAt p.heap k g
  pub free : FreeSlots p.heap.slots p.heap.free
  pub passed : AllPass (tests p e)

-- so no object was made under the reference that its next object gets
pub new-unmade : {s : Space} {p : LocalState} {e : Event} → Doing s p e
    → s.objects (new_reference p.own p.heap) ≡ None
new-unmade {s = s} {p = p} d = by (s.objects (new_reference p.own p.heap)) refl
  where
    by : (found : Option Thing) → s.objects (new_reference p.own p.heap) ≡ found → found ≡ None
    by None is = refl
    by (Some o) is =
        absurd
        (let past = d.past (next_slot p.heap.free p.heap.slots)
        (generation_for p.heap.free p.heap.slots) (o, is) in
        new-not_past p.heap.free p.heap.slots d.free past.used past.past)

own-allocates : {s : Space} (p : LocalState) (register places : ℕ)
    → Doing s p (event.Alloc register places)
    → Effects s
    (with_desk (with_thing s (new_reference p.own p.heap) (Some (new_thing places))) p.own
    (with_register (s.desk p.own) register (Some (new_reference p.own p.heap))))
    p.own (alloc_heap p.own (not p.shape.wide) p.phases.cycle p.heap register places) []
own-allocates {s = s} p register places d =
    let h : Heap = p.heap in
    let r : Ref = new_reference p.own h in
    let shared : Bool = not p.shape.wide in
    let o : Object = new_object shared p.phases.cycle places in
    let t : Space = with_thing s r (Some (new_thing places)) in
    let there : slot_at (with_object h o) r.slot ≡ Occupied r.generation o =
    object-placed h.free h.slots o d.free in
    let lives : LivesIn t p.own (alloc_heap p.own shared p.phases.cycle h register places) =
    λ k g y at.
    ⊎_elim {C = t.objects (own_reference p.own k g) ≡ Some (thing_of y)}
    (λ before.
    cond-false (is_same (own_reference p.own k g) r) (Some (new_thing places)) _
    (false_from_ne_true _
    (λ is.
    let same : own_reference p.own k g ≡ r = same-is (own_reference p.own k g) r is in
    let never : None ≡ Some (thing_of y) =
    sym (new-unmade d) ∙ ap s.objects (sym same) ∙ d.here.lives k g y before in
    absurd cc))
    ∙ d.here.lives k g y before)
    (λ new.
    let same : own_reference p.own k g ≡ r =
    ap (λ (z : ℕ). own_reference p.own z g) new.0
    ∙ ap (λ (z : ℕ). own_reference p.own r.slot z) new.1 in
    cond-true (is_same (own_reference p.own k g) r) (Some (new_thing places)) _
    (ap (λ (z : Ref). is_same z r) same ∙ is-same r)
    ∙ ap (λ (z : Object). Some (thing_of z)) (sym new.2))
    (object-where h.free h.slots o d.free k g y at) in
    let placed =
    effects-desk {s = t} {i = p.own} {h = alloc_heap p.own shared p.phases.cycle h register places}
    {ms = []} (with_register (s.desk p.own) register (Some r))
    (ap (λ (z : Heap). with_register z register (Some r)) d.here.desk) lives none-quiet in
    record {
      here = placed.here;
      desks = placed.desks;
      objects = λ z other.
          cond-false (is_same z r) _ (s.objects z)
          (false_from_ne_true (is_same z r)
          (λ is. other (ap (λ (y : Ref). y.node) (same-is z r is))));
      past = λ k g.
          cond_both (is_same (own_reference p.own k g) r) (Some (new_thing places))
          (s.objects (own_reference p.own k g))
          (λ (z : Option Thing). (x : Thing) × (z ≡ Some x)
          → IsMade s (own_reference p.own k g)
          ⊎ PastAt (alloc_heap p.own shared p.phases.cycle h register places) k g)
          (λ is _.
          let same : r ≡ own_reference p.own k g =
          sym (same-is (own_reference p.own k g) r is) in
          let past = occupied-past (with_object h o) r.slot r.generation o there in
          let moved : PastAt (with_object h o) k g =
          subst (λ (z : Ref). PastAt (with_object h o) z.slot z.generation) same past in
          inr (record { used = moved.used; past = moved.past }))
          (λ _ made. inl made);
      sends = placed.sends;
      others = placed.others;
    }

-- what a Load reads
own-reads : {s : Space} (p : LocalState) (register object place : ℕ)
    → Doing s p (event.Load register object place)
    → content_of (object_in s p.own object) place ≡ place_loaded p.heap object place
own-reads p register object place d =
    let found : Option Object = object_at p.heap (named p.heap object) in
    ap (λ (z : Option Thing). content_of z place)
    (object-same object d.here d.passed.1.1.1.0 (placed-there found place d.passed.1.1.1.1.0))
    ∙ thing-place found place

-- it is shaded, and the register gets it
own-loads : {s : Space} (p : LocalState) (counts : List ℕ) (register object place : ℕ)
    → Doing s p (event.Load register object place)
    → Effects s
    (with_desk s p.own
    (with_register (s.desk p.own) register (content_of (object_in s p.own object) place)))
    p.own (made p counts (event.Load register object place)).local.heap
    (made p counts (event.Load register object place)).sends
own-loads {s = s} p counts register object place d =
    let v : Option Ref = place_loaded p.heap object place in
    let w : Work = see_to true (option_to_list v) p in
    let calm = calm-collects.sees true (option_to_list v) p in
    effects-desk {h = with_register w.local.heap register v}
    (with_register (s.desk p.own) register (content_of (object_in s p.own object) place))
    (ap (λ (z : Option Ref). with_register (s.desk p.own) register z)
    (own-reads p register object place d)
    ∙ ap (λ (z : Heap). with_register z register v)
    (d.here.desk ∙ sym (kept-desk calm.still.kept)))
    (here-kept d.here calm.still.kept).lives
    (quiet-append w.sends [] calm.quiet none-quiet)

-- a letter goes into registers
desk-taken : (n : ℕ) (h : Heap) (register : ℕ)
    → letters_taken n (desk_of h) register ≡ desk_of (letters_taken n h register)
desk-taken zero h register = refl
desk-taken (suc n) h register = desk-taken n (letter_taken h register) (suc register)

-- the event does the same to registers, letters and objects in both, and sends the same
pub own-does : {s : Space} (p : LocalState) (counts : List ℕ) (e : Event)
    → is_program e ≡ true → Doing s p e
    → Effects s (does s p.own e (made p counts e).answer) p.own (made p counts e).local.heap
    (made p counts e).sends
unfolding append
own-does p counts (event.Alloc register places) is d = own-allocates p register places d
own-does p counts (event.Copy register source) is d =
    effects-desk _ (ap (λ (z : Heap). register_copied z register source) d.here.desk) d.here.lives
    none-quiet
own-does p counts (event.Drop register) is d =
    effects-desk _ (ap (λ (z : Heap). with_register z register None) d.here.desk) d.here.lives
    none-quiet
own-does p counts (event.Resolve register reference) is d =
    effects-desk _ (ap (λ (z : Heap). with_register z register (Some reference)) d.here.desk)
    d.here.lives none-quiet
own-does p counts (event.Load register object place) is d =
    own-loads p counts register object place d
own-does {s = s} p counts (event.Store object place register) is d =
    let v : Option Ref = register_at p.heap register in
    subst (λ (z : Heap).
    Effects s (with_place s (named z object) place (register_at z register)) p.own
    (made p counts (event.Store object place register)).local.heap []) (sym d.here.desk)
    (effects-placed p.own (named p.heap object) place v (eqb-true _ _ d.passed.1.1.1.1.0) d.here)
own-does {s = s} p counts (event.Clear object place) is d =
    subst (λ (z : Heap).
    Effects s (with_place s (named z object) place None) p.own
    (made p counts (event.Clear object place)).local.heap []) (sym d.here.desk)
    (effects-placed p.own (named p.heap object) place None (eqb-true _ _ d.passed.1.1.0) d.here)
own-does p counts (event.Word object) is d = effects-none d.here none-quiet
own-does {s = s} p counts (event.SetWord object word) is d =
    subst (λ (z : Heap).
    Effects s (with_word s (named z object) word) p.own
    (made p counts (event.SetWord object word)).local.heap []) (sym d.here.desk)
    (effects-rewritten (named p.heap object) _ (λ o. record o { word = word })
    (eqb-true _ _ d.passed.1.1.0) (λ _. refl) d.here)
own-does {s = s} p counts (event.SetBytes object bytes) is d =
    subst (λ (z : Heap).
    Effects s (with_bytes s (named z object) bytes.now) p.own
    (made p counts (event.SetBytes object bytes)).local.heap []) (sym d.here.desk)
    (effects-rewritten (named p.heap object) _ (λ o. record o { bytes = bytes.now })
    (eqb-true _ _ d.passed.1.1.0) (λ _. refl) d.here)
own-does {s = s} p counts (event.Patch object offset bytes) is d =
    subst (λ (z : Heap).
    Effects s (with_patch s (named z object) offset bytes.now) p.own
    (made p counts (event.Patch object offset bytes)).local.heap []) (sym d.here.desk)
    (effects-rewritten (named p.heap object) _
    (λ o. record o { bytes = overwritten o.bytes offset bytes.now })
    (eqb-true _ _ d.passed.1.1.0) (λ _. refl) d.here)
own-does {s = s} p counts (event.Give to label register) is d =
    subst (λ (z : Heap).
    Effects s (posted s p.own to (body.Give label (register_at z register))) p.own
    (made p counts (event.Give to label register)).local.heap
    (made p counts (event.Give to label register)).sends) (sym d.here.desk)
    (effects-shared p to (body.Give label (register_at p.heap register)) refl d.here)
own-does {s = s} p counts (event.Accept register) is d =
    let n : ℕ = suc (oldest_letter p.heap).more in
    effects-desk _
    (ap (λ (z : Heap). accepting z register) d.here.desk ∙ desk-taken n p.heap register)
    (subst (λ (z : Heap). LivesIn s p.own z) (sym (taken-roots n p.heap register)) d.here.lives)
    none-quiet
own-does {s = s} p counts (event.Post to label first count bytes) is d =
    subst (λ (z : Heap).
    Effects s (posted s p.own to (body.Post label (contents z first count) bytes.now)) p.own
    (made p counts (event.Post to label first count bytes)).local.heap
    (made p counts (event.Post to label first count bytes)).sends) (sym d.here.desk)
    (effects-shared p to (body.Post label (contents p.heap first count) bytes.now) refl d.here)
own-does {s = s} p counts (event.Fetch object label offset count) is d =
    subst (λ (z : Heap).
    Effects s
    (posted s p.own (named z object).node (body.Fetch (named z object) label offset count)) p.own
    (made p counts (event.Fetch object label offset count)).local.heap
    (made p counts (event.Fetch object label offset count)).sends) (sym d.here.desk)
    (effects-shared p (named p.heap object).node
    (body.Fetch (named p.heap object) label offset count) refl d.here)
own-does {s = s} p counts (event.Put object place register) is d =
    subst (λ (z : Heap).
    Effects s
    (posted s p.own (named z object).node
    (body.Put (named z object) place (register_at z register)))
    p.own (made p counts (event.Put object place register)).local.heap
    (made p counts (event.Put object place register)).sends) (sym d.here.desk)
    (effects-shared p (named p.heap object).node
    (body.Put (named p.heap object) place (register_at p.heap register)) refl d.here)
own-does {s = s} p counts (event.Get object place label) is d =
    subst (λ (z : Heap).
    Effects s (posted s p.own (named z object).node (body.Get (named z object) place label)) p.own
    (made p counts (event.Get object place label)).local.heap
    (made p counts (event.Get object place label)).sends) (sym d.here.desk)
    (effects-shared p (named p.heap object).node (body.Get (named p.heap object) place label) refl
    d.here)
own-does p counts e never d = absurd cc

-- and its answer is one that it may get there
pub own-answers : {s : Space} (p : LocalState) (counts : List ℕ) (e : Event)
    → is_program e ≡ true → Doing s p e → IsAnswer s p.own e (made p counts e).answer
unfolding append
own-answers p counts (event.Alloc register places) is d =
    (new_reference p.own p.heap, refl, refl, new-unmade d)
own-answers p counts (event.Load register object place) is d =
    ap answer.Value (sym (own-reads p register object place d))
own-answers p counts (event.Word object) is d =
    let found : Option Object = object_at p.heap (named p.heap object) in
    ap answer.Word
    (sym (ap word_in (object-same object d.here d.passed.1.1.0 d.passed.1.1.1.0)
    ∙ thing-word found))
own-answers p counts (event.Give to label register) is d = (_, refl)
own-answers p counts (event.Accept register) is d =
    ap (λ (z : Heap). answer.Letter (told_of (oldest_letter z))) (sym d.here.desk)
own-answers p counts (event.Post to label first count bytes) is d = (_, refl)
own-answers p counts (event.Fetch object label offset count) is d = (_, refl)
own-answers p counts (event.Put object place register) is d = (_, refl)
own-answers p counts (event.Get object place label) is d = (_, refl)
own-answers {s = s} p counts (event.Resolve register reference) is d =
    let x = resolved-there p register reference d.passed in (
      refl,
      thing_of x.object,
      subst (λ (z : ℕ).
          s.objects (own_reference z reference.slot reference.generation)
          ≡ Some (thing_of x.object))
          (sym x.own) (d.here.lives reference.slot reference.generation x.object x.there),
    )
own-answers p counts (event.Reclaim scope) never d = absurd cc
own-answers p counts event.Begin never d = absurd cc
own-answers p counts event.Scan never d = absurd cc
own-answers p counts event.Pass never d = absurd cc
own-answers p counts (event.Sweep count) never d = absurd cc
own-answers p counts (event.Next from) never d = absurd cc
own-answers p counts (event.Data m) never d = absurd cc
own-answers p counts (event.Ack m) never d = absurd cc
own-answers p counts e is d = refl

-- ---- messages of programs

-- the node follows the body of a message, and owns the object that the message is about
pub record Following (s : Space) (i : ℕ) (b : Body) (p : LocalState) : Type 0 where
  pub here : Here s i p.heap
  pub own : (r : Ref) → target_of b ≡ Some r → r.node ≡ i
  pub there : (r : Ref) → target_of b ≡ Some r → is_some (object_at p.heap r) ≡ true

pub body-does : {s : Space} {i : ℕ} (from stamp : ℕ) (b : Body) (p : LocalState)
    → is_reference b ≡ true → Following s i b p
    → Effects s (follows s from i b) i (take_body from stamp b p).local.heap
    (take_body from stamp b p).sends
unfolding take_body append
body-does from stamp (body.Give label reference) p is f =
    effects-desk _
    (ap (λ (z : Heap). with_letter z (simple_letter from label reference)) f.here.desk)
    f.here.lives none-quiet
body-does from stamp (body.Post label references bytes) p is f =
    effects-desk _
    (ap (λ (z : Heap). with_letters z (letters_of from label references bytes)) f.here.desk)
    f.here.lives none-quiet
body-does {s = s} {i = i} from stamp (body.Fetch target label offset count) p is f =
    let found : Option Object = object_at p.heap target in
    let bytes : List ℕ = fetched found offset count in
    let same : fetched_of (s.objects target) offset count ≡ bytes =
    ap (λ (z : Option Thing). fetched_of z offset count)
    (found-same target f.here (f.own target refl) (f.there target refl))
    ∙ thing-fetched found offset count in
    subst (λ (z : List ℕ). Effects s (posted s i from (body.Post label [] z)) i p.heap
    ((from, stamped p (body.Post label [] bytes)) ∷ []))
    (sym same)
    (effects-shared p from (body.Post label [] bytes) refl f.here)
body-does from stamp (body.Put target place reference) p is f =
    effects-placed p.own target place reference (f.own target refl) f.here
body-does {s = s} {i = i} from stamp (body.Get target place label) p is f =
    let found : Option Object = object_at p.heap target in
    let v : Option Ref = place_of found place in
    let w : Work = see_to true (option_to_list v) p in
    let calm = calm-collects.sees true (option_to_list v) p in
    let same : content_of (s.objects target) place ≡ v =
    ap (λ (z : Option Thing). content_of z place)
    (found-same target f.here (f.own target refl) (f.there target refl))
    ∙ thing-place found place in
    subst (λ (z : Option Ref). Effects s (posted s i from (body.Give label z)) i
    (share (option_to_list v) w.local).local.heap
    (w.sends ++ (from, stamped w.local (body.Give label v)) ∷ []))
    (sym same)
    (effects-behind w.sends calm.quiet
    (effects-shared w.local from (body.Give label v) refl
    (here-kept f.here calm.still.kept)))
body-does from stamp b p never f = absurd cc
