-- A relation between a node and some work is proved for every event and every message once it is
-- proved for the elementary moves that these are made of. So a lemma by cases of all events and
-- bodies is here and nowhere else.
use Rattle.std.proofs.Common.{◌≡◌, ℕ, zero, suc, sym, subst, ◌+◌, ◌<◌, ◌==◌, Bool, true, false, cond, not, List, [], Option, option_to_list, refl, ◌∙◌, ltb, ltb-true, arith, ◌∷◌}
use Rattle.std.proofs.lemmas.Bool.{cond_both}
use Rattle.ids.specs.declared.names.Ref.{Ref}
use Rattle.msg.specs.declared.body.Body.{Body}
use Rattle.msg.specs.declared.body.Body.TheVariants as body
use Rattle.model.specs.declared.age.Scope.{Scope}
use Rattle.model.specs.declared.event.Event.{Event}
use Rattle.model.specs.declared.event.Event.TheVariants as event
use Rattle.model.specs.declared.event.Answer.TheVariants as answer
use Rattle.model.specs.declared.event.Letter.{Letter}
use Rattle.model.specs.State.{Object, Heap, Ring, LocalState, slot_at}
use Rattle.model.specs.Heaps.{with_rewritten, with_place, placing, remembering, alloc_heap, object_at, place_of, sharing, oldest_letter, letter_taken, letters_taken}
use Rattle.model.proofs.Ages.{noted_for, noted-keeps}
use Rattle.model.specs.Effects.{Work, at_rest, then, Effect, answers}
use Rattle.model.specs.Counting.{is_reference, is_idle, append, announce}
use Rattle.model.specs.Shading.{filled, roots, see_to, enter, join, joined, last_grey, without_last_grey}
use Rattle.model.specs.Collecting.{whitened, without_token, new_token, forwarded, is_concluded, probe, begun, places_in, scan, scanned, conclude, judged, handed_on, passed, sweep, swept_slots}
use Rattle.model.specs.Reclaiming.{reclaimed}
use Rattle.model.specs.Steps.{share, post, is_own, made, carried, take_carried, take_body, with_loaded, Write, Sets, Accepts, Rewrites, Places, Makes, Reclaims, Deed, Reads, Writes, Loads, Sends, Takes, written, carry, rule, frees}

-- the work of an effect, without its answer
abbrev pub work_in : Effect → Work
work_in x = record { local = x.local; sends = x.sends }

-- what is said of a node and of some work that begins at it
abbrev pub Steps : Type 1
Steps = LocalState → Work → Type 0

-- The collector's moves. Nothing happens, or one step comes after another. The node sees to
-- references, enters a later cycle, changes its part of the ring, knows that its cycle's marking
-- has ended, hears reports, or takes the last object off its grey list. It sends a message that
-- mentions no reference to one node, or to all others.
pub record Collects (R : Steps) : Type 0 where
  pub rest : (p : LocalState) → R p (at_rest p)
  pub both : (p : LocalState) (w : Work) (f : LocalState → Work) → R p w → R w.local (f w.local)
      → R p (then w f)
  pub sees : (due : Bool) (rs : List Ref) (p : LocalState) → R p (see_to due rs p)
  pub enters : (p : LocalState) (cycle : ℕ) → p.phases.cycle < cycle → R p (at_rest (enter p cycle))
  pub rings : (p : LocalState) (r : Ring) → R p (at_rest (record p { ring = r }))
  pub ends : (p : LocalState)
      → R p (at_rest (record p { phases = record p.phases { ended = p.phases.cycle } }))
  pub hears : (p : LocalState) (reports : List ℕ)
      → R p (at_rest (record p { phases = record p.phases { reports = reports } }))
  pub scans : (p : LocalState) → R p (at_rest (record p { heap = without_last_grey p.heap }))
  pub sends : (to : ℕ) (b : Body) (p : LocalState) → is_idle b ≡ true → R p (append to b p)
  pub tells : (b : Body) (p : LocalState) → is_idle b ≡ true → R p (announce b p)

pub idle-quiet : (b : Body) → is_idle b ≡ true → is_reference b ≡ false
idle-quiet (body.Give label reference) idle = absurd cc
idle-quiet (body.Put target place reference) idle = absurd cc
idle-quiet (body.Get target place label) idle = absurd cc
idle-quiet (body.Post label references bytes) idle = absurd cc
idle-quiet (body.Fetch target label offset count) idle = absurd cc
idle-quiet b idle = refl

-- a shared object stays shared
abbrev pub KeepsShared : (Object → Object) → Type 0
KeepsShared f = (o : Object) → o.shared ≡ true → (f o).shared ≡ true

-- what an object holds stays as it is, and so do its age and who may know it
pub record IsQuiet (f : Object → Object) : Type 0 where
  pub places : (o : Object) → (f o).places ≡ o.places
  pub shared : (o : Object) → (f o).shared ≡ o.shared
  pub age : (o : Object) → (f o).age ≡ o.age

pub quiet-shared : {f : Object → Object} → IsQuiet f → KeepsShared f
quiet-shared quiet o is = quiet.shared o ∙ is

-- The program's moves as well. Registers and letters change. A live object is rewritten, except for
-- its places, or a place of it is. A new object is made, if P holds of the node. A message that may
-- carry references is sent to one node.
pub record Moves (P : LocalState → Type 0) (R : Steps) : Type 0 where
  pub collects : Collects R
  pub roots : (p : LocalState) (registers : List (Option Ref)) (letters : List Letter)
      → R p (at_rest (record p {
        heap = record p.heap { registers = registers; letters = letters };
      }))
  pub rewrites : (p : LocalState) (r : Ref) (f : Object → Object) → IsQuiet f
      → R p (at_rest (record p { heap = with_rewritten p.heap r f }))
  pub places : (p : LocalState) (r : Ref) (place : ℕ) (v : Option Ref)
      → R p (at_rest (record p { heap = with_place p.own p.heap r place v }))
  pub makes : (p : LocalState) (register places : ℕ) → P p
      → R p (at_rest (record p {
        heap = alloc_heap p.own (not p.shape.wide) p.phases.cycle p.heap register places;
      }))
  pub gives : (to : ℕ) (b : Body) (p : LocalState) → is_reference b ≡ true → R p (post to b p)

-- how objects are freed
pub record Frees (R : Steps) : Type 0 where
  pub sweeps : (p : LocalState) (count : ℕ) → R p (sweep p count)
  pub reclaims : (p : LocalState) (scope : Scope)
      → R p (at_rest (record p { heap = reclaimed scope p.own p.heap }))

-- both
pub record Walks (P : LocalState → Type 0) (R : Steps) : Type 0 where
  pub moves : Moves P R
  pub frees : Frees R

-- ---- the collector

module _ {R : Steps} (c : Collects R) where
  pub join-walks : (p : LocalState) (cycle : ℕ) → p.phases.cycle < cycle → R p (join p cycle)
  unfolding join enter
  join-walks p cycle later =
      c.both p (at_rest (enter p cycle)) (see_to true (filled (roots p.heap)))
      (c.enters p cycle later)
      (c.sees true (filled (roots p.heap)) (enter p cycle))

  pub joined-walks : (p : LocalState) (stamp : ℕ) → R p (joined p stamp)
  joined-walks p stamp =
      cond_both (ltb p.phases.cycle stamp) (join p stamp) (at_rest p) (R p)
      (λ later. join-walks p stamp (ltb-true p.phases.cycle stamp later)) (λ _. c.rest p)

  pub carried-walks : (stamp : ℕ) (b : Body) (p : LocalState) → R p (take_carried stamp b p)
  carried-walks stamp b p = c.sees (ltb stamp p.phases.cycle) (carried b) p

  -- what a message of the collector asks for
  pub quiet-walks : (from stamp : ℕ) (b : Body) (p : LocalState) → is_reference b ≡ false
      → R p (take_body from stamp b p)
  unfolding take_body
  quiet-walks from stamp body.Begin p quiet = c.rest p
  quiet-walks from stamp (body.Token token) p quiet = c.rings p _
  quiet-walks from stamp (body.Mark target) p quiet = c.sees true (target ∷ []) p
  quiet-walks from stamp body.Ended p quiet = c.ends p
  quiet-walks from stamp body.Swept p quiet = c.hears p _
  quiet-walks from stamp b p quiet = absurd cc

  -- a message is sent once the ring has changed
  ringed-walks : (p : LocalState) (r : Ring) (to : ℕ) (b : Body) → is_idle b ≡ true
      → R p (append to b (record p { ring = r }))
  ringed-walks p r to b quiet =
      c.both p (at_rest (record p { ring = r })) (append to b) (c.rings p r)
      (c.sends to b (record p { ring = r }) quiet)

  probe-walks : (p : LocalState) → R p (probe p)
  unfolding probe
  probe-walks p = ringed-walks p (whitened p.ring) _ (body.Token new_token) refl

  pub begun-walks : (p : LocalState) → R p (work_in (begun p))
  unfolding begun
  begun-walks p =
      let first : Work = join p (p.phases.cycle + 1) in
      c.both p (then first probe) (announce body.Begin)
      (c.both p first probe (join-walks p (p.phases.cycle + 1) (omega arith))
      (probe-walks first.local))
      (c.tells body.Begin (then first probe).local refl)

  pub scanned-walks : (p : LocalState) → R p (work_in (scanned p))
  unfolding scanned scan
  scanned-walks p =
      let q : LocalState = record p { heap = without_last_grey p.heap } in
      let rs : List Ref = filled (places_in (slot_at p.heap (last_grey p.heap))) in
      c.both p (at_rest q) (see_to true rs) (c.scans p) (c.sees true rs q)

  pub passed-walks : (p : LocalState) → R p (work_in (passed p))
  unfolding passed conclude
  passed-walks p =
      let q : LocalState = record p { ring = without_token p.ring } in
      let e : LocalState = record q { phases = record q.phases { ended = q.phases.cycle } } in
      cond_both (p.own == 0) (judged p) (handed_on p) (λ (x : Effect). R p (work_in x))
      (λ _.
      cond_both (is_concluded p.ring)
      (answers (conclude p) (answer.Ended p.phases.cycle))
      (answers (probe q) answer.ProbeAgain)
      (λ (x : Effect). R p (work_in x))
      (λ _.
      c.both p (at_rest e) (announce body.Ended)
      (c.both p (at_rest q) (λ _. at_rest e) (c.rings p (without_token p.ring)) (c.ends q))
      (c.tells body.Ended e refl))
      (λ _. c.both p (at_rest q) probe (c.rings p (without_token p.ring)) (probe-walks q)))
      (λ _.
      ringed-walks p (whitened (without_token p.ring)) _ (body.Token (forwarded p.ring)) refl)

-- ---- a letter is taken: only registers and letters change

pub taken-roots : (n : ℕ) (h : Heap) (register : ℕ)
    → letters_taken n h register ≡ record h {
      registers = (letters_taken n h register).registers;
      letters = (letters_taken n h register).letters;
    }
taken-roots zero h register = refl
taken-roots (suc n) h register = taken-roots n (letter_taken h register) (suc register)

-- ---- every event of the node's own, and every message before it counts

module _ {P : LocalState → Type 0} {R : Steps} (s : Moves P R) where
  body-walks : (from stamp : ℕ) (b : Body) (p : LocalState) → R p (take_body from stamp b p)
  unfolding take_body
  body-walks from stamp (body.Give label reference) p = s.roots p _ _
  body-walks from stamp (body.Put target place reference) p = s.places p target place reference
  body-walks from stamp (body.Get target place label) p =
      let rs : List Ref = option_to_list (place_of (object_at p.heap target) place) in
      s.collects.both p (see_to true rs p) (post from _) (s.collects.sees true rs p)
      (s.gives from _ (see_to true rs p).local refl)
  body-walks from stamp (body.Post label references bytes) p = s.roots p _ _
  body-walks from stamp (body.Fetch target label offset count) p = s.gives from _ p refl
  body-walks from stamp b p = quiet-walks s.collects from stamp b p refl

  pub taken-moves : (p : LocalState) (from stamp : ℕ) (b : Body)
      → R p (then (joined p stamp) (λ q. then (take_carried stamp b q) (take_body from stamp b)))
  taken-moves p from stamp b =
      let q : LocalState = (joined p stamp).local in
      s.collects.both p (joined p stamp)
      (λ z. then (take_carried stamp b z) (take_body from stamp b))
      (joined-walks s.collects p stamp)
      (s.collects.both q (take_carried stamp b q) (take_body from stamp b)
      (carried-walks s.collects stamp b q)
      (body-walks from stamp b (take_carried stamp b q).local))

  -- what is taken from the event: the collector's work, what it rewrites, what it sends, and how
  -- it frees
  abbrev IsWritten : Write → Type 0
  IsWritten (Rewrites r f) = IsQuiet f
  IsWritten (Reclaims scope) = Frees R
  IsWritten w = Unit {0}

  abbrev IsWalked : LocalState → Deed → Type 0
  IsWalked p (Writes w a) = IsWritten w
  IsWalked p (Sends to b) = is_reference b ≡ true
  IsWalked p (Takes x) = R p (work_in x)
  IsWalked p d = Unit {0}

  written-walks : (p : LocalState) (w : Write) → IsWritten w → P p
      → R p (at_rest (record p { heap = written p w }))
  written-walks p (Sets register v) taken ready = s.roots p _ p.heap.letters
  written-walks p (Accepts register) taken ready =
      subst (λ (h : Heap). R p (at_rest (record p { heap = h })))
      (sym (taken-roots (suc (oldest_letter p.heap).more) p.heap register))
      (s.roots p _ _)
  written-walks p (Rewrites r f) taken ready = s.rewrites p r f taken
  written-walks p (Places r place v) taken ready = s.places p r place v
  written-walks p (Makes register places) taken ready = s.makes p register places ready
  written-walks p (Reclaims scope) taken ready = taken.reclaims p scope

  deed-walks : (p : LocalState) (counts : List ℕ) (d : Deed) → IsWalked p d → P p
      → R p (work_in (carry p counts d))
  deed-walks p counts (Reads a) taken ready = s.collects.rest p
  deed-walks p counts (Writes w a) taken ready = written-walks p w taken ready
  deed-walks p counts (Loads register v) taken ready =
      let w : Work = see_to true (option_to_list v) p in
      s.collects.both p w (with_loaded register v) (s.collects.sees true (option_to_list v) p)
      (s.roots w.local _ w.local.heap.letters)
  deed-walks p counts (Sends to b) taken ready = s.gives to b p taken
  deed-walks p counts (Takes x) taken ready = taken

  pub own-moves : (p : LocalState) (counts : List ℕ) (e : Event) → is_own e ≡ true
      → (frees e ≡ true → Frees R) → P p → R p (work_in (made p counts e))
  unfolding swept_slots
  own-moves p counts event.Begin own may ready = begun-walks s.collects p
  own-moves p counts event.Scan own may ready = scanned-walks s.collects p
  own-moves p counts event.Pass own may ready = passed-walks s.collects p
  own-moves p counts (event.Sweep count) own may ready = (may refl).sweeps p count
  own-moves p counts (event.Data d) own may ready = absurd cc
  own-moves p counts (event.Ack a) own may ready = absurd cc
  own-moves p counts (event.SetWord object word) own may ready =
      deed-walks p counts (rule p (event.SetWord object word)).deed
      (record { places = λ o. refl; shared = λ o. refl; age = λ o. refl }) ready
  own-moves p counts (event.SetBytes object bytes) own may ready =
      deed-walks p counts (rule p (event.SetBytes object bytes)).deed
      (record { places = λ o. refl; shared = λ o. refl; age = λ o. refl }) ready
  own-moves p counts (event.Patch object offset bytes) own may ready =
      deed-walks p counts (rule p (event.Patch object offset bytes)).deed
      (record { places = λ o. refl; shared = λ o. refl; age = λ o. refl }) ready
  own-moves p counts (event.Give to label register) own may ready =
      deed-walks p counts (rule p (event.Give to label register)).deed refl ready
  own-moves p counts (event.Post to label first count bytes) own may ready =
      deed-walks p counts (rule p (event.Post to label first count bytes)).deed refl ready
  own-moves p counts (event.Fetch object label offset count) own may ready =
      deed-walks p counts (rule p (event.Fetch object label offset count)).deed refl ready
  own-moves p counts (event.Put object place register) own may ready =
      deed-walks p counts (rule p (event.Put object place register)).deed refl ready
  own-moves p counts (event.Get object place label) own may ready =
      deed-walks p counts (rule p (event.Get object place label)).deed refl ready
  own-moves p counts (event.Reclaim scope) own may ready =
      deed-walks p counts (rule p (event.Reclaim scope)).deed (may refl) ready
  own-moves p counts e own may ready = deed-walks p counts (rule p e).deed tt ready

-- the same, however objects are freed
module _ {P : LocalState → Type 0} {R : Steps} (s : Walks P R) where
  pub own-walks : (p : LocalState) (counts : List ℕ) (e : Event) → is_own e ≡ true → P p
      → R p (work_in (made p counts e))
  own-walks p counts e own ready = own-moves s.moves p counts e own (λ _. s.frees) ready

  pub taken-walks : (p : LocalState) (from stamp : ℕ) (b : Body)
      → R p (then (joined p stamp) (λ q. then (take_carried stamp b q) (take_body from stamp b)))
  taken-walks p from stamp b = taken-moves s.moves p from stamp b

-- ---- a place is written

-- A relation that holds when an object is rewritten and stays shared also holds when a place is
-- written.
module _ {R : Steps} (c : Collects R)
    (rewrites : (p : LocalState) (r : Ref) (f : Object → Object) → KeepsShared f
    → R p (at_rest (record p { heap = with_rewritten p.heap r f }))) where
  pub place-walks : (p : LocalState) (r : Ref) (place : ℕ) (v : Option Ref)
      → R p (at_rest (record p { heap = with_place p.own p.heap r place v }))
  place-walks p r place v =
      let q : LocalState = record p { heap = noted_for p.own p.heap r v } in
      c.both p (at_rest q)
      (λ z. at_rest (record z { heap = with_rewritten z.heap r (placing place v) }))
      (noted-keeps (λ (h : Heap). R p (at_rest (record p { heap = h }))) p.own p.heap r v
      (λ z. rewrites p z remembering (λ o is. is)) (c.rest p))
      (rewrites q r (placing place v) (λ o is. is))

-- ---- a message that may carry references

-- A relation that holds when an object becomes shared and when a message is appended also holds
-- when a message shares what it carries.
module _ {R : Steps} (c : Collects R)
    (shares : (p : LocalState) (r : Ref)
    → R p (at_rest (record p { heap = with_rewritten p.heap r sharing }))) where
  pub share-walks : (p : LocalState) (rs : List Ref) → R p (share rs p)
  share-walks p [] = c.rest p
  share-walks p (r ∷ rs) =
      let h : Heap = cond (r.node == p.own) (with_rewritten p.heap r sharing) p.heap in
      c.both p (at_rest (record p { heap = h })) (share rs)
      (cond_both (r.node == p.own) (with_rewritten p.heap r sharing) p.heap
      (λ (z : Heap). R p (at_rest (record p { heap = z })))
      (λ _. shares p r) (λ _. c.rest p))
      (share-walks (record p { heap = h }) rs)

  pub post-walks : (to : ℕ) (b : Body) (p : LocalState)
      → R (share (carried b) p).local (append to b (share (carried b) p).local)
      → R p (post to b p)
  post-walks to b p sends =
      c.both p (share (carried b) p) (append to b) (share-walks p (carried b)) sends
