-- An errand: what an event does before anything else, all of it or nothing. The node joins a cycle,
-- unless it is in it or past it; it sees to references; and it does one thing more.
use Rattle.std.specs.Prelude.{◌≡◌, ℕ, ◌+◌, ◌≤◌, Bool, true, false, List, [], ◌∷◌, length, map, Result, OnOk, OnErr, IfErr}
use Rattle.std.specs.List.{AllByRecursion}
use Rattle.ids.specs.Limits.{Shaped}
use Rattle.ids.specs.declared.limits.TheConstants.{GREATEST_CYCLE, GREATEST_LETTER, GREATEST_PLACES}
use Rattle.ids.specs.declared.names.Ref.{Ref}
use Rattle.ids.specs.declared.refusal.Refusal.{Refusal}
use Rattle.msg.specs.declared.body.Body.TheVariants as body
use Rattle.msg.specs.declared.body.Message.{Message}
use Rattle.model.specs.State.{Heap, Ring, Phases, LocalState, slot_at}
use Rattle.heap.specs.Heap.{entries}
use Rattle.model.specs.Heaps.{with_letter, with_letters, simple_letter, letters_of}
use Rattle.model.specs.Effects.{Work, then}
use Rattle.model.specs.Collecting.{new_token, places_in, whitened}
use Rattle.model.specs.Counting.{balance_of, counted_up}
use Rattle.model.specs.References.{IfAny, IsWithin}
use Rattle.model.specs.Shading.{filled, joined, last_grey, see_to, without_last_grey}
use Rattle.model.specs.Steps.{fits}
use Rattle.model.specs.View.{NodeView, append_to, used}
use Rattle.model.specs.WellFormed.{IsOther}
use Rattle.remote_marks.specs.Asked.{IsRefused}
use Rattle.node.specs.Cycles.{begins}
use Rattle.node.specs.Invariant.{links_of}
use Rattle.node.specs.declared.node_core.errands.Extra.{Extra}
use Rattle.node.specs.declared.node_core.errands.Extra.TheVariants as extra

-- ---- the one thing more, by the parts of the node

-- before the references are seen to
abbrev pub listed : Extra → Heap → Heap
listed extra.Scanned h = without_last_grey h
listed x h = h

-- after that
abbrev pub with_extra : Extra → Heap → Heap
with_extra (extra.Letter from label reference) h =
    with_letter h (simple_letter from label reference)
with_extra (extra.Letters from label references bytes) h =
    with_letters h (letters_of from label references.now bytes.now)
with_extra x h = h

abbrev pub extra_ring : ℕ → Extra → Ring → Ring
extra_ring cycle (extra.Answer to label reference) r =
    counted_up (balance_of cycle cycle (body.Give label reference)) r
extra_ring cycle (extra.Report to label bytes) r =
    counted_up (balance_of cycle cycle (body.Post label [] bytes.now)) r
extra_ring cycle extra.Begins r = whitened r
extra_ring cycle x r = r

abbrev pub extra_sends : ℕ → ℕ → ℕ → Extra → List (ℕ × Message)
extra_sends own nodes cycle (extra.Answer to label reference) =
    (to, record { stamp = cycle; body = body.Give label reference }) ∷ []
extra_sends own nodes cycle (extra.Report to label bytes) =
    (to, record { stamp = cycle; body = body.Post label [] bytes.now }) ∷ []
extra_sends own nodes cycle extra.Begins = begins own nodes cycle new_token
extra_sends own nodes cycle x = []

abbrev pub is_nothing : Extra → Bool
is_nothing extra.Nothing = true
is_nothing x = false

-- how many letters it adds; one with several references counts once for each
abbrev pub letters_in : Extra → ℕ
letters_in (extra.Letter from label reference) = 1
letters_in (extra.Letters from label references bytes) = entries references.now
letters_in x = 0

-- the bytes of the letter that it adds
abbrev pub bytes_in : Extra → List ℕ
bytes_in (extra.Letters from label references bytes) = bytes.now
bytes_in x = []

-- the letter that it adds has no more references than an object may have places
abbrev pub HasFew : Extra → Type 0
HasFew (extra.Letters from label references bytes) = length references.now ≤ GREATEST_PLACES
HasFew x = Unit {0}

-- a link that it needs is there
abbrev pub HasEnds : ℕ → Extra → Type 0
HasEnds width (extra.Answer to label reference) = to + 1 ≤ width
HasEnds width (extra.Report to label bytes) = to + 1 ≤ width
HasEnds width extra.Begins = 1 ≤ width
HasEnds width x = Unit {0}

-- ---- on the node

abbrev pub extra_work : Extra → LocalState → Work
extra_work x p =
    record {
      local = record p {
        heap = with_extra x p.heap;
        ring = extra_ring p.phases.cycle x p.ring;
      };
      sends = extra_sends p.own p.shape.nodes p.phases.cycle x;
    }

abbrev pub unlisted : Extra → LocalState → LocalState
unlisted x p = record p { heap = listed x p.heap }

-- at a node that joins no cycle
unfoldable pub errand_here : Bool → List Ref → Extra → LocalState → Work
errand_here due rs x p = then (see_to due rs (unlisted x p)) (extra_work x)

unfoldable pub errand : ℕ → Bool → List Ref → Extra → LocalState → Work
errand cycle due rs x p = then (joined p cycle) (errand_here due rs x)

-- the errand of a scan
abbrev pub scan_errand : LocalState → Work
scan_errand p =
    let held = filled (places_in (slot_at p.heap (last_grey p.heap))) in
    errand p.phases.cycle true held extra.Scanned p

-- ---- what is required

-- What it adds or sends is to or from another node, and names what is within the shape. Only node 0
-- begins a cycle.
abbrev pub IsFit : Shaped → ℕ → Extra → Type 0
IsFit shape own (extra.Letter from label reference) =
    IsOther shape own from × IfAny (IsWithin shape) reference
IsFit shape own (extra.Letters from label references bytes) =
    IsOther shape own from
    × ((length references.now ≤ GREATEST_PLACES)
    × (AllByRecursion (IsWithin shape) (filled references.now) × (shape.wide ≡ true)))
IsFit shape own (extra.Answer to label reference) =
    IsOther shape own to × IfAny (IsWithin shape) reference
IsFit shape own (extra.Report to label bytes) =
    IsOther shape own to × ((shape.wide ≡ true) × (length bytes.now ≤ GREATEST_LETTER))
IsFit shape own extra.Begins = own ≡ 0
IsFit shape own x = Unit {0}

-- the cycle is the next one, and the node has swept its own
pub record MayJoin (cycle : ℕ) (p : Phases) : Type 0 where
  pub next : cycle ≡ p.cycle + 1
  pub swept : p.cycle ≤ p.swept
  pub within : cycle ≤ GREATEST_CYCLE

-- ---- the outcome

-- the node after this work, whose messages all got numbers
pub record IsRun (w : Work) (old new : NodeView) : Type 0 where
  pub fits : fits (map used old.links) w.sends ≡ true
  pub now : new ≡ record old { local = w.local; links = append_to old.links w.sends }

-- The outcome of a call for this work. It is refused if memory ran out or a message got no number,
-- and then nothing changes.
pub record Runs (result : Result (Unit {0}) Refusal) (w : Work) (old new : NodeView) : Type 0 where
  pub done : OnOk result (IsRun w old new)
  pub refused : IfErr result (IsRefused (links_of old) w.sends)
  pub unchanged : OnErr result (new ≡ old)
