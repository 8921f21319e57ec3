-- What is stored of a node whose handle a program holds, and what counts as saved.
use Rattle.std.proofs.Common.{◌≡◌, ℕ, zero, suc, ◌≤◌, true, List, [], ◌∷◌, ◌++◌, length, take, get_or, Option, Some, refl, sym, ap, ◌∙◌, subst, arith}
use Rattle.std.proofs.Math.Nat.{le_trans}
use Rattle.std.specs.Global.{Vec}
use Rattle.std.proofs.lemmas.Simd.{map-map}
use Rattle.std.proofs.Math.Seq.{take-append_seam}
use Rattle.image_parts.specs.Logs.{begins_logged}
use Rattle.disk_shelf.specs.Logs.{LeadAll}
use Rattle.model.specs.State.{LocalState, NodeState, got_from, sent_to}
use Rattle.model.specs.View.{Link, NodeView, Shows, all_kept, kept_view}
use Rattle.node.specs.Keeping.{WholeNode, alone}
use Rattle.image.specs.Logged.{IsAnyWholeOf}
use Rattle.image.specs.Nodes.{IsImageOf}
use Rattle.image.specs.Wholes.{saved_whole}
use Rattle.node_store.proofs.Stores.{any_of}
use Rattle.node_store.specs.Values.{IsAlone, LeadsWhole}
use Rattle.laws.specs.Carried.{IsCarried}
use Rattle.laws.proofs.Carrying.{carried-kept_with, carried-whole, shows-kept}
use Rattle.c_handles.specs.Batches.{IsStored}
use Rattle.c_handles.specs.Images.{counts_of, keeps, keeps_below}
use Rattle.c_handles.specs.Logs.{LogsFrom, no_counts}
use Rattle.c_handles.specs.Programs.{AreIn, IsNodeOf, Stored, Nothing, Image, Lost}
use Rattle.c_handles.specs.declared.lone.images.Counts.{Counts}
use Rattle.c_handles.specs.declared.lone.LoneNode.{LoneNode}
use Rattle.c_handles.proofs.Batches.{stored_one}
use Rattle.c_handles.proofs.Logs.{counts_received, counts_saved}

-- ---- images

pub kept-twice : (n : NodeView) → kept_view (kept_view n) ≡ kept_view n
kept-twice n =
    ap (λ (ls : List Link). record { local = n.local; links = ls; acks = n.local.got })
    (map-map all_kept all_kept n.links)

-- an image with no batch behind it
pub stored-alone : (image : List ℕ) (n : WholeNode) → IsAnyWholeOf image n → IsStored image [] n
stored-alone image n read = record {
  first = n;
  read = read;
  plain = λ plain. refl;
  led = ([], refl, refl);
}

-- the node that was read of an image is the one that is stored
pub read-one : (image : List ℕ) (n : NodeView) (m : WholeNode) → IsImageOf image n
    → IsStored image [] m → m ≡ alone n
read-one image n m is stored =
    stored_one image [] m (alone n) stored
    (stored-alone image (alone n) (any_of image (alone n) (is, refl)))

-- what is stored of a node keeps no early messages
pub stored-quiet : {image batches : List ℕ} {n : WholeNode} → IsStored image batches n → IsAlone n
stored-quiet {n = n} h = by h.led.0 h.first h.read.1 h.led.2
  where
    by : (bs : List (List ℕ)) (now : WholeNode) → IsAlone now → LeadAll LeadsWhole bs now n
        → IsAlone n
    by [] now is led = subst IsAlone led is
    by (b ∷ bs) now is led = by bs led.0 led.1.1 led.2

-- an opening finds what was stored of a node that shows the state
pub found-saved : {image batches : List ℕ} {s : NodeState} (n : WholeNode) → Shows n.core s
    → IsStored image batches (saved_whole n) → IsNodeOf image batches s
found-saved {s = s} n shows stored = record {
  node = saved_whole n;
  stored = stored;
  shows = shows-kept n.core s shows;
  saved = kept-twice n.core;
}

-- and what it finds shows the state, with everything saved
pub found-carried : {image batches : List ℕ} {s : NodeState} {n : WholeNode}
    → IsNodeOf image batches s → IsStored image batches n → IsCarried s s n.core
found-carried {image} {batches} {s} {n} found stored =
    subst (λ (m : WholeNode). IsCarried s s m.core)
    (stored_one image batches found.node n found.stored stored)
    (carried-whole found.saved found.shows)

-- ---- what counts as saved with a mark

are-in : {s : NodeState} (n : NodeView) (counts : Vec Counts) → counts.items ≡ counts_of n
    → Shows (kept_view n) s → AreIn (Some counts) s
are-in {s} n counts is shows j =
    let carried : IsCarried s s (kept_view n) = carried-whole (kept-twice n) shows in
    let got = counts_received n counts.items is j in
    let local : got_from n.local j ≡ got_from s.local j =
    ap (λ (p : LocalState). got_from p j) shows.local in (
      le_trans (counts_saved n counts.items is j) (carried.sent j),
      omega (arith, got, local),
    )

-- the state that an image or a batch of the node was taken in has what its mark counts
pub taken-in : {n : NodeView} {s : NodeState} {o : Option (Vec Counts)} (counts : Vec Counts)
    → counts.items ≡ counts_of n → o ≡ Some counts → Shows n s → AreIn o s
taken-in {n} {s} counts is same shows =
    subst (λ (z : Option (Vec Counts)). AreIn z s) (sym same)
    (are-in n counts is (shows-kept n s shows))

-- and so has any state in which it is found
pub found-in : {image batches : List ℕ} {s : NodeState} {o : Option (Vec Counts)} (n : WholeNode)
    (counts : Vec Counts) → counts.items ≡ counts_of n.core → o ≡ Some counts
    → IsStored image batches (saved_whole n) → IsNodeOf image batches s → AreIn o s
found-in {image} {batches} {s} n counts is same stored found =
    subst (λ (z : Option (Vec Counts)). AreIn z s) (sym same)
    (are-in n.core counts is
    (subst (λ (m : WholeNode). Shows m.core s)
    (stored_one image batches found.node (saved_whole n) found.stored stored) found.shows))

keeps-carried : {saved current : NodeState} (counts : List Counts) (k : ℕ) (n : WholeNode)
    → ((j : ℕ) → ((get_or counts j no_counts).sent ≤ length (sent_to saved j))
    × ((get_or counts j no_counts).received ≤ got_from saved.local j))
    → IsCarried saved current n.core → IsCarried saved current (keeps_below counts k n).core
keeps-carried counts zero n are h = h
keeps-carried counts (suc peer) n are h =
    carried-kept_with peer (get_or counts peer no_counts).sent
    (get_or counts peer no_counts).received (are peer).0 (are peer).1
    (keeps-carried counts peer n are h)

pub kept-carried : {saved current : NodeState} (counts : Vec Counts) (n : WholeNode)
    → AreIn (Some counts) saved → IsCarried saved current n.core
    → IsCarried saved current (keeps counts.items n).core
unfolding keeps
kept-carried counts n are h = keeps-carried counts.items (length n.core.links) n are h

-- the early messages stay
keeps-early : (counts : List Counts) (k : ℕ) (n : WholeNode)
    → (keeps_below counts k n).early ≡ n.early
keeps-early counts zero n = refl
keeps-early counts (suc peer) n = keeps-early counts peer n

pub kept-early : (counts : List Counts) (n : WholeNode) → (keeps counts n).early ≡ n.early
unfolding keeps
kept-early counts n = keeps-early counts (length n.core.links) n

-- ---- the log

-- the log of a node, if there is one, leads from what is stored of it
abbrev pub Continues : Stored → LoneNode → Type 0
Continues Nothing n = Unit {0}
Continues (Image image batches) n =
    begins_logged image ≡ true → (first : WholeNode) → IsStored image batches first
    → LogsFrom first.core n
Continues Lost n = Unit {0}

pub continues-on : (e : Stored) (n m : LoneNode)
    → ((first : NodeView) → LogsFrom first n → LogsFrom first m) → Continues e n → Continues e m
continues-on Nothing n m keeps h = tt
continues-on (Image image batches) n m keeps h =
    λ logged first stored. keeps first.core (h logged first stored)
continues-on Lost n m keeps h = tt

-- it leads from the one node that is stored
pub continues-from : {image batches : List ℕ} (n : LoneNode) (first : WholeNode)
    → IsStored image batches first → LogsFrom first.core n → Continues (Image image batches) n
continues-from {image} {batches} n first stored logs = λ logged other also.
    subst (λ (m : WholeNode). LogsFrom m.core n)
    (stored_one image batches first other stored also) logs

-- no log is kept
pub continues-none : (e : Stored) (n : LoneNode) → ((first : NodeView) → LogsFrom first n)
    → Continues e n
continues-none Nothing n none = tt
continues-none (Image image batches) n none = λ logged first stored. none first.core
continues-none Lost n none = tt

-- ---- bytes at the front of a buffer

pub at-front : (bytes rest : List ℕ) (needed : ℕ) → needed ≡ length bytes
    → take needed (bytes ++ rest) ≡ bytes
at-front bytes rest needed is =
    ap (λ (k : ℕ). take k (bytes ++ rest)) is ∙ take-append_seam bytes rest
