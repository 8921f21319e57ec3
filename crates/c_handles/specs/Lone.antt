-- A node whose caller moves its frames and stores its images: what the calls do.
use Rattle.std.specs.Prelude.{◌≡◌, ℕ, ◌<◌, ◌≤◌, Bool, true, false, cond, ◌==◌, ◌||◌, ◌⊎◌, nat_le, length, List, [], Option, Some, None, Result, Ok, Err, OnErr, slice_get}
use Rattle.ids.specs.Limits.{Shaped, IsShape}
use Rattle.ids.specs.declared.names.Ref.{Ref}
use Rattle.ids.specs.declared.refusal.Refusal.{Refusal}
use Rattle.ids.specs.declared.refusal.Refusal.TheVariants.{Memory, NoNode, BadFrame, BadImage}
use Rattle.msg.specs.Frames.{Plain, plain}
use Rattle.frames.specs.Decoding.{SpellLetter}
use Rattle.frames.specs.Grammar.{Fits, spelling}
use Rattle.msg.specs.declared.frame.Ack.{Ack}
use Rattle.msg.specs.declared.frame.Frame.{Frame}
use Rattle.msg.specs.declared.frame.Frame.TheVariants as frame
use Rattle.model.specs.State.{LocalState}
use Rattle.model.specs.View.{NodeView, link_to}
use Rattle.model.specs.declared.event.Answer.{Answer}
use Rattle.model.specs.declared.event.Event.{Event}
use Rattle.model.specs.declared.event.Event.TheVariants as event
use Rattle.node.specs.Keeping.{WholeNode, alone, new_whole}
use Rattle.node_store.specs.Acting.{Acts, has_changed}
use Rattle.image.specs.Nodes.{IsImageOf}
use Rattle.c_values.specs.declared.fault.Fault.{Fault}
use Rattle.c_values.specs.declared.fault.Fault.TheVariants as fault
use Rattle.c_values.specs.declared.fields.CFreed.{CFreed}
use Rattle.c_handles.specs.Gone.{HandsOut, IsUnlisted, list_after, tracking, untracked}
use Rattle.c_handles.specs.Logs.{KeepsLog}
use Rattle.c_handles.specs.declared.lone.LoneNode.{LoneNode}

-- ---- Making one

-- no image was taken, nothing is unsaved, and neither a log nor a list of what is gone is kept
abbrev pub lone : WholeNode → ℕ → LoneNode
lone n limit = record {
  node = n;
  limit = limit;
  mark = 0;
  counts = None;
  is_changed = false;
  is_unsaved = false;
  logs = false;
  log = Some [];
  is_kept = false;
  gone = untracked;
}

-- a new node, or the reason why there isn't one: the first that applies, and the only one if no
-- sizes are described
abbrev pub Made : Option Shaped → ℕ → ℕ → Result LoneNode Fault → Type 0
Made None own limit r = r ≡ Err fault.BadArgument
Made (Some sizes) own limit (Ok n) =
    IsShape sizes × (own < sizes.nodes) × (n ≡ lone (new_whole sizes own) limit)
Made (Some sizes) own limit (Err fault.BadArgument) = IsShape sizes → ⊥
Made (Some sizes) own limit (Err (fault.Refused NoNode)) = IsShape sizes × (sizes.nodes ≤ own)
Made (Some sizes) own limit (Err (fault.Refused Memory)) = IsShape sizes × (own < sizes.nodes)
Made (Some sizes) own limit (Err e) = ⊥

-- the node of an image, or the reason why there isn't one
abbrev pub Read : List ℕ → ℕ → Result LoneNode Fault → Type 0
Read bytes limit (Ok n) =
    IsImageOf bytes n.node.core × (n ≡ lone (alone n.node.core) limit)
Read bytes limit (Err (fault.Refused Memory)) = Unit {0}
Read bytes limit (Err (fault.Refused BadImage)) = (n : NodeView) → IsImageOf bytes n → ⊥
Read bytes limit (Err e) = ⊥

-- ---- Congestion

abbrev pub unacknowledged : NodeView → ℕ → ℕ
unacknowledged n to = length (link_to n to).unacknowledged

abbrev pub owner_of : Option (Option Ref) → Option ℕ
owner_of (Some (Some r)) = Some r.node
owner_of (Some None) = None
owner_of None = None

-- the node that the program's message would go to
abbrev pub receiver_of : LocalState → Event → Option ℕ
receiver_of p (event.Give to label register) = Some to
receiver_of p (event.Post to label first count bytes) = Some to
receiver_of p (event.Fetch object label offset count) =
    owner_of (slice_get p.heap.registers object)
receiver_of p (event.Put object place register) = owner_of (slice_get p.heap.registers object)
receiver_of p (event.Get object place label) = owner_of (slice_get p.heap.registers object)
receiver_of p e = None

abbrev pub is_full : ℕ → NodeView → Option ℕ → Bool
is_full limit n None = false
is_full limit n (Some to) = nat_le limit (unacknowledged n to)

-- the event sends a message of the program's, and as many on that link as the limit allows aren't
-- acknowledged
abbrev pub is_congested : LoneNode → Event → Bool
is_congested n e =
    cond (n.limit == 0) false (is_full n.limit n.node.core (receiver_of n.node.core.local e))

-- ---- Events

-- the node has changed, if that is so
abbrev pub marked_by : Bool → LoneNode → LoneNode
marked_by changed n = record n {
  is_changed = n.is_changed || changed;
  is_unsaved = n.is_unsaved || changed;
}

-- The event was given to the node, which is changed if the answer says so. The log, if there is
-- one, leads to the node still; or it is lost, but only by a change.
pub record Gave (old new : LoneNode) (e : Event) (r : Result Answer Refusal) : Type 0 where
  pub acts : Acts old.node new.node e r
  pub stays : new ≡ record old {
    node = new.node;
    is_changed = old.is_changed || has_changed r;
    is_unsaved = old.is_unsaved || has_changed r;
    log = new.log;
  }
  pub logs : KeepsLog old new
  pub quiet : has_changed r ≡ false → new.log ≡ old.log

-- the list of what is gone has what the event freed, after which this is the node
abbrev pub listed : LoneNode → NodeView → Event → LoneNode
listed old n e =
    record old { gone = list_after old.gone old.node.core.local n.local e }

-- there was no memory for the list
pub record Unlisted (old new : LoneNode) (e : Event) (f : Refusal) : Type 0 where
  pub unlisted : IsUnlisted old.gone old.node.core e f
  pub same : new ≡ old

-- The node was given the event, and what it freed is listed; or there was no memory for the list;
-- or the link is congested.
abbrev pub Given : Bool → LoneNode → LoneNode → Event → Result Answer Fault → Type 0
Given true old new e r = (new ≡ old) × (r ≡ Err fault.Congested)
Given false old new e (Ok a) = Gave (listed old new.node.core e) new e (Ok a)
Given false old new e (Err (fault.Refused f)) = Gave old new e (Err f) ⊎ Unlisted old new e f
Given false old new e (Err f) = ⊥

-- an event of the node's own
abbrev pub NodeActs : Event → LoneNode → LoneNode → Result Answer Fault → Type 0
NodeActs e old new r = Given (is_congested old e) old new e r

-- ---- Frames

-- an acknowledgement was given to the node; it changes no state
pub record Heard (old new : LoneNode) (a : Ack) (r : Result Answer Refusal) : Type 0 where
  pub acts : Acts old.node new.node (event.Ack a) r
  pub stays : new ≡ record old { node = new.node; log = new.log }
  pub logs : KeepsLog old new
  pub still : OnErr r (new.log ≡ old.log)

abbrev pub Acknowledged : LoneNode → LoneNode → Ack → Result Answer Fault → Type 0
Acknowledged old new a (Ok x) = Heard old new a (Ok x)
Acknowledged old new a (Err (fault.Refused f)) = Heard old new a (Err f)
Acknowledged old new a (Err f) = ⊥

abbrev pub Handled : Frame → LoneNode → LoneNode → Result Answer Fault → Type 0
Handled (frame.Data d) old new r = Given false old new (event.Data d) r
Handled (frame.Ack a) old new r = Acknowledged old new a r

-- the bytes spell this frame, and the node was given it
pub record TookFrame (bytes : List ℕ) (old new : LoneNode) (r : Result Answer Fault) : Type 0 where
  pub frame : Frame
  pub fits : Fits (plain frame)
  pub spelled : bytes ≡ spelling (plain frame)
  pub handled : Handled frame old new r

-- the bytes spell no frame
pub record NoFrame (bytes : List ℕ) (old new : LoneNode) (r : Result Answer Fault) : Type 0 where
  pub none : (f : Plain) → Fits f → bytes ≡ spelling f → ⊥
  pub refused : r ≡ Err (fault.Refused BadFrame)
  pub same : new ≡ old

-- the bytes spell a letter with references and bytes, for which there is no memory
pub record NoRoom (bytes : List ℕ) (old new : LoneNode) (r : Result Answer Fault) : Type 0 where
  pub letter : SpellLetter bytes
  pub refused : r ≡ Err (fault.Refused Memory)
  pub same : new ≡ old

abbrev pub TookIn : List ℕ → LoneNode → LoneNode → Result Answer Fault → Type 0
TookIn bytes old new r =
    TookFrame bytes old new r ⊎ (NoFrame bytes old new r ⊎ NoRoom bytes old new r)

-- ---- What is gone

-- a list is kept from now on, or none is
abbrev pub Tracks : Bool → LoneNode → LoneNode → Result (Unit {0}) Fault → Type 0
Tracks on old new r = (new ≡ record old { gone = tracking on old.gone }) × (r ≡ Ok tt)

-- what is ready of the list is handed out
pub record HandedOut (old new : LoneNode) (count : ℕ) (held now : List CFreed) : Type 0 where
  pub hands_out : HandsOut old.gone new.gone count held now
  pub stays : new ≡ record old { gone = new.gone }
