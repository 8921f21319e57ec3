-- What the contract of each call says is enough: after it, worlds go on.
use Rattle.std.proofs.Common.{◌≡◌, ℕ, ◌<◌, ◌≤◌, ◌==◌, true, false, Bool, List, [], ◌∷◌, ◌++◌, length, take, drop, Option, Some, None, Result, Ok, Err, inl, ⊎_elim, refl, sym, ap, ◌∙◌, subst}
use Rattle.std.specs.Global.{Vec}
use Rattle.std.proofs.lemmas.Bool.{cond_both, eqb-true}
use Rattle.std.proofs.lemmas.List.{length-replicate}
use Rattle.ids.specs.Limits.{Shaped, IsShape}
use Rattle.ids.specs.declared.limits.TheConstants.{WINDOW}
use Rattle.ids.specs.declared.refusal.Refusal.TheVariants as refusal
use Rattle.disk_shelf.specs.Shelf.{record_of}
use Rattle.image_parts.specs.Logs.{begins_logged}
use Rattle.image.specs.Wholes.{saved_whole}
use Rattle.msg.specs.Frames.{Plain}
use Rattle.model.specs.Cuts.{Among}
use Rattle.model.specs.State.{LocalState, NodeState, node_at}
use Rattle.model.specs.View.{Link, NodeView, base_of, new_view, no_link}
use Rattle.model.proofs.Lookups.{get_or-replicate_any}
use Rattle.node_store.proofs.Stores.{any_of}
use Rattle.model.specs.World.{World, IsInNet, new_world, run}
use Rattle.model.proofs.NewNodes.{new-kept, new-shown}
use Rattle.node.specs.Keeping.{WholeNode, alone, new_whole}
use Rattle.node.proofs.Kept.{of-none}
use Rattle.msg.specs.Frames.{plain_data}
use Rattle.laws.specs.Carried.{IsCarried}
use Rattle.laws.proofs.Base.{all-base, new-inside}
use Rattle.laws.proofs.Invariant.{Base}
use Rattle.model.specs.Cuts.{cut}
use Rattle.laws.proofs.Carrying.{carried-whole}
use Rattle.c_values.specs.declared.fault.Fault.{Fault}
use Rattle.c_values.specs.declared.fault.Fault.TheVariants as fault
use Rattle.c_handles.specs.Batches.{BatchOr, GaveBatch, IsStored, Reopened, batch_of}
use Rattle.c_handles.specs.Gone.{GoneView, tracking}
use Rattle.c_handles.specs.Images.{Imaged, after_kept, image_in}
use Rattle.c_handles.specs.Logs.{KeepsLog, LogsFrom, logging}
use Rattle.c_handles.specs.Lone.{Made, Read, is_congested, lone}
use Rattle.c_handles.specs.declared.lone.images.Counts.{Counts}
use Rattle.c_handles.specs.declared.lone.LoneNode.{LoneNode}
use Rattle.c_handles.specs.Programs.{Becomes, Call, Choice, Deed, Does, Finds, Goes, Holds, IsShown, MayFind, Opening, Owes, Place, Stored, System, behind, gives, new_system, newest, place_after, place_of}
use Rattle.c_handles.specs.Programs.{Act, Take, Work, FrameAt, AckFor, Frames, TakeImage, TakeBatch, Keep, Release, Log, Track, Freed, Open, On, End, Store, New, FromImage, FromBatches, Nothing, Image, Lost, Meets, Opens, GoesOn, IsMadeOnce}
use Rattle.c_handles.proofs.Advances.{AreGiven, acts-advances, advances-not, advances-same, took-advances, works-advances}
use Rattle.c_handles.proofs.Acked.{AreAcked, none_yet}
use Rattle.c_handles.proofs.Says.{quietly, said_by}
use Rattle.c_handles.proofs.Calls.{IsCounted, IsOf, IsSound, Site, Stepped, ack-out, advances-stepped, ended-stepped, kept-stepped, opened-stepped, released-out, released-stepped, sound-node, stepped-not, stored-stepped, taken-stepped, window-out}
use Rattle.c_handles.proofs.Logs.{if_none}
use Rattle.c_handles.proofs.Saving.{Continues, at-front, continues-from, continues-none, found-carried, read-one, stored-alone, stored-quiet}
use Rattle.c_handles.proofs.Systems.{IsWorld, Leads, leads-by, leads-nowhere, leads-on, newest-among}

-- what is shown for each choice
abbrev pub AllShown : Shaped → System → Type 0
AllShown shape s = (c : Choice) → MayFind s c → (w : World) × IsShown shape s c w

-- what was written is at the front of a buffer
front-of : (bytes old new : List ℕ) (needed : ℕ)
    → (length bytes ≤ length old) × (new ≡ bytes ++ drop (length bytes) old)
    × (needed ≡ length bytes)
    → take needed new ≡ bytes
front-of bytes old new needed wrote =
    ap (take needed) wrote.1 ∙ at-front bytes (drop (length bytes) old) needed wrote.2

-- a buffer and the number that is needed, before and after a call
record Written : Type 0 where
  old : List ℕ
  new : List ℕ
  before : ℕ
  needed : ℕ

-- What is known of a node in a handle: it counts what it received on each of its links, and what is
-- newest of it is there to be found.
record Known (s : System) (i : ℕ) (n : LoneNode) : Type 0 where
  held : (s.places i).handle ≡ Some n
  wide : IsCounted n
  found : (image batches : List ℕ) → newest (s.places i) ≡ Image image batches
      → (first : WholeNode) × IsStored image batches first

-- What a call to keep an image or a batch does, whose mark is the last one or isn't.
record Keeping (s : System) (i mark : ℕ) (n m : LoneNode) (counts : Option (Vec Counts))
    (same : Bool) : Type 0 where
  held : (s.places i).handle ≡ Some n
  has : n.counts ≡ counts
  is : (mark == n.mark) ≡ same
  now : m ≡ after_kept counts same n
  logs : KeepsLog n m
  first : mark ≡ n.mark → (s.places i).taken ≡ []

module _ {shape : Shaped} {s : System} {i : ℕ} (site : Site shape s i) where
  abbrev p : Place
  p = s.places i

  -- a call that leaves the node as it was, and gives nothing out
  same-stepped : {n m : LoneNode} {t : System} → p.handle ≡ Some n → m ≡ n
      → Becomes s t i (record p { handle = Some m }) [] → Stepped shape s t quietly
  same-stepped {n} held same becomes =
      advances-stepped site held (advances-not same) becomes
      (λ w is h f never. absurd never)

  -- ---- images and batches

  image-stepped : {n : LoneNode} {t : System} (m : LoneNode) (w : Written) (r : Result ℕ Fault)
      → p.handle ≡ Some n → IsCounted n → Imaged n m r w.old w.new w.before w.needed
      → Becomes s t i (place_after (TakeImage r w.old w.new w.before w.needed) m p) []
      → Stepped shape s t quietly
  image-stepped {n} m w (Ok mark) held wide (took, wrote) becomes =
      let bytes : List ℕ = image_in n in
      let front : take w.needed w.new ≡ bytes = front-of bytes w.old w.new w.needed wrote in
      let stored : IsStored bytes [] (saved_whole n.node) =
      stored-alone bytes (saved_whole n.node) took.read in
      taken-stepped site (record {
        held = held;
        same = ap (λ (x : LoneNode). x.node) took.stays;
        are = took.counted;
        has = ap (λ (x : LoneNode). x.counts) took.stays;
        wide = wide;
      })
      (Image (take w.needed w.new) [])
      (subst (λ (l : List ℕ). IsStored l [] (saved_whole n.node)) (sym front) stored)
      (subst (λ (l : List ℕ). Continues (Image l []) m) (sym front)
      (continues-from m (saved_whole n.node) stored took.logs))
      becomes
  image-stepped m w (Err fault.ShortBuffer) held wide h becomes =
      same-stepped held h.0 becomes
  image-stepped m w (Err (fault.Refused e)) held wide h becomes =
      same-stepped held h.0 becomes
  image-stepped m w (Err e) held wide h becomes = absurd h

  batch-of : {n m : LoneNode} {mark : ℕ} {bytes : List ℕ} (e : Stored)
      → GaveBatch n m mark bytes → Continues e n
      → ((image batches : List ℕ) → e ≡ Image image batches
      → (first : WholeNode) × IsStored image batches first)
      → IsOf (behind e (record_of bytes)) n.node × Continues (behind e (record_of bytes)) m
  batch-of Nothing gave log found = (tt, tt)
  batch-of Lost gave log found = (tt, tt)
  batch-of {n} {m} {bytes = bytes} (Image image batches) gave log found =
      let more : List ℕ = batches ++ record_of bytes in
      cond_both (begins_logged image) (Image image more) Lost
      (λ (e : Stored). IsOf e n.node × Continues e m)
      (λ logged.
      let first = found image batches refl in
      let stored = gave.stored image batches first.0 logged first.1
      (log logged first.0 first.1) in
      (stored, continues-from m (saved_whole n.node) stored gave.logs))
      (λ _. (tt, tt))

  batch-stepped : {n : LoneNode} {t : System} (m : LoneNode) (w : Written) (r : Result ℕ Fault)
      (b : Option (List ℕ)) → Known s i n → BatchOr b n m r w.old w.new w.before w.needed
      → Becomes s t i (place_after (TakeBatch r w.old w.new w.before w.needed) m p) []
      → Stepped shape s t quietly
  batch-stepped {n} m w (Ok mark) (Some bytes) known (gave, wrote)
      becomes =
      let front : take w.needed w.new ≡ record_of bytes =
      front-of (record_of bytes) w.old w.new w.needed wrote in
      let both = batch-of (newest p) gave (sound-node site known.held).log known.found in
      taken-stepped site (record {
        held = known.held;
        same = ap (λ (x : LoneNode). x.node) gave.stays;
        are = gave.counted;
        has = ap (λ (x : LoneNode). x.counts) gave.stays;
        wide = known.wide;
      })
      (behind (newest p) (take w.needed w.new))
      (subst (λ (l : List ℕ). IsOf (behind (newest p) l) n.node) (sym front) both.0)
      (subst (λ (l : List ℕ). Continues (behind (newest p) l) m) (sym front) both.1)
      becomes
  batch-stepped m w (Err fault.ShortBuffer) (Some bytes) known h becomes =
      same-stepped known.held h.0 becomes
  batch-stepped m w (Err (fault.Refused refusal.Memory)) (Some bytes) known h becomes =
      same-stepped known.held h.0 becomes
  batch-stepped m w (Err (fault.Refused e)) (Some bytes) known h becomes = absurd h
  batch-stepped m w (Err e) (Some bytes) known h becomes = absurd h
  batch-stepped m w (Ok mark) None known h becomes = absurd (let never = h.0 in cc)
  batch-stepped m w (Err e) None known h becomes = same-stepped known.held h.1 becomes

  -- ---- what counts as saved

  keep-stepped : {mark : ℕ} {n m : LoneNode} {t : System} (counts : Option (Vec Counts))
      (same : Bool) → Keeping s i mark n m counts same
      → Becomes s t i (record p { handle = Some m }) [] → Stepped shape s t quietly
  keep-stepped None same k becomes = same-stepped k.held k.now becomes
  keep-stepped (Some counts) false k becomes = same-stepped k.held k.now becomes
  keep-stepped {mark} {n} (Some counts) true k becomes =
      kept-stepped site k.held (record {
        has = k.has;
        same = ap (λ (x : LoneNode). x.counts) k.now;
        now = ap (λ (x : LoneNode). x.node) k.now;
        logs = k.logs;
      }) (k.first (eqb-true mark n.mark k.is)) becomes

  -- ---- the log

  logging-keeps : (n : LoneNode) (on : Bool) → KeepsLog n (logging on n)
  logging-keeps n true =
      cond_both n.logs n (record n { logs = true; log = None }) (KeepsLog n)
      (λ _ first led. led) (λ _ first led bytes none. absurd cc)
  logging-keeps n false = λ first led bytes none. absurd cc

  logging-node : (n : LoneNode) (on : Bool) → (logging on n).node ≡ n.node
  logging-node n true =
      cond_both n.logs n (record n { logs = true; log = None }) (λ (m : LoneNode). m.node ≡ n.node)
      (λ _. refl) (λ _. refl)
  logging-node n false = refl

  logging-counts : (n : LoneNode) (on : Bool) → (logging on n).counts ≡ n.counts
  logging-counts n true =
      cond_both n.logs n (record n { logs = true; log = None })
      (λ (m : LoneNode). m.counts ≡ n.counts) (λ _. refl) (λ _. refl)
  logging-counts n false = refl

  log-stepped : {n m : LoneNode} {t : System} (on : Bool) → p.handle ≡ Some n → m ≡ logging on n
      → Becomes s t i (record p { handle = Some m }) [] → Stepped shape s t quietly
  log-stepped {n} {m} on held now becomes =
      advances-stepped site held
      (advances-same (ap (λ (x : LoneNode). x.node) now ∙ logging-node n on)
      (ap (λ (x : LoneNode). x.counts) now ∙ logging-counts n on)
      (subst (KeepsLog n) (sym now) (logging-keeps n on)))
      becomes (λ w is h f never. absurd never)

  -- only the list of what is gone changes
  gone-stepped : {n m : LoneNode} {t : System} (gone : GoneView) → p.handle ≡ Some n
      → m ≡ record n { gone = gone }
      → Becomes s t i (record p { handle = Some m }) [] → Stepped shape s t quietly
  gone-stepped {n} gone held now becomes =
      advances-stepped site held
      (advances-same (ap (λ (x : LoneNode). x.node) now) (ap (λ (x : LoneNode). x.counts) now)
      (subst (KeepsLog n) (sym now) (λ first led. led)))
      becomes (λ w is h f never. absurd never)

  -- ---- each call on a handle

  -- it gives out these frames, if it is answered
  gives-stepped : {n m : LoneNode} {given : List Plain} {t : System} → p.handle ≡ Some n → m ≡ n
      → ((w : World) → IsWorld shape s.frames w
      → IsCarried (node_at w.saved i) (node_at w.current i) n.node.core → (f : Plain)
      → Among f given → IsInNet w f)
      → Becomes s t i (record p { handle = Some m }) given → Stepped shape s t quietly
  gives-stepped held same out becomes =
      advances-stepped site held (advances-not same) becomes out

  deed-stepped : {n : LoneNode} {t : System} (m : LoneNode) (d : Deed) → Known s i n
      → Meets d n m → Becomes s t i (place_after d m p) (gives d n) → Owes shape s (On i d)
      → Stepped shape s t (said_by (On i d))
  deed-stepped {n} m (Act e r) known meets becomes owes =
      advances-stepped site known.held
      (acts-advances site.limits site.inside (is_congested n e) e r meets.0 meets.1) becomes
      (λ w is h f never. absurd never)
  deed-stepped m (Take bytes r) known meets becomes owes =
      advances-stepped site known.held
      (took-advances site.limits site.inside owes.of_space meets) becomes
      (λ w is h f never. absurd never)
  deed-stepped m (Work scans slots work r) known meets becomes owes =
      advances-stepped site known.held
      (works-advances site.limits site.inside scans slots work r meets) becomes
      (λ w is h f never. absurd never)
  deed-stepped {n} m (FrameAt to place (Ok u) old new before needed) known meets becomes owes =
      gives-stepped known.held meets.1 (λ w. released-out site n to place {w = w}) becomes
  deed-stepped m (FrameAt to place (Err e) old new before needed) known meets becomes owes =
      same-stepped known.held meets.1 becomes
  deed-stepped {n} m (AckFor from (Ok u) old new before needed) known meets becomes owes =
      gives-stepped known.held meets.1 (λ w. ack-out site n from {w = w}) becomes
  deed-stepped m (AckFor from (Err e) old new before needed) known meets becomes owes =
      same-stepped known.held meets.1 becomes
  deed-stepped {n} m (Frames to after (Ok count) old new before needed) known meets becomes owes =
      gives-stepped known.held meets.1 (λ w. window-out site n to WINDOW {w = w}) becomes
  deed-stepped m (Frames to after (Err e) old new before needed) known meets becomes owes =
      same-stepped known.held meets.1 becomes
  deed-stepped m (TakeImage r old new before needed) known meets becomes owes =
      image-stepped m
      (record { old = old; new = new; before = before; needed = needed }) r known.held known.wide
      meets becomes
  deed-stepped {n} m (TakeBatch r old new before needed) known meets becomes owes =
      batch-stepped m
      (record { old = old; new = new; before = before; needed = needed }) r (batch_of n) known meets
      becomes
  deed-stepped {n} m (Keep mark r) known meets becomes owes =
      keep-stepped {mark = mark} n.counts (mark == n.mark) (record {
        held = known.held;
        has = refl;
        is = refl;
        now = meets.0;
        logs = meets.2;
        first = owes.stored_first n known.held;
      }) becomes
  deed-stepped {t = t} m (Release r) known meets becomes owes =
      released-stepped site known.held known.wide
      (subst (λ (x : LoneNode).
      Becomes s t i (record { handle = Some x; stored = Lost; taken = [] }) []) meets.0 becomes)
  deed-stepped m (Log on r) known meets becomes owes = log-stepped on known.held meets.0 becomes
  deed-stepped {n} m (Track on r) known meets becomes owes =
      gone-stepped (tracking on n.gone) known.held meets.0 becomes
  deed-stepped m (Freed count old new) known meets becomes owes =
      gone-stepped m.gone known.held meets.stays becomes

  -- ---- openings

  alone-given : (n : WholeNode) → n ≡ alone n.core → AreGiven s.frames n.early
  alone-given n is =
      subst (AreGiven s.frames) (sym (ap (λ (x : WholeNode). x.early) is))
      (of-none (λ from d. Among (plain_data d) s.frames) n.core.local.shape.nodes)

  no-log : (n : LoneNode) → n.logs ≡ false → (first : NodeView) → LogsFrom first n
  no-log n off first = if_none n.logs n.log off

  -- the node of this number, of this shape
  made-stepped : {n : LoneNode} {t : System} (limit : ℕ) → n ≡ lone (new_whole shape i) limit
      → p.stored ≡ Nothing → p.handle ≡ None
      → Becomes s t i (record { handle = Some n; stored = p.stored; taken = [] }) []
      → Stepped shape s t quietly
  made-stepped {n} limit is nothing empty becomes =
      let same : n.node ≡ new_whole shape i = ap (λ (x : LoneNode). x.node) is in
      opened-stepped site empty
      (λ x found.
      subst (λ (y : WholeNode). IsCarried x x y.core) (sym same)
      (subst (λ (y : NodeState). IsCarried y y (new_view shape i))
      (sym (subst (λ (e : Stored). Finds shape i e x) nothing found))
      (carried-whole (new-kept shape i) (new-shown shape i))))
      (record {
        early = subst (λ (y : WholeNode). AreGiven s.frames y.early) (sym same)
            (of-none (λ from d. Among (plain_data d) s.frames) shape.nodes);
        acked = subst (λ (y : WholeNode). AreAcked s.frames y.core) (sym same) (record {
          each = λ j. none_yet (ap base_of (get_or-replicate_any {A = Link} shape.nodes j no_link));
          wide = length-replicate shape.nodes 0
              ∙ sym (length-replicate {A = Link} shape.nodes no_link);
        });
        log = continues-none p.stored n (no-log n (ap (λ (x : LoneNode). x.logs) is));
      })
      (ap (λ (x : LoneNode). x.counts) is) becomes

  read-stepped : {n : LoneNode} {t : System} (bytes : List ℕ) (limit : ℕ) → Read bytes limit (Ok n)
      → p.stored ≡ Image bytes [] → p.handle ≡ None
      → Becomes s t i (record { handle = Some n; stored = p.stored; taken = [] }) []
      → Stepped shape s t quietly
  read-stepped {n} bytes limit (image, is) stored empty becomes =
      let same : n.node ≡ alone n.node.core = ap (λ (x : LoneNode). x.node) is in
      opened-stepped site empty
      (λ x found.
      let node = subst (λ (e : Stored). Finds shape i e x) stored found in
      subst (λ (y : WholeNode). IsCarried x x y.core)
      (read-one bytes n.node.core node.node image node.stored)
      (carried-whole node.saved node.shows))
      (record {
        early = alone-given n.node same;
        acked = site.sound.stored i p.stored (inl refl) bytes [] (alone n.node.core) stored
            (stored-alone bytes (alone n.node.core)
            (any_of bytes (alone n.node.core) (image, refl)));
        log = continues-none p.stored n (no-log n (ap (λ (x : LoneNode). x.logs) is));
      })
      (ap (λ (x : LoneNode). x.counts) is) becomes

  reopened-stepped : {n : LoneNode} {t : System} (image batches : List ℕ) (limit : ℕ)
      → Reopened image batches limit (Ok n) → p.stored ≡ Image image batches → p.handle ≡ None
      → Becomes s t i (record { handle = Some n; stored = p.stored; taken = [] }) []
      → Stepped shape s t quietly
  reopened-stepped {n} image batches limit (of, is, logs) stored empty becomes =
      opened-stepped site empty
      (λ x found. found-carried (subst (λ (e : Stored). Finds shape i e x) stored found) of)
      (record {
        early = alone-given n.node (stored-quiet of);
        acked = site.sound.stored i p.stored (inl refl) image batches n.node stored of;
        log = subst (λ (e : Stored). Continues e n) (sym stored) (continues-from n n.node of logs);
      })
      (ap (λ (x : LoneNode). x.counts) is) becomes

  open-stepped : {n : LoneNode} {t : System} (how : Opening) (limit : ℕ) → Opens how limit (Ok n)
      → IsMadeOnce shape s (Open i how limit (Ok n)) → GoesOn s (Open i how limit (Ok n))
      → p.handle ≡ None
      → Becomes s t i (record { handle = Some n; stored = p.stored; taken = [] }) []
      → Stepped shape s t quietly
  open-stepped {n} (New sizes own) limit made once on empty becomes =
      let is = subst (λ (k : ℕ). Made (Some shape) k limit (Ok n)) once.1
      (subst (λ (z : Option Shaped). Made z own limit (Ok n)) once.0 made) in
      made-stepped limit is.2 once.2 empty becomes
  open-stepped (FromImage bytes) limit read once on empty becomes =
      read-stepped bytes limit read on empty becomes
  open-stepped (FromBatches image batches) limit reopened once on empty becomes =
      reopened-stepped image batches limit reopened on empty becomes

-- ---- each call

module _ {shape : Shaped} {s : System} (shown : AllShown shape s) where
  -- what is newest of a node is there to be found
  newest-found : (i : ℕ) → i < shape.nodes → (image batches : List ℕ)
      → newest (s.places i) ≡ Image image batches
      → (first : WholeNode) × IsStored image batches first
  newest-found i inside image batches same =
      let found = shown (λ k. newest (s.places k))
      (λ k. newest-among (s.places k).stored (s.places k).taken) in
      let node = subst (λ (e : Stored). Finds shape i e (node_at found.0.saved i)) same
      (found.1.each i inside).finds in
      (node.node, node.stored)

  -- a held node counts what it received on each of its links
  got-counted : (i : ℕ) → IsShape shape → i < shape.nodes → {n : LoneNode}
      → (s.places i).handle ≡ Some n → IsCounted n
  got-counted i within inside {n} held =
      let found = shown (λ k. newest (s.places k))
      (λ k. newest-among (s.places k).stored (s.places k).taken) in
      let w : World = found.0 in
      let carried : IsCarried (node_at w.saved i) (node_at w.current i) n.node.core =
      subst (λ (o : Option LoneNode). Holds o (node_at w.saved i) (node_at w.current i)) held
      (found.1.each i inside).holds in
      let base = subst (λ (v : World). Base shape (cut v (λ _. false))) (sym found.1.reached)
      (all-base shape within found.1.steps (λ _. false)) in
      ap (λ (q : LocalState). length q.got) carried.shows.local ∙ base.heard i inside
      ∙ sym (base.width i inside) ∙ sym carried.shows.width

  pub does-stepped : {t : System} → IsShape shape → IsSound s → (c : Call)
      → place_of c < shape.nodes → Does c s t → Owes shape s c → Stepped shape s t (said_by c)
  does-stepped within sound (Open i how limit (Ok n)) inside does owes =
      open-stepped (record { limits = within; inside = inside; sound = sound }) how limit does.0
      owes.made_once owes.goes_on owes.one_holder does.1
  does-stepped within sound (Open i how limit (Err f)) inside does owes = stepped-not does.1 sound
  does-stepped within sound (On i d) inside does owes =
      deed-stepped (record { limits = within; inside = inside; sound = sound }) does.new d
      (record {
        held = does.held;
        wide = got-counted i within inside does.held;
        found = newest-found i inside;
      })
      does.meets does.becomes owes
  does-stepped within sound (End i) inside does owes =
      ended-stepped (record { limits = within; inside = inside; sound = sound }) does
  does-stepped within sound (Store i e others) inside does owes =
      stored-stepped (record { limits = within; inside = inside; sound = sound })
      owes.in_order.0 owes.in_order.1 does

-- ---- all calls

pub shown-on : {shape : Shaped} {s t : System} → AllShown shape s
    → ((c : Choice) → MayFind t c → Leads shape s t c) → AllShown shape t
shown-on shown leads c may =
    let l = leads c may in
    let w = shown l.before l.may in
    let next = l.goes_on w.0 w.1 in
    (run w.0 next.0, next.1)

pub record Came (shape : Shaped) (s t : System) : Type 0 where
  pub sound : IsSound t
  pub shown : AllShown shape t
  pub leads : (c : Choice) → MayFind t c → Leads shape s t c

pub goes-came : {shape : Shaped} → IsShape shape → (calls : List Call) (s t : System) → IsSound s
    → AllShown shape s → Goes shape s calls t → Came shape s t
goes-came {shape} within [] s t sound shown same =
    subst (Came shape s) (sym same)
    (record { sound = sound; shown = shown; leads = leads-nowhere s })
goes-came within (c ∷ cs) s t sound shown (next, inside, does, owes, rest) =
    let one = does-stepped shown within sound c inside does owes in
    let leads = λ (c : Choice) (may : MayFind next c). leads-by (one.leads c may) in
    let end = goes-came within cs next t one.sound (shown-on shown leads) rest in
    record {
      sound = end.sound;
      shown = end.shown;
      leads = λ c may. leads-on leads (end.leads c may);
    }

-- at first
new-shown-system : (shape : Shaped) → AllShown shape new_system
new-shown-system shape c may = (
  new_world shape,
  record {
    steps = [];
    reached = refl;
    each = λ i inside. record {
      holds = refl;
      finds = (let nothing : c i ≡ Nothing =
          ⊎_elim {C = c i ≡ Nothing} (λ (x : c i ≡ Nothing). x) (λ never. absurd never) (may i) in
          subst (λ (e : Stored). Finds shape i e (node_at (new_world shape).saved i))
          (sym nothing) (new-inside shape (λ _. false) i inside));
      counts = λ same. tt;
    };
    frames = λ f never. absurd never;
  },
)

pub came : {shape : Shaped} → IsShape shape → (calls : List Call) (s : System)
    → Goes shape new_system calls s → Came shape new_system s
came {shape} within calls s goes =
    goes-came within calls new_system s (record {
      each = λ i. tt;
      stored = λ i e among image batches m is of.
          absurd
          (⊎_elim (λ (none : e ≡ Nothing). let both = sym none ∙ is in cc) (λ never. never) among);
    }) (new-shown-system shape) goes
