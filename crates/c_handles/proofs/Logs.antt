-- What becomes of a log.
use Rattle.std.proofs.Common.{◌≡◌, ℕ, zero, suc, ◌+◌, ◌%◌, ◌^◌, ◌≤◌, Bool, true, false, cond, List, [], ◌∷◌, ◌++◌, length, get_or, Option, Some, None, refl, ap, sym, ◌∙◌, subst, arith}
use Rattle.std.specs.Global.{Vec}
use Rattle.std.proofs.Common.{length-append}
use Rattle.std.proofs.Math.ListN.{get_or-map}
use Rattle.codec.specs.Formats.{Fits}
use Rattle.event_bytes.specs.Entries.{entry}
use Rattle.event_bytes.specs.Events.{entry_of}
use Rattle.model.specs.declared.event.Event.{Event}
use Rattle.std.proofs.Common.{replicate, drop, take}
use Rattle.std.specs.Prelude.{◌-◌}
use Rattle.std.proofs.lemmas.Bool.{true≢false}
use Rattle.std.proofs.lemmas.List.{take_all}
use Rattle.model.specs.State.{got_from}
use Rattle.model.specs.View.{NodeView, all_kept, kept_of, kept_view, link_to, no_link, used}
use Rattle.node.specs.Invariant.{IsNode}
use Rattle.node.specs.Keeping.{WholeNode}
use Rattle.node_store.specs.Logs.{IsDone, Logged}
use Rattle.node_store.proofs.Ends.{logged_more, logged_none}
use Rattle.c_handles.specs.declared.lone.images.Counts.{Counts}
use Rattle.image.specs.Logged.{IsAnyWholeOf}
use Rattle.image.specs.Wholes.{saved_whole}
use Rattle.c_handles.specs.Images.{Took, after_kept, counted, counts_below, counts_of, image_in, keeps, keeps_below, marked}
use Rattle.c_handles.specs.Logs.{AreSaved, IsBehind, KeepsLog, Led, LedIf, LogsFrom, begun, no_counts}
use Rattle.c_handles.specs.declared.lone.LoneNode.{LoneNode}
use Rattle.c_handles.proofs.Behind.{also, behind_all, behind_kept}

-- a log that isn't kept says nothing
pub if_none : {first m : NodeView} {others : Option (Vec Counts)} (logs : Bool)
    (log : Option (List ℕ)) → logs ≡ false → LedIf (cond logs log None) first m others
if_none true log off = absurd (true≢false off)
if_none false log off = λ bytes is. absurd cc

-- ---- an event

saved_still : (counts : Option (Vec Counts)) (n m : NodeView)
    → ((i : ℕ) → (link_to m i).kept ≡ (link_to n i).kept) → AreSaved counts n → AreSaved counts m
saved_still None n m same saved = tt
saved_still (Some counts) n m same saved = λ peer. omega (arith, same peer, saved peer)

-- one more event
pub led_more : {first n m : NodeView} {counts : Option (Vec Counts)} {bytes : List ℕ} (e : Event)
    → Fits entry (entry_of e) → IsDone n e m → Led bytes first n counts
    → Led (bytes ++ entry.spell (entry_of e)) first m counts
led_more {n = n} {m = m} {counts = counts} e fits event was =
    let next = also n m was.last e event.answer was.behind event.acts in
    let done : IsDone was.last e next.after =
    record { answer = event.answer; acts = next.acts; now = event.now } in
    record {
      last = next.after;
      logged = logged_more e fits done was.logged;
      behind = next.behind;
      saved = saved_still counts was.last next.after next.kept was.saved;
    }

-- ---- more counts as saved

keeps_behind : (counts : List Counts) (k : ℕ) (n : WholeNode) (last : NodeView)
    → ((peer : ℕ) → (get_or counts peer no_counts).sent ≤ (link_to last peer).kept)
    → IsBehind n.core last → IsBehind (keeps_below counts k n).core last
keeps_behind counts zero n last saved behind = behind
keeps_behind counts (suc peer) n last saved behind =
    behind_kept (keeps_below counts peer n).core last peer (get_or counts peer no_counts).sent
    (get_or counts peer no_counts).received (saved peer)
    (keeps_behind counts peer n last saved behind)

pub kept_logs : (n : LoneNode) (counts : Option (Vec Counts)) (same : Bool) → n.counts ≡ counts
    → KeepsLog n (after_kept counts same n)
unfolding keeps
kept_logs n None same is = λ first led. led
kept_logs n (Some counts) false is = λ first led. led
kept_logs n (Some counts) true is = λ first led bytes log. kept_led (led bytes log)
  where
    kept_led : {bytes : List ℕ} {first : NodeView} → Led bytes first n.node.core n.counts
        → Led bytes first (keeps counts.items n.node).core n.counts
    kept_led was = record {
      last = was.last;
      logged = was.logged;
      behind = keeps_behind counts.items (length n.node.core.links) n.node was.last
          (subst (λ c. AreSaved c was.last) is was.saved) was.behind;
      saved = was.saved;
    }

-- ---- a log that begins

-- the element that is appended, if that is the one
at_push_if : {A : Type 0} (P : A → Type 0) (xs : List A) (k : ℕ) (x d : A) → (k ≡ length xs → P x)
    → P d → P (get_or xs k d) → P (get_or (xs ++ x ∷ []) k d)
at_push_if P [] zero x d p q h = p refl
at_push_if P [] (suc k) x d p q h = q
at_push_if P (a ∷ xs) zero x d p q h = h
at_push_if P (a ∷ xs) (suc k) x d p q h = at_push_if P xs k x d (λ e. p (ap suc e)) q h

pub counts-length : (n : NodeView) (k : ℕ) → length (counts_below n k) ≡ k
counts-length n zero = refl
counts-length n (suc k) =
    omega (
      arith,
      length-append (counts_below n k) (counted n k ∷ []),
      counts-length n k,
    )

sent-at : (n : NodeView) (k peer : ℕ)
    → (get_or (counts_below n k) peer no_counts).sent ≤ used (link_to n peer)
sent-at n zero peer = omega arith
sent-at n (suc k) peer =
    at_push_if (λ (c : Counts). c.sent ≤ used (link_to n peer)) (counts_below n k) peer
    (counted n k) no_counts
    (λ is.
    let here : peer ≡ k = is ∙ counts-length n k in
    subst (λ j. used (link_to n k) ≤ used (link_to n j)) (sym here) (omega arith))
    (omega arith) (sent-at n k peer)

received-at : (n : NodeView) (k peer : ℕ)
    → (get_or (counts_below n k) peer no_counts).received ≤ got_from n.local peer
received-at n zero peer = omega arith
received-at n (suc k) peer =
    at_push_if (λ (c : Counts). c.received ≤ got_from n.local peer) (counts_below n k) peer
    (counted n k) no_counts
    (λ is.
    let here : peer ≡ k = is ∙ counts-length n k in
    subst (λ j. got_from n.local k ≤ got_from n.local j) (sym here) (omega arith))
    (omega arith) (received-at n k peer)

-- of what was received, no more is counted
pub counts_received : (n : NodeView) (counts : List Counts) → counts ≡ counts_of n → (peer : ℕ)
    → (get_or counts peer no_counts).received ≤ got_from n.local peer
unfolding counts_of
counts_received n counts is peer =
    subst (λ (l : List Counts). (get_or l peer no_counts).received ≤ got_from n.local peer)
    (sym is) (received-at n (length n.links) peer)

pub counts_saved : (n : NodeView) (counts : List Counts) → counts ≡ counts_of n → (peer : ℕ)
    → (get_or counts peer no_counts).sent ≤ (link_to (kept_view n) peer).kept
unfolding counts_of
counts_saved n counts is peer =
    subst
    (λ (l : List Counts). (get_or l peer no_counts).sent ≤ (link_to (kept_view n) peer).kept)
    (sym is)
    (omega (
      arith,
      sent-at n (length n.links) peer,
      ap kept_of (get_or-map all_kept n.links peer no_link),
    ))

some_one : {x y : List ℕ} → ◌≡◌ {A = Option (List ℕ)} (Some x) (Some y) → x ≡ y
some_one both = cc both

-- a log begins at a node, once an image or a batch of it was taken
pub begun_led : (n : NodeView) (counts : Vec Counts) → counts.items ≡ counts_of n
    → ((i : ℕ) → (link_to n i).kept ≤ used (link_to n i))
    → LedIf (Some []) (kept_view n) n (Some counts)
begun_led n counts is within bytes log = record {
  last = kept_view n;
  logged = subst (λ l. Logged l (kept_view n) (kept_view n)) (some_one log)
      (logged_none (kept_view n));
  behind = behind_all n within;
  saved = counts_saved n counts.items is;
}

pub begun_if : (logs : Bool) (n : NodeView) (counts : Vec Counts) → counts.items ≡ counts_of n
    → ((i : ℕ) → (link_to n i).kept ≤ used (link_to n i))
    → LedIf (cond logs (begun logs) None) (kept_view n) n (Some counts)
begun_if true n counts is within = begun_led n counts is within
begun_if false n counts is within = λ bytes log. absurd cc

-- a log begins at a node that was taken back
pub fresh_led : (n : NodeView) → LedIf (Some []) n n None
fresh_led n bytes log = record {
  last = n;
  logged = subst (λ l. Logged l n n) (some_one log) (logged_none n);
  behind = record { same = refl; less = λ i. omega arith };
  saved = tt;
}

-- ---- images

-- what follows the zeros
pub behind_zeros : (bytes image : List ℕ) → bytes ≡ replicate 8 0 ++ image
    → take (length bytes - 8) (drop 8 bytes) ≡ image
behind_zeros bytes image is =
    let rest : drop 8 bytes ≡ image = ap (drop 8) is in
    let count : length image ≤ length bytes - 8 = omega (arith, ap length is) in
    ap (take (length bytes - 8)) rest ∙ take_all (length bytes - 8) image count

-- no more counts as saved than was sent
pub within_sent : (n : NodeView) → IsNode n → (i : ℕ) → (link_to n i).kept ≤ used (link_to n i)
within_sent n is i = (is.links.links.links i).kept

-- what is kept for the mark of an image
pub took : {old new : LoneNode} {mark : ℕ} (counts : Vec Counts)
    → counts.items ≡ counts_of old.node.core → IsNode old.node.core
    → IsAnyWholeOf (image_in old) (saved_whole old.node) → mark ≡ (old.mark + 1) % 2 ^ 64
    → new ≡ marked old counts mark (begun old.logs) → Took old new mark
took {old = old} counts counted is read next stays = record {
  counts = counts;
  counted = counted;
  stays = stays;
  next = next;
  read = read;
  logs = subst (LogsFrom (kept_view old.node.core)) (sym stays)
      (begun_if old.logs old.node.core counts counted (within_sent old.node.core is));
}
