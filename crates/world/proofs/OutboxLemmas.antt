-- The frames in a node's outboxes as they grow.
use Rattle.std.proofs.Common.{◌≡◌, ◌≢◌, ℕ, zero, suc, ◌+◌, ◌<◌, ◌≤◌, IsTrue, List, [], ◌∷◌, ◌++◌, length, map, get_or, set, Option, Some, None, slice_get, refl, ap, sym, subst, ◌∙◌, ⊎_elim, arith}
use Rattle.std.specs.Option.{option_map}
use Rattle.std.proofs.lemmas.List.{get_or-set_same, get_or-set_other, get_or_default, length_push, take-append-le, length-take}
use Rattle.std.proofs.lemmas.Bool.{cases_lt, cond-true}
use Rattle.std.proofs.Math.ListN.{get_or-map, get_or-eq_default}
use Rattle.std.proofs.Math.Seq.{take-length}
use borrow.Author.Count.{below_more}
use Rattle.msg.specs.Frames.{Plain}
use Rattle.frames.specs.Grammar.{Fits, spelling}
use Rattle.msg.specs.declared.body.Message.{Message}
use Rattle.model.specs.View.{Link, NodeView, no_link, link_to, is_other, used, message_of}
use Rattle.model.proofs.Lookups.{slice_get-left}
use Rattle.node.specs.Frames.{frame_of, numbered_frame}
use Rattle.world.specs.Outboxes.{OutboxView, no_outbox, released_frames, IsFrameOf, AreStaged, IsStaged, AreStagedTo, Releases, all_released}

slice_get_push : {X : Type 0} (xs : List X) (y : X) (k : ℕ) → length xs ≡ k
    → slice_get (xs ++ y ∷ []) k ≡ Some y
slice_get_push [] y zero h = refl
slice_get_push [] y (suc k) h = absurd (omega arith)
slice_get_push (x ∷ xs) y zero h = absurd (omega arith)
slice_get_push (x ∷ xs) y (suc k) h = slice_get_push xs y k (omega arith)

-- the bytes of a frame that was made from a message
spells_message : (own to place : ℕ) (m : Option Message) (p : Plain) (bytes : List ℕ)
    → Some p ≡ option_map (frame_of own to (place + 1)) m → Fits p × (bytes ≡ spelling p)
    → IsFrameOf own to place m (Some bytes)
spells_message own to place None p bytes e spelled = absurd cc
spells_message own to place (Some x) p bytes e spelled =
    let same : p ≡ frame_of own to (place + 1) x = cc in
    (subst Fits same spelled.0, spelled.1 ∙ ap spelling same)

-- one more frame
pub staged_more : {n : NodeView} {to : ℕ} {before after : List (List ℕ)} (p : Plain)
    (bytes : List ℕ) → IsTrue (is_other n.local to)
    → Some p ≡ numbered_frame n to (length after + 1) → Fits p × (bytes ≡ spelling p)
    → AreStaged n to before after → AreStaged n to before (after ++ bytes ∷ [])
staged_more {n = n} {to = to} {before = before} {after = after} p bytes other made spelled so_far =
    let own : ℕ = n.local.own in
    let message = λ (k : ℕ). message_of (link_to n to) (k + 1) in
    let here : IsFrameOf own to (length after) (message (length after)) (Some bytes) =
    spells_message own to (length after) _ p bytes (made ∙ cond-true _ _ _ other) spelled in
    record {
      kept = so_far.kept;
      old = take-append-le (length before) after _
          (omega (arith, ap length so_far.old, length-take (length before) after)) ∙ so_far.old;
      new = λ k above below.
          ⊎_elim
          (λ (less : k < length after). rw (slice_get-left after (bytes ∷ []) k less)
          (so_far.new k above less))
          (λ (past : length after ≤ k).
          let last : k ≡ length after = omega (arith, length_push after bytes) in
          rw (last, slice_get_push after bytes (length after) refl) here)
          (cases_lt k (length after));
    }

-- ---- the outboxes of a node, one to each node

-- the outbox at an index, whatever the default, has released what it had at first
pub read_released : (row : List OutboxView) (before : List (List (List ℕ))) (to : ℕ)
    (d : OutboxView) → to < length row → map released_frames row ≡ before
    → released_frames (get_or row to d) ≡ get_or before to []
read_released row before to d less same =
    ap released_frames (get_or_default row to d no_outbox less)
    ∙ sym (get_or-map released_frames row to no_outbox)
    ∙ ap (λ (z : List (List (List ℕ))). get_or z to []) same

pub row_staged : (n : NodeView) (before : List (List (List ℕ))) (row : List OutboxView) (to : ℕ)
    (new : OutboxView) → to < length row → IsStaged n to (get_or before to []) new.frames
    → AreStagedTo to n before row → AreStagedTo (to + 1) n before (set row to new)
row_staged n before row to new less here so_far =
    below_more (λ j. j ≢ n.local.own → IsStaged n j (get_or before j [])
    (get_or (set row to new) j no_outbox).frames) to
    (λ j below other.
    subst (λ (b : OutboxView). IsStaged n j (get_or before j []) b.frames)
    (sym (get_or-set_other row to j new no_outbox (λ e. absurd (omega arith))))
    (so_far j below other))
    (λ other. subst (λ (b : OutboxView). IsStaged n to (get_or before to []) b.frames)
    (sym (get_or-set_same row to new no_outbox less)) here)

-- a node has no outbox to itself
pub row_own : (n : NodeView) (before : List (List (List ℕ))) (row : List OutboxView) (to : ℕ)
    → to ≡ n.local.own → AreStagedTo to n before row → AreStagedTo (to + 1) n before row
row_own n before row to own so_far =
    below_more (λ j. j ≢ n.local.own → IsStaged n j (get_or before j [])
    (get_or row j no_outbox).frames) to so_far (λ other. absurd (other own))

-- past the last node of the space there are no messages and no frames
past-staged : (n : NodeView) (j : ℕ) (before after : List (List ℕ)) → length n.links ≤ j
    → before ≡ [] → after ≡ [] → IsStaged n j before after
past-staged n j before after past a b =
    let none : link_to n j ≡ no_link = get_or-eq_default n.links no_link past in
    rw (a, b) (record {
      frames = record {
        kept = omega (arith, ap (λ (l : Link). l.base) none);
        old = refl;
        new = λ k above below. absurd (omega arith);
      };
      all = omega (arith, ap used none);
    })

-- all outboxes are staged, and everything that they hold is released
pub row_releases : (n : NodeView) (before : List (List (List ℕ))) (row : List OutboxView)
    → length n.links ≡ length before → length row ≡ length before
    → AreStagedTo (length before) n before row
    → Releases n before (map released_frames (map all_released row))
row_releases n before row linked width staged j apart =
    let all : get_or (map released_frames (map all_released row)) j []
    ≡ (get_or row j no_outbox).frames =
    get_or-map released_frames (map all_released row) j no_outbox
    ∙ ap released_frames (get_or-map all_released row j no_outbox)
    ∙ take-length (get_or row j no_outbox).frames in
    subst (IsStaged n j (get_or before j [])) (sym all)
    (⊎_elim (λ less. staged j less apart)
    (λ past.
    past-staged n j _ _ (omega (arith, linked)) (get_or-eq_default before [] past)
    (ap (λ (b : OutboxView). b.frames) (get_or-eq_default row no_outbox (omega arith))))
    (cases_lt j (length before)))
