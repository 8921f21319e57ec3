-- What has been printed before each iteration of the loop over a script's lines.
use Rattle.std.proofs.Common.{◌≡◌, ◌≢◌, ℕ, ◌+◌, ◌≤◌, max, List, [], ◌∷◌, ◌++◌, length, Option, refl, sym, ap, ◌∙◌, subst, arith, append_assoc, append-nil, length-append}
use Rattle.std.specs.Io.KnownBytes.{Appends, Keeps}
use Rattle.std.specs.Str.Lines.{lines}
use Rattle.std.proofs.KnownBytes.{Appends-nil, Appends-trans, Appends-kept}
use Rattle.std.proofs.lemmas.List.{nil_from_length}
use Rattle.commands.specs.declared.simulation.Reply.{Reply}
use Rattle.commands.specs.declared.simulation.Reply.TheVariants as reply
use Rattle.commands.specs.declared.simulation.State.{State}
use Rattle.commands.specs.declared.simulation.State.TheVariants as state
use Rattle.commands.specs.Script.{Held, awaited, ShowsHeld, TakesText, GoesOn, Replies, PrintsReply, PrintsReplies, printed, reply_text, status_after, status_of}

-- a reply after others
printed_push : (n : ℕ) (rs : List Reply) (r : Reply)
    → printed n (rs ++ r ∷ []) ≡ printed n rs ++ reply_text (n + length rs) r
printed_push n [] r = append-nil (reply_text n r) ∙ ap (λ k. reply_text k r) (omega arith)
printed_push n (x ∷ rs) r =
    let place : n + 1 + length rs ≡ n + length (x ∷ rs) = omega arith in
    ap (λ bs. reply_text n x ++ bs)
    (printed_push (n + 1) rs r ∙ ap (λ k. printed (n + 1) rs ++ reply_text k r) place)
    ∙ sym (append_assoc (reply_text n x) (printed (n + 1) rs) _)

status_of_push : (rs : List Reply) (r : Reply)
    → status_of (rs ++ r ∷ []) ≡ max (status_of rs) (status_after r)
status_of_push [] r = omega arith
status_of_push (x ∷ rs) r = omega (arith, status_of_push rs r)

-- no status is above 2
status_after_le : (r : Reply) → status_after r ≤ 2
status_after_le reply.Nothing = omega arith
status_after_le (reply.Outcome o) = omega arith
status_after_le (reply.Summary s) = omega arith
status_after_le (reply.Report freed) = omega arith
status_after_le (reply.Bytes text) = omega arith
status_after_le (reply.Refused e) = omega arith
status_after_le reply.NoCommand = omega arith

status_of_le : (rs : List Reply) → status_of rs ≤ 2
status_of_le [] = omega arith
status_of_le (r ∷ rs) = omega (arith, status_after_le r, status_of_le rs)

pub small_replies : (script : List ℕ) (status : ℕ) (old new : Option (List ℕ))
    → PrintsReplies script status old new → status ≤ 2
small_replies script status old new prints =
    omega (arith, prints.worst, status_of_le prints.replies)

-- A point of the loop over a script's lines: the remaining text, how many lines were processed, the
-- space, the status so far, and the contents of the output, if they are known.
pub record Point : Type 0 where
  pub rest : List ℕ
  pub count : ℕ
  pub state : State
  pub status : ℕ
  pub output : Option (List ℕ)

-- before an iteration: the replies to the lines processed so far, and the remaining text
pub record PrintedBefore (script : List ℕ) (start : Option (List ℕ)) (p : Point) : Type 0 where
  pub replies : List Reply
  pub counted : length replies ≡ p.count
  pub held : Held
  pub shown : ShowsHeld p.state held
  pub follow : (more : List Reply) → Replies held (lines p.rest) more
      → Replies awaited (lines script) (replies ++ more)
  pub worst : p.status ≡ status_of replies
  pub appended : Appends start p.output (printed 1 replies)

-- before the first line
pub printed_nothing : (script : List ℕ) (known : Option (List ℕ)) → PrintedBefore script known
    (record { rest = script; count = 0; state = state.Unopened; status = 0; output = known })
printed_nothing script known =
    record {
      replies = [];
      counted = refl;
      held = awaited;
      shown = tt;
      follow = λ more follows. follows;
      worst = refl;
      appended = Appends-nil known;
    }

-- a line that doesn't end the program
goes_on : (r : Reply) (rs : List Reply) (P : Type 0) → r ≢ reply.NoCommand → P → GoesOn r rs P
goes_on reply.NoCommand rs P goes p = absurd (goes refl)
goes_on reply.Nothing rs P goes p = p
goes_on (reply.Outcome o) rs P goes p = p
goes_on (reply.Summary s) rs P goes p = p
goes_on (reply.Report freed) rs P goes p = p
goes_on (reply.Bytes text) rs P goes p = p
goes_on (reply.Refused e) rs P goes p = p

ends_here : (r : Reply) → r ≡ reply.NoCommand → (P : Type 0) → GoesOn r [] P
ends_here r last P = subst (λ z. GoesOn z [] P) (sym last) refl

-- the reply by its status
last_reply : (r : Reply) → status_after r ≡ 2 → r ≡ reply.NoCommand
last_reply reply.NoCommand e = refl
last_reply reply.Nothing e = absurd cc
last_reply (reply.Outcome o) e = absurd cc
last_reply (reply.Summary s) e = absurd cc
last_reply (reply.Report freed) e = absurd cc
last_reply (reply.Bytes text) e = absurd cc
last_reply (reply.Refused x) e = absurd cc

no_last : (r : Reply) → status_after r ≢ 2 → r ≢ reply.NoCommand
no_last r other e = other (ap status_after e)

-- an iteration: the line and its reply
pub record Turn (p q : Point) : Type 0 where
  pub text : List ℕ
  pub status : ℕ
  pub step : lines p.rest ≡ text ∷ lines q.rest
  pub counts : q.count ≡ p.count + 1
  pub says : PrintsReply (λ h r later. TakesText h text r later) q.count
      p.state q.state p.output q.output status
  pub worse : q.status ≡ max p.status status

module _ (script : List ℕ) (start : Option (List ℕ)) (p q : Point)
    (before : PrintedBefore script start p) (turn : Turn p q) where
  abbrev reply_now : Reply
  reply_now = turn.says.reply

  abbrev replies_so_far : List Reply
  replies_so_far = before.replies ++ reply_now ∷ []

  appended_push : Appends start q.output (printed 1 replies_so_far)
  appended_push =
      let place : q.count ≡ 1 + length before.replies =
      omega (arith, before.counted, turn.counts) in
      let more : printed 1 before.replies ++ reply_text q.count reply_now
      ≡ printed 1 replies_so_far =
      ap (λ k. printed 1 before.replies ++ reply_text k reply_now) place
      ∙ sym (printed_push 1 before.replies reply_now) in
      subst (Appends start q.output) more
      (Appends-trans start p.output q.output (printed 1 before.replies)
      (reply_text q.count reply_now) before.appended turn.says.prints)

  worst_push : q.status ≡ status_of replies_so_far
  worst_push =
      turn.worse ∙ ap (max p.status) turn.says.is
      ∙ ap (λ k. max k (status_after reply_now)) before.worst
      ∙ sym (status_of_push before.replies reply_now)

  -- it doesn't end the program
  pub printed_more : turn.status ≢ 2 → PrintedBefore script start q
  printed_more other =
      let taken = turn.says.answers before.held before.shown in
      let goes = no_last reply_now (λ e. other (turn.says.is ∙ e)) in
      record {
        replies = replies_so_far;
        counted =
            let more = length-append before.replies (reply_now ∷ []) in
            omega (arith, before.counted, turn.counts, more);
        held = taken.0;
        shown = taken.2;
        follow = λ rs follows.
            subst (Replies awaited (lines script))
            (sym (append_assoc before.replies (reply_now ∷ []) rs))
            (before.follow (reply_now ∷ rs)
            (subst (λ ls. Replies before.held ls (reply_now ∷ rs)) (sym turn.step)
            (taken.0, taken.1, goes_on reply_now rs _ goes follows)));
        worst = worst_push;
        appended = appended_push;
      }

  -- it ends the program
  pub printed_last : turn.status ≡ 2 → PrintsReplies script q.status start q.output
  printed_last last =
      let taken = turn.says.answers before.held before.shown in
      let ends = last_reply reply_now (sym turn.says.is ∙ last) in
      record {
        replies = replies_so_far;
        follow = before.follow (reply_now ∷ [])
            (subst (λ ls. Replies before.held ls (reply_now ∷ [])) (sym turn.step)
            (taken.0, taken.1, ends_here reply_now ends (Replies taken.0 (lines q.rest) [])));
        worst = worst_push;
        appended = appended_push;
      }

-- no line is left
pub printed_all : (script : List ℕ) (start : Option (List ℕ)) (p : Point)
    → PrintedBefore script start p → length p.rest ≡ 0
    → PrintsReplies script p.status start p.output
printed_all script start p before none =
    record {
      replies = before.replies;
      follow = subst (Replies awaited (lines script)) (append-nil before.replies)
          (before.follow [] (subst (λ t. Replies before.held (lines t) [])
          (sym (nil_from_length p.rest none)) refl));
      worst = before.worst;
      appended = before.appended;
    }

-- a flush at the end
pub flushed_replies : (script : List ℕ) (status : ℕ) (old mid new : Option (List ℕ))
    → PrintsReplies script status old mid → Keeps mid new → PrintsReplies script status old new
flushed_replies script status old mid new prints kept = record {
  replies = prints.replies;
  follow = prints.follow;
  worst = prints.worst;
  appended = Appends-kept old mid new (printed 1 prints.replies) prints.appended kept;
}
