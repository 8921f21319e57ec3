-- How the calls end that give a node or a cell an event or a frame: a lemma for each way.
use Rattle.std.proofs.Common.{◌≡◌, ◌∙◌, Bool, true, false, Err, List, ℕ, Ok, OnErr, Result, ap, inl, refl, subst}
use Rattle.std.specs.Prelude.{◌||◌}
use Rattle.ids.specs.declared.refusal.Refusal.{Refusal}
use Rattle.model.specs.declared.event.Answer.{Answer}
use Rattle.model.specs.declared.event.Event.{Event}
use Rattle.model.specs.declared.event.Event.TheVariants as events
use Rattle.c_values.specs.declared.fault.Fault.{Fault}
use Rattle.frames.specs.Grammar.{Fits, spelling}
use Rattle.msg.specs.Frames.{plain}
use Rattle.msg.specs.declared.frame.Ack.{Ack}
use Rattle.msg.specs.declared.frame.Frame.{Frame}
use Rattle.node_store.specs.Acting.{Acted, has_changed}
use Rattle.node_store.specs.declared.logged.LoggedNode.{LoggedNode}
use Rattle.node_store.proofs.Noting.{leads_on}
use Rattle.c_handles.specs.Logs.{KeepsLog, Led}
use Rattle.c_handles.specs.Lone.{Gave, Handled, Heard, TookIn, marked_by}
use Rattle.c_handles.specs.declared.lone.LoneNode.{LoneNode}
use Rattle.c_handles.proofs.Logs.{led_more}

-- the node of a handle with its log, and the handle with another one
abbrev pub logged_of : LoneNode → LoggedNode
logged_of n = record { node = n.node; logs = n.logs; log = n.log }

abbrev pub with_logged : LoneNode → LoggedNode → LoneNode
with_logged n l = record n { node = l.node; logs = l.logs; log = l.log }

or-false : (b : Bool) → (b || false) ≡ b
or-false true = refl
or-false false = refl

unmarked : (n : LoneNode) → marked_by false n ≡ n
unmarked n =
    ap (λ (b : Bool). record n { is_changed = b; is_unsaved = n.is_unsaved || false })
    (or-false n.is_changed)
    ∙ ap (λ (b : Bool). record n { is_unsaved = b }) (or-false n.is_unsaved)

leads : (old : LoneNode) (logged : LoggedNode) {e : Event} {r : Result Answer Refusal}
    → Acted (logged_of old) logged e r → KeepsLog old (with_logged old logged)
leads old logged {r = r} acted first =
    leads_on (λ bytes n. Led bytes first n old.counts)
    (λ bytes n m e fits done led. led_more e fits done led) r acted

-- The node was given an event.
module _ {old : LoneNode} {logged : LoggedNode} where
  pub gave : {e : Event} (r : Result Answer Refusal) → Acted (logged_of old) logged e r
      → Gave old (marked_by (has_changed r) (with_logged old logged)) e r
  gave r acted = record {
    acts = acted.acts;
    stays = ap (λ (b : Bool). marked_by (has_changed r)
        (record old { node = logged.node; logs = b; log = logged.log })) acted.logs;
    logs = leads old logged acted;
    quiet = acted.quiet;
  }

  -- it refused the event
  pub gave_refusal : {e : Event} {f : Refusal} → Acted (logged_of old) logged e (Err f)
      → Gave old (with_logged old logged) e (Err f)
  gave_refusal {e} {f} acted =
      subst (λ n. Gave old n e (Err f)) (unmarked (with_logged old logged)) (gave (Err f) acted)

  -- the event was an acknowledgement
  pub heard : {ack : Ack} (r : Result Answer Refusal)
      → Acted (logged_of old) logged (events.Ack ack) r
      → Heard old (with_logged old logged) ack r
  heard r acted = record {
    acts = acted.acts;
    stays = ap (λ (b : Bool). record old { node = logged.node; logs = b; log = logged.log })
        acted.logs;
    logs = leads old logged acted;
    still = still r acted.quiet;
  }
    where
      still : (r : Result Answer Refusal)
          → (has_changed r ≡ false → logged.log ≡ old.log) → OnErr r (logged.log ≡ old.log)
      still (Ok a) quiet = tt
      still (Err f) quiet = quiet refl

-- bytes that spell a frame were taken in
pub took_frame : (f : Frame) {bytes : List ℕ} {old new : LoneNode} {r : Result Answer Fault}
    → Fits (plain f) × (bytes ≡ spelling (plain f)) → Handled f old new r → TookIn bytes old new r
took_frame f found handled =
    inl (record { frame = f; fits = found.0; spelled = found.1; handled = handled })
