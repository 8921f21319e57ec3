-- What becomes of a node and its log by an event.
use Rattle.std.proofs.Common.{◌≡◌, ◌++◌, ◌∙◌, ℕ, Bool, true, false, cond, List, Option, None, Some, Result, Ok, Err, ap, inl, refl, subst, sym, ⊎_elim}
use Rattle.std.proofs.lemmas.Bool.{cases_Bool, true≢false}
use Rattle.codec.specs.Formats.{Fits}
use Rattle.ids.specs.declared.refusal.Refusal.{Refusal}
use Rattle.model.specs.Effects.{is_change}
use Rattle.model.specs.View.{NodeView}
use Rattle.model.specs.declared.event.Answer.{Answer}
use Rattle.model.specs.declared.event.Event.{Event}
use Rattle.model.specs.declared.event.Event.TheVariants as events
use Rattle.model.proofs.Leaving.{act-leaves}
use Rattle.model.proofs.Shown.{act-shown}
use Rattle.event_bytes.specs.Entries.{entry}
use Rattle.event_bytes.specs.Events.{entry_of}
use Rattle.node.specs.Keeping.{Handled, WholeNode, met}
use Rattle.node_log.specs.Noted.{Noted}
use Rattle.node_store.specs.Acting.{Acted, Acts, log_of}
use Rattle.node_store.specs.Logs.{IsDone, Logged}
use Rattle.node_store.specs.Noted.{IsLogged}
use Rattle.node_store.specs.declared.logged.LoggedNode.{LoggedNode}
use Rattle.node_store.proofs.Ends.{logged_more}
use Rattle.node_store.proofs.Quiet.{old-same, quiet-same}

-- ---- what the log leads from

-- What holds of a log's events and the node that they lead to, and still does after one more event,
-- holds after an event of the node.
module _ (R : List ℕ → NodeView → Type 0)
    (more : (bytes : List ℕ) (n m : NodeView) (e : Event) → Fits entry (entry_of e) → IsDone n e m
    → R bytes n → R (bytes ++ entry.spell (entry_of e)) m) where
  abbrev LeadsTo : LoggedNode → Type 0
  LeadsTo n = (bytes : List ℕ) → log_of n ≡ Some bytes → R bytes n.node.core

  same : (old new : LoggedNode) → new.logs ≡ old.logs → new.log ≡ old.log
      → new.node.core ≡ old.node.core → LeadsTo old → LeadsTo new
  same old new logs log node leads bytes is =
      subst (R bytes) (sym node)
      (leads bytes (sym (ap (λ (b : Bool). cond b new.log None) logs
      ∙ ap (λ (l : Option (List ℕ)). cond old.logs l None) log) ∙ is))

  pub leads_on : {old new : LoggedNode} {e : Event} (r : Result Answer Refusal)
      → Acted old new e r → LeadsTo old → LeadsTo new
  leads_on {old} {new} (Err f) acted leads =
      same old new acted.logs (acted.quiet refl) acted.acts.unchanged leads
  leads_on {old} {new} {e} (Ok a) acted leads =
      let now = old.node.core in
      let later = new.node.core in
      let meant = met old.node.early e in
      let performs = acted.acts.performs in
      ⊎_elim
      (λ is.
      ⊎_elim
      (λ noted bytes there.
      let found = noted.more bytes there in
      let done : IsDone now meant later = record { answer = a; acts = performs; now = is } in
      subst (λ l. R l later) (sym found.1.2)
      (more found.1.0 now later meant found.0 done (leads found.1.0 found.1.1)))
      (λ none.
      same old new acted.logs none.1 (old-same now later meant a performs none.0) leads)
      (acted.noted is))
      (λ is.
      same old new acted.logs (acted.quiet is) (quiet-same now later meant a performs is) leads)
      (cases_Bool (is_change a))

-- the log still leads from the same node
pub logged_on : {old new : LoggedNode} {e : Event} {r : Result Answer Refusal} → Acted old new e r
    → (first : NodeView) → IsLogged (log_of old) first old.node.core
    → IsLogged (log_of new) first new.node.core
logged_on {r = r} acted first =
    leads_on (λ bytes n. Logged bytes first n)
    (λ bytes n m e fits done is. logged_more e fits done is) r acted

-- ---- a scan by a node's own call

-- an event is noted if a log is kept
noted_if : (logs : Bool) {old new : Option (List ℕ)} {e : Event} → Noted old new e
    → Noted (cond logs old None) (cond logs new None) e
noted_if true noted = noted
noted_if false noted = record { more = λ bytes is. absurd cc }

acts_scanned : {old new : WholeNode} {a : Answer} → Handled old new events.Scan (Ok a)
    → Acts old new events.Scan (Ok a)
acts_scanned {old} {new} {a} h = record {
  performs = h.performed.performs;
  states = act-shown old.core new.core events.Scan (Ok a) h.performed.performs;
  unchanged = tt;
  leaves = act-leaves old.core new.core events.Scan (Ok a) h.performed;
  memory_free = h.memory_free;
  early = h.early;
  turn = λ differs. absurd (differs refl);
}

pub scan_noted : {old : LoggedNode} {node : WholeNode} {log : Option (List ℕ)} {a : Answer}
    → Handled old.node node events.Scan (Ok a) → is_change a ≡ true → Noted old.log log events.Scan
    → Acted old (record old { node = node; log = log }) events.Scan (Ok a)
scan_noted {old} handled counts noted = record {
  acts = acts_scanned handled;
  logs = refl;
  noted = λ is. inl (noted_if old.logs noted);
  quiet = λ is. absurd (true≢false (sym counts ∙ is));
}

pub scan_unkept : {old : LoggedNode} {node : WholeNode} {a : Answer}
    → Handled old.node node events.Scan (Ok a) → old.logs ≡ false
    → Acted old (record old { node = node }) events.Scan (Ok a)
scan_unkept {old} handled off = record {
  acts = acts_scanned handled;
  logs = refl;
  noted = λ is. inl (subst (λ (b : Bool).
      Noted (cond b old.log None) (cond b old.log None) events.Scan) (sym off)
      (record { more = λ bytes none. absurd cc }));
  quiet = λ is. refl;
}
