-- How the calls end that give a node an event, if a list of what is gone may be kept.
use Rattle.std.proofs.Common.{◌≡◌, ◌∙◌, ◌&&◌, ◌++◌, ◌+◌, ◌≤◌, Bool, true, false, Err, List, ℕ, Ok, length, take, drop, ap, arith, inl, inr, refl, subst, sym}
use Rattle.std.specs.Prelude.{filter}
use Rattle.std.proofs.lemmas.Bool.{cond-false, cond-true}
use Rattle.std.proofs.lemmas.List.{length-append}
use Rattle.std.proofs.Math.Seq.{drop-append_seam, take-append_seam}
use Rattle.ids.specs.declared.refusal.Refusal.{Refusal}
use Rattle.model.specs.Effects.{is_change}
use Rattle.model.specs.View.{NodeView, view_act}
use Rattle.model.specs.declared.event.Answer.{Answer}
use Rattle.model.specs.declared.event.Event.{Event}
use Rattle.model.specs.declared.event.Event.TheVariants as event
use Rattle.node.specs.Keeping.{WholeNode, met}
use Rattle.node_store.specs.Acting.{Acted}
use Rattle.node_store.specs.declared.logged.LoggedNode.{LoggedNode}
use Rattle.node_store.specs.Logs.{is_turn}
use Rattle.node_store.proofs.Turns.{met_same}
use Rattle.c_values.specs.declared.fault.Fault.TheVariants as fault
use Rattle.c_values.specs.declared.fields.CFreed.{CFreed}
use Rattle.c_handles.specs.Candidates.{ActsListing, AreFreed, Expects, candidates, confirming, is_left_out}
use Rattle.model.specs.Steps.{frees}
use Rattle.c_handles.specs.Gone.{GoneView, IsUnlisted, gone, list_after, listing}
use Rattle.c_handles.specs.Lone.{Gave, Given, listed, marked_by}
use Rattle.c_handles.specs.declared.lone.LoneNode.{LoneNode}
use Rattle.c_handles.proofs.Exits.{gave, gave_refusal, logged_of, with_logged}
use Rattle.c_handles.proofs.Frees.{freed-all, listed-gone, memory-first}

frees_turn : (e : Event) → frees e ≡ true → is_turn e ≡ false
frees_turn (event.Next from) is = absurd cc
frees_turn e is = refl

-- ---- Giving the node an event that frees objects

-- the node that was looked at is this one
pub of_ok : (e : Event) (v : GoneView) {n m : NodeView} {w : GoneView} {before : ℕ} → n ≡ m
    → Expects n.local e v w (Ok before) → Expects m.local e v w (Ok before)
of_ok e v {w = w} {before = before} same =
    subst (λ (x : NodeView). Expects x.local e v w (Ok before)) same

pub of_err : (e : Event) {n m : NodeView} {v w : GoneView} {f : Refusal} → n ≡ m
    → Expects n.local e v w (Err f) → Expects m.local e v w (Err f)
of_err e {v = v} {w = w} {f = f} same =
    subst (λ (x : NodeView). Expects x.local e v w (Err f)) same

-- What the event may free was listed behind what is listed.
module _ (n : NodeView) (e : Event) (v : GoneView) {w : GoneView} {before : ℕ}
    (expects : Expects n.local e v w (Ok before)) where
  ahead : take before w.list ≡ v.list
  ahead =
      ap (λ (x : GoneView). take before x.list) expects.2
      ∙ ap (λ (i : ℕ). take i (v.list ++ candidates n.local e)) expects.0
      ∙ take-append_seam v.list (candidates n.local e)

  behind : drop before w.list ≡ candidates n.local e
  behind =
      ap (λ (x : GoneView). drop before x.list) expects.2
      ∙ ap (λ (i : ℕ). drop i (v.list ++ candidates n.local e)) expects.0
      ∙ drop-append_seam v.list (candidates n.local e)

  pub expects_bound : (w.covered ≤ before) × (before ≤ length w.list)
  expects_bound =
      let count = expects.0 in
      let grown : length w.list ≡ length v.list + length (candidates n.local e) =
      ap (λ (x : GoneView). length x.list) expects.2
      ∙ length-append v.list (candidates n.local e) in (
        subst (λ (x : GoneView). x.covered ≤ before) (sym expects.2) expects.1,
        omega (arith, count, grown),
      )

  pub withdrawn : record w { list = take before w.list } ≡ v
  withdrawn =
      ap (λ (es : List CFreed). record w { list = es }) ahead
      ∙ ap (λ (x : GoneView). record x { list = v.list }) expects.2

  module _ {new : NodeView} {a : Answer} (acts : view_act n e ≡ Ok (new, a)) where
    pub expects_freed : AreFreed e new.local.heap (drop before w.list)
    expects_freed =
        subst (AreFreed e new.local.heap) (sym behind) (freed-all n new e a acts)

    pub confirmed : frees e ≡ true → v.tracks ≡ true
        → confirming before new.local.heap w ≡ list_after v n.local new.local e
    confirmed is tracks =
        let p = n.local in
        let h = new.local.heap in
        let both : (frees e && v.tracks) ≡ true = ap (λ (b : Bool). b && v.tracks) is ∙ tracks in
        ap (λ (es : List CFreed). record w
        { list = es ++ filter (is_left_out h) (drop before w.list) })
        ahead
        ∙ ap (λ (es : List CFreed). record w { list = v.list ++ filter (is_left_out h) es }) behind
        ∙ ap (λ (es : List CFreed). record w { list = v.list ++ es })
        (listed-gone n new e a is acts)
        ∙ ap (λ (x : GoneView). record x { list = v.list ++ gone p.own p.heap h }) expects.2
        ∙ sym (cond-true (frees e && v.tracks) (listing p.own p.heap h v) v both)

-- no early message is received in its place
pub freeing_view : (old : WholeNode) (e : Event) → frees e ≡ true → {new : NodeView} {a : Answer}
    → view_act old.core (met old.early e) ≡ Ok (new, a) → view_act old.core e ≡ Ok (new, a)
freeing_view old e is performs =
    sym (ap (view_act old.core) (met_same old.early e (frees_turn e is))) ∙ performs

module _ (old : WholeNode) (v : GoneView) {e : Event} (is : frees e ≡ true)
    (tracks : v.tracks ≡ true) where
  -- there is no memory for the list
  pub unlisted : {w : GoneView} {f : Refusal} → Expects old.core.local e v w (Err f)
      → IsUnlisted v old.core e f
  unlisted {w} {f} expects = record {
    tracks = tracks;
    frees = is;
    memory = expects.1;
    passes = memory-first old.core e is expects.2;
  }

module _ (old : LoggedNode) (v : GoneView) {e : Event} (is : frees e ≡ true)
    (tracks : v.tracks ≡ true) where
  pub freeing_act : {new : LoggedNode} {a : Answer} → Acted old new e (Ok a)
      → view_act old.node.core e ≡ Ok (new.node.core, a)
  freeing_act acted = freeing_view old.node e is acted.acts.performs

  pub listing_ok : {new : LoggedNode} {w u : GoneView} {a : Answer} {before : ℕ}
      → Acted old new e (Ok a) → Expects old.node.core.local e v w (Ok before)
      → u ≡ confirming before new.node.core.local.heap w → ActsListing old v new u e (Ok a)
  listing_ok acted expects now =
      (acted, now ∙ confirmed old.node.core e v expects (freeing_act acted) is tracks)

  pub listing_err : {new : LoggedNode} {w u : GoneView} {f : Refusal} {before : ℕ}
      → Acted old new e (Err f) → Expects old.node.core.local e v w (Ok before)
      → u ≡ record w { list = take before w.list } → ActsListing old v new u e (Err f)
  listing_err acted expects now = (now ∙ withdrawn old.node.core e v expects, inl acted)

  pub listing_memory : {w : GoneView} {f : Refusal} → Expects old.node.core.local e v w (Err f)
      → ActsListing old v old w e (Err f)
  listing_memory expects = (expects.0, inr (refl, unlisted old.node v is tracks expects))

-- ---- Giving it to the node of a handle

-- an event that frees nothing, or of a node of which no list is kept
pub given_plain : {old new : LoneNode} {e : Event} {a : Answer}
    → (frees e && old.gone.tracks) ≡ false → Gave old new e (Ok a)
    → Gave (listed old new.node.core e) new e (Ok a)
given_plain {old} {new} {e} {a} off gave =
    subst (λ (v : GoneView). Gave (record old { gone = v }) new e (Ok a))
    (sym (cond-false (frees e && old.gone.tracks)
    (listing old.node.core.local.own old.node.core.local.heap new.node.core.local.heap old.gone)
    old.gone off)) gave

-- the event is refused, or there is no memory for the list
pub listing_refused : {old : LoneNode} {logged : LoggedNode} {gone : GoneView} {e : Event}
    {f : Refusal} → ActsListing (logged_of old) old.gone logged gone e (Err f)
    → Given false old (record (with_logged old logged) { gone = gone }) e (Err (fault.Refused f))
listing_refused {old} {logged} {gone} {e} {f} (same, inl acted) =
    inl (subst (λ (v : GoneView). Gave old (record (with_logged old logged) { gone = v }) e (Err f))
    (sym same) (gave_refusal acted))
listing_refused {old} {logged} {gone} {e} {f} (same, inr (unchanged, unlisted)) =
    inr (record {
      unlisted = unlisted;
      same = ap (λ (n : LoggedNode). record (with_logged old n) { gone = gone }) unchanged
          ∙ ap (λ (v : GoneView). record old { gone = v }) same;
    })

-- what it freed is listed
pub listing_gave : (old : LoneNode) {logged : LoggedNode} {gone : GoneView} {e : Event}
    {a : Answer} → ActsListing (logged_of old) old.gone logged gone e (Ok a)
    → Given false old (marked_by (is_change a) (record (with_logged old logged) { gone = gone })) e
    (Ok a)
listing_gave old {logged} {gone} {e} {a} (acted, now) =
    subst (λ (v : GoneView). Gave (listed old logged.node.core e)
    (marked_by (is_change a) (record (with_logged old logged) { gone = v })) e (Ok a)) (sym now)
    (gave {old = listed old logged.node.core e} (Ok a) acted)
