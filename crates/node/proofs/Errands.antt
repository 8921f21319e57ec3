-- A node after an errand.
use Rattle.std.proofs.Common.{◌≡◌, ◌≢◌, ℕ, ◌-◌, ◌<◌, ◌≤◌, ◌==◌, Bool, true, false, not, cond, List, [], ◌∷◌, ◌++◌, length, map, Option, ap, refl, sym, ◌∙◌, subst, arith, le_refl}
use Rattle.std.specs.List.{AllByRecursion}
use Rattle.std.proofs.lemmas.Bool.{cond_both}
use Rattle.ids.specs.declared.limits.TheConstants.{GREATEST_COUNTED}
use Rattle.ids.specs.declared.names.Ref.{Ref}
use Rattle.msg.specs.declared.body.Body.TheVariants as body
use Rattle.msg.specs.declared.body.Message.{Message}
use Rattle.model.specs.Collecting.{new_token, whitened}
use Rattle.model.specs.Counting.{counted_marks}
use Rattle.model.specs.declared.event.Letter.{Letter}
use Rattle.model.specs.Effects.{Work, then}
use Rattle.model.specs.Heaps.{simple_letter, letters_of}
use Rattle.model.specs.References.{IsWithin}
use Rattle.model.specs.Shading.{enter, entered, filled, join, make_all_grey, marks_for, roots, see_to, seen, unasked, without_last_grey}
use Rattle.model.specs.State.{Heap, Ring}
use Rattle.model.specs.Steps.{fits}
use Rattle.model.specs.View.{Link, NodeView, append_to, used}
use Rattle.model.proofs.Appending.{append_to-append, length-append_to}
use Rattle.model.proofs.Joining.{join-open}
use Rattle.model.proofs.Shading.{seen-none}
use Rattle.model.proofs.References.{any-list, holds-with_letter, holds-with_letters, new-references, holds-without_last_grey}
use Rattle.model.proofs.Stocks.{stocked-letters, new-letter, new-letters, stocked-scanned}
use Rattle.cycles.specs.Phases.{IsPhases, in_cycle}
use Rattle.cycles.specs.Balances.{IsBounded}
use Rattle.cycles.proofs.Bounds.{bounded_more}
use Rattle.link.specs.Links.{LinksView, IsLinks, for_others}
use Rattle.remote_marks.specs.Asked.{AreSent, all_appended}
use Rattle.node.specs.Cycles.{begins}
use Rattle.node.specs.Errands.{IsFit, IsRun, MayJoin, errand_here, extra_ring, extra_sends, extra_work, is_nothing, listed, unlisted, with_extra}
use Rattle.node.specs.Invariant.{IsNode, links_of, number_sum}
use Rattle.node.specs.declared.node_core.errands.Extra.{Extra}
use Rattle.node.specs.declared.node_core.errands.Extra.TheVariants as extra
use Rattle.node.proofs.Appended.{MaySend, both-may, linked-appended, nodes-within, numbers-appended, one-may, others-may}
use Rattle.node.proofs.Balances.{balance-small, bounded-same}
use Rattle.node.proofs.Events.{after_step, with_parts}
use Rattle.node.proofs.Nodes.{node-heap, node-rewired, node-sent}
use Rattle.node.proofs.Runs.{run-both}
use Rattle.node.proofs.Seeing.{node-joined, node-sees}

-- references within the shape have owners
pub nodes-inside : (n : NodeView) (rs : List Ref) → IsNode n
    → AllByRecursion (IsWithin n.local.shape) rs
    → AllByRecursion (λ (r : Ref). r.node < length n.links) rs
nodes-inside n rs old all =
    subst (λ (k : ℕ). AllByRecursion (λ (r : Ref). r.node < k) rs) (sym old.links.width)
    (nodes-within n.local.shape rs all)

-- ---- what it does besides

module _ (n : NodeView) (old : IsNode n) where
  -- before the references are seen to
  pub node-listed : (x : Extra) → IsNode (record n { local = unlisted x n.local })
  node-listed extra.Scanned =
      node-heap n (without_last_grey n.local.heap) old
      (holds-without_last_grey (IsWithin n.local.shape) n.local.heap old.references)
      (stocked-scanned old.stocked)
      (le_refl (length n.local.heap.slots))
  node-listed extra.Nothing = old
  node-listed (extra.Letter from label reference) = old
  node-listed (extra.Letters from label references bytes) = old
  node-listed (extra.Answer to label reference) = old
  node-listed (extra.Report to label bytes) = old
  node-listed extra.Begins = old

  begins-may : n.local.own ≡ 0 → MaySend n.local.shape n.local.own n.local.phases.cycle
      (begins n.local.own n.local.shape.nodes n.local.phases.cycle new_token)
  begins-may first =
      let s = n.local.shape in
      let own : ℕ = n.local.own in
      let cycle : ℕ = n.local.phases.cycle in
      let within = old.phases.phases.within in
      let last : s.nodes - 1 < s.nodes = omega (arith, old.shape.least_nodes) in
      let other : s.nodes - 1 ≢ own =
      (λ (e : s.nodes - 1 ≡ own). absurd (omega (arith, e, first, old.shape.least_nodes))) in
      let begin : Message = record { stamp = cycle; body = body.Begin } in
      both-may s own cycle
      ((s.nodes - 1, record { stamp = cycle; body = body.Token new_token }) ∷ [])
      (for_others own begin s.nodes)
      (one-may s own cycle (s.nodes - 1) _ (last, other)
      (record { stamp = within; references = tt; place = tt }) (le_refl cycle))
      (others-may s own cycle begin
      (record { stamp = within; references = tt; place = tt }) (le_refl cycle))

  -- after that
  pub node-extra : (x : Extra) → IsFit n.local.shape n.local.own x
      → IsLinks (all_appended (links_of n) (extra_work x n.local).sends)
      → IsNode (after_step n (extra_work x n.local).local (extra_work x n.local).sends)
  node-extra (extra.Letter from label reference) fit links =
      let l : Letter = simple_letter from label reference in
      node-heap n _ old
      (holds-with_letter (IsWithin n.local.shape) n.local.heap l old.references fit.1)
      (stocked-letters old.stocked (l ∷ [])
      (new-letter n.local.shape n.local.own from label reference fit.0))
      (le_refl (length n.local.heap.slots))
  node-extra (extra.Letters from label references bytes) fit links =
      let s = n.local.shape in
      let ls : List Letter = letters_of from label references.now bytes.now in
      node-heap n _ old
      (holds-with_letters (IsWithin s) n.local.heap ls old.references
      (new-references (IsWithin s) from label references.now bytes.now fit.1.1.0))
      (stocked-letters old.stocked ls
      (new-letters s n.local.own from label references.now bytes.now fit.1.1.1 fit.0))
      (le_refl (length n.local.heap.slots))
  node-extra (extra.Answer to label reference) fit links =
      node-sent n to (body.Give label reference) old fit.0.0 fit.0.1
      (record {
        stamp = old.phases.phases.within;
        references = any-list (IsWithin n.local.shape) reference fit.1;
        place = tt;
      })
      links
  node-extra (extra.Report to label bytes) fit links =
      node-sent n to (body.Post label [] bytes.now) old fit.0.0 fit.0.1
      (record {
        stamp = old.phases.phases.within;
        references = tt;
        place = (fit.1.0, omega arith, fit.1.1);
      })
      links
  node-extra extra.Begins first links =
      let own : ℕ = n.local.own in
      let cycle : ℕ = n.local.phases.cycle in
      let ms : List (ℕ × Message) = begins own n.local.shape.nodes cycle new_token in
      let may = begins-may first in
      let more : number_sum n.links n.local.got ≤ number_sum (append_to n.links ms) n.local.got =
      omega (arith, numbers-appended n.local.shape own cycle (links_of n) ms old.links may) in
      node-rewired n (all_appended (links_of n) ms) (whitened n.local.ring) old refl
      (linked-appended n.local.shape own cycle (links_of n) ms old.links may links)
      (bounded_more _ _ (whitened n.local.ring) more
      (bounded-same _ (whitened n.local.ring) n.local.ring refl refl old.balance))
  node-extra extra.Nothing fit links = old
  node-extra extra.Scanned fit links = old

-- ---- the errand at a node that joins no cycle

-- while marking goes on, all references are seen to
met-is : (ended : Bool) (os : List (Option Ref))
    → cond (not ended) (filled os) [] ≡ filled (cond ended [] os)
met-is true os = refl
met-is false os = refl

-- whether Marks are due, the references, those of them that the node meets, and what else is done
pub record Plan (n : NodeView) : Type 0 where
  pub due : Bool
  pub references : List (Option Ref)
  pub met : List (Option Ref)
  pub more : Extra
  pub meets : met ≡ cond (n.local.phases.ended == n.local.phases.cycle) [] references

-- what an errand changes
pub record Parts : Type 0 where
  pub heap : Heap
  pub asked : List Ref
  pub ring : Ring
  pub links : LinksView

abbrev pub with_these : NodeView → Parts → NodeView
with_these n a = with_parts n a.heap a.asked n.local.phases a.ring a.links

-- what a node in this cycle is after the code's calls
pub record IsDone (n : NodeView) (cycle : ℕ) (due : Bool) (rs : List Ref) (x : Extra) (a : Parts)
    : Type 0 where
  pub heap : a.heap ≡ with_extra x (make_all_grey n.local.own cycle (listed x n.local.heap) rs)
  pub keys : a.asked ≡ n.local.asked ++ unasked n.local.own n.local.asked rs
  pub ring : a.ring ≡ extra_ring cycle x
      (counted_marks (length (cond due (unasked n.local.own n.local.asked rs) [])) n.local.ring)
  pub sent : AreSent
      (marks_for cycle (cond due (unasked n.local.own n.local.asked rs) [])
      ++ extra_sends n.local.own (length n.links) cycle x)
      (links_of n) a.links

module _ {n : NodeView} (m : Plan n) where
  abbrev pub sees : Work
  sees = seen m.due (filled m.met) (unlisted m.more n.local)

  abbrev whole : Work
  whole = then sees (extra_work m.more)

  abbrev pub planned : Work
  planned = errand_here m.due (filled m.references) m.more n.local

  sees-is : see_to m.due (filled m.references) (unlisted m.more n.local) ≡ sees
  unfolding see_to
  sees-is =
      ap (λ (rs : List Ref). seen m.due rs (unlisted m.more n.local))
      (met-is (n.local.phases.ended == n.local.phases.cycle) m.references
      ∙ ap filled (sym m.meets))

  whole-is : planned ≡ whole
  unfolding errand_here
  whole-is = ap (λ (w : Work). then w (extra_work m.more)) sees-is

  pub here-sends : length n.links ≡ n.local.shape.nodes
      → sees.sends ++ extra_sends n.local.own (length n.links) n.local.phases.cycle m.more
      ≡ planned.sends
  here-sends width =
      ap (λ (k : ℕ). sees.sends ++ extra_sends n.local.own k n.local.phases.cycle m.more) width
      ∙ ap (λ (w : Work). w.sends) (sym whole-is)

  pub met-within : (P : Ref → Type 0) → AllByRecursion P (filled m.references)
      → AllByRecursion P (filled m.met)
  met-within P all =
      subst (AllByRecursion P)
      (met-is (n.local.phases.ended == n.local.phases.cycle) m.references
      ∙ ap filled (sym m.meets))
      (cond_both (not (n.local.phases.ended == n.local.phases.cycle)) (filled m.references) []
      (AllByRecursion P) (λ _. all) (λ _. tt))

  -- nothing is to be done
  pub here-idle : length m.met ≡ 0 → is_nothing m.more ≡ true → IsRun planned n n
  here-idle empty nothing =
      subst (λ (w : Work). IsRun w n n)
      (sym (whole-is
      ∙ ap (λ (us : List (Option Ref)).
      then (seen m.due (filled us) (unlisted m.more n.local)) (extra_work m.more))
      (none m.met empty)
      ∙ ap (λ (x : Extra). then (seen m.due [] (unlisted x n.local)) (extra_work x))
      (only m.more nothing)
      ∙ ap (λ (w : Work). then w (extra_work extra.Nothing)) (seen-none m.due n.local)))
      (record { fits = refl; now = refl })
    where
      none : (os : List (Option Ref)) → length os ≡ 0 → os ≡ []
      none [] h = refl
      none (o ∷ os) h = absurd (omega (arith, h))

      only : (x : Extra) → is_nothing x ≡ true → x ≡ extra.Nothing
      only extra.Nothing h = refl
      only x h = absurd cc

  -- the node is well-formed, and may do what is planned; the Marks are within the links' limits
  pub record Ready : Type 0 where
    pub node : IsNode n
    pub within : AllByRecursion (IsWithin n.local.shape) (filled m.references)
    pub marks : IsLinks (all_appended (links_of n) sees.sends)

  seen-stands : Ready → IsNode (after_step n sees.local sees.sends)
  seen-stands is =
      subst (λ (w : Work). IsNode (after_step n w.local w.sends)) sees-is
      (node-sees (record n { local = unlisted m.more n.local }) m.due (filled m.references)
      (node-listed n is.node m.more) is.within
      (subst (λ (w : Work). IsLinks (all_appended (links_of n) w.sends)) (sym sees-is) is.marks))

  -- the balances once the Marks are counted
  pub marked-small : Ready → IsBounded GREATEST_COUNTED sees.local.ring
  marked-small is = balance-small (after_step n sees.local sees.sends) (seen-stands is)

  module _ (old : IsNode n) {a : Parts}
      (done : IsDone n n.local.phases.cycle m.due (filled m.met) m.more a) where
    sent : AreSent whole.sends (links_of n) a.links
    sent =
        subst (λ (k : ℕ). AreSent
        (sees.sends ++ extra_sends n.local.own k n.local.phases.cycle m.more) (links_of n) a.links)
        old.links.width done.sent

    now : with_these n a ≡ after_step n whole.local whole.sends
    now =
        ap (λ (z : Heap). with_these n (record a { heap = z })) done.heap
        ∙ ap (λ (z : List Ref). with_these n (record a { heap = whole.local.heap; asked = z }))
        done.keys
        ∙ ap (λ (z : Ring).
        with_parts n whole.local.heap whole.local.asked n.local.phases z a.links) done.ring
        ∙ ap (with_parts n whole.local.heap whole.local.asked n.local.phases whole.local.ring)
        sent.sent

    pub here-run : IsRun planned n (with_these n a)
    here-run =
        subst (λ (w : Work). IsRun w n (with_these n a)) (sym whole-is)
        (record { fits = sent.fits; now = now })

    pub here-stands : Ready → IsFit n.local.shape n.local.own m.more → IsLinks a.links
        → IsNode (with_these n a)
    here-stands is fit last =
        let mid : NodeView = after_step n sees.local sees.sends in
        let both : append_to n.links whole.sends
        ≡ append_to mid.links (extra_work m.more mid.local).sends =
        append_to-append n.links sees.sends _ in
        let end : IsLinks (all_appended (links_of mid) (extra_work m.more mid.local).sends) =
        subst IsLinks
        (sent.sent ∙ ap (λ (ls : List Link). record (links_of n) { links = ls }) both) last in
        subst IsNode
        (ap (λ (ls : List Link). record n { local = whole.local; links = ls }) (sym both)
        ∙ sym now)
        (node-extra mid (seen-stands is) m.more fit end)

-- ---- the errand at a node that joins a cycle

-- what its program holds
abbrev pub first_asked : NodeView → List Ref
first_asked n = unasked n.local.own [] (filled (roots n.local.heap))

abbrev pub joined_node : NodeView → ℕ → NodeView
joined_node n cycle =
    record n {
      local = record n.local {
        heap = make_all_grey n.local.own cycle n.local.heap (filled (roots n.local.heap));
        asked = first_asked n;
        phases = in_cycle cycle n.local.phases;
        ring = counted_marks (length (first_asked n)) (entered n.local.ring);
      };
      links = append_to n.links (marks_for cycle (first_asked n));
    }

module _ (n : NodeView) (cycle : ℕ) (before : (n.local.phases.ended == cycle) ≡ false) where
  -- what is said of the node that has joined, and of what it has sent
  join-by : (P : Work → Type 0)
      → P (record { local = (joined_node n cycle).local; sends = marks_for cycle (first_asked n) })
      → P (join n.local cycle)
  unfolding enter
  join-by P h = subst P (sym (join-open n.local cycle before)) h

  by-join : (P : Work → Type 0) → P (join n.local cycle)
      → P (record { local = (joined_node n cycle).local; sends = marks_for cycle (first_asked n) })
  unfolding enter
  by-join P h = subst P (join-open n.local cycle before) h

  -- all references are met by a node that has just joined
  abbrev pub joined_plan : Bool → List (Option Ref) → Extra → Plan (joined_node n cycle)
  joined_plan due os x = record {
    due = due;
    references = os;
    met = os;
    more = x;
    meets = rw before refl;
  }

  pub joined-stands : IsNode n → MayJoin cycle n.local.phases
      → IsPhases (in_cycle cycle n.local.phases)
      → IsLinks (all_appended (links_of n) (marks_for cycle (first_asked n)))
      → IsNode (joined_node n cycle)
  joined-stands old may phases links =
      by-join (λ (w : Work). IsNode (after_step n w.local w.sends))
      (node-joined n cycle old may phases
      (join-by (λ (w : Work). IsLinks (all_appended (links_of n) w.sends)) links))

  module _ (due : Bool) (os : List (Option Ref)) (x : Extra) where
    abbrev joins_then : Work
    joins_then = then (join n.local cycle) (errand_here due (filled os) x)

    abbrev joined_sends : List (ℕ × Message)
    joined_sends =
        marks_for cycle
        (cond due (unasked n.local.own (first_asked n) (filled os)) [])
        ++ extra_sends n.local.own (length n.links) cycle x

    pub joining-refused : length n.links ≡ n.local.shape.nodes
        → fits (map used n.links) (marks_for cycle (first_asked n) ++ joined_sends) ≡ false
        → fits (map used n.links) joins_then.sends ≡ false
    joining-refused width none =
        join-by (λ (w : Work). fits (map used n.links)
        (then w (errand_here due (filled os) x)).sends ≡ false)
        (subst (λ (ms : List (ℕ × Message)). fits (map used n.links)
        (marks_for cycle (first_asked n) ++ ms) ≡ false)
        (here-sends (joined_plan due os x)
        (length-append_to n.links (marks_for cycle (first_asked n)) ∙ width))
        (subst (λ (k : ℕ). fits (map used n.links)
        (marks_for cycle (first_asked n)
        ++ (marks_for cycle (cond due (unasked n.local.own (first_asked n) (filled os)) [])
        ++ extra_sends n.local.own k cycle x)) ≡ false)
        (sym (length-append_to n.links (marks_for cycle (first_asked n)))) none))

    pub joining-run : {new : NodeView}
        → fits (map used n.links) (marks_for cycle (first_asked n)) ≡ true
        → IsRun (errand_here due (filled os) x (joined_node n cycle).local) (joined_node n cycle)
        new
        → IsRun joins_then n new
    joining-run {new = new} first run =
        run-both n (join n.local cycle) (errand_here due (filled os) x)
        (join-by (λ (w : Work). fits (map used n.links) w.sends ≡ true) first)
        (join-by (λ (w : Work).
        IsRun (errand_here due (filled os) x w.local) (after_step n w.local w.sends) new) run)
