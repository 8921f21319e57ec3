-- The theorems on lists of steps, applied to what cells do.
use Rattle.std.proofs.Common.{◌≡◌, ℕ, true, List, map, length, Ok, Err, refl, sym, ap, ◌∙◌, subst}
use Rattle.ids.specs.declared.names.Ref.{Ref}
use Rattle.ids.specs.declared.refusal.Refusal.{Refusal}
use Rattle.msg.specs.Frames.{plain, plain_data}
use Rattle.msg.specs.declared.body.Message.{Message}
use Rattle.msg.specs.declared.frame.Data.{Data}
use Rattle.msg.specs.declared.frame.Frame.{Frame}
use Rattle.msg.specs.declared.frame.Frame.TheVariants as frame
use Rattle.model.specs.declared.age.Scope.{Scope}
use Rattle.model.specs.declared.event.Event.{Event}
use Rattle.model.specs.declared.event.Event.TheVariants as event
use Rattle.model.specs.declared.event.Answer.{Answer}
use Rattle.model.specs.State.{LocalState, NodeState, Object, node_at, slot_at}
use Rattle.model.specs.Reclaiming.{aging}
use Rattle.model.specs.Steps.{act, made, receive}
use Rattle.model.specs.Collecting.{swept_slots}
use Rattle.model.specs.World.{World, acknowledged, run, IsInNet}
use Rattle.model.specs.Cuts.{Cut}
use Rattle.model.proofs.Refusals.{refused-as}
use Rattle.laws.proofs.StepFacts.{act-ok}
use Rattle.laws.proofs.Live as laws
use Rattle.laws.proofs.Privacy as privacy
use Rattle.laws.proofs.Reclaims.{private-garbage-goes, young-garbage-goes}
use Rattle.laws.proofs.Deliveries as deliveries
use Rattle.wire.specs.Rule.{receiver}
use Rattle.wire.specs.Views.{Pair}
use Rattle.model.specs.Effects.{is_change}
use Rattle.wire.specs.Sending.{emptied}
use Rattle.cell.specs.Events.{Handled}
use Rattle.laws.specs.Privacy.{IsPrivate, Knows}
use Rattle.laws.specs.Statements.{IsSpentOrEarly, KeepsReachable, NoneRefusedInTurn, OfEveryRun}
use Rattle.cell.specs.Laws.{CellsFreeNoneReachable, CellsReclaimGarbage, CellsReclaimNoneReachable, CellsReclaimYoung, CellsRefuseNoneInTurn, FreesNoneReachable, PrivateIsHidden}
use Rattle.cell.specs.Theorems.{OfEveryReached}
use Rattle.cell.proofs.Alike.{act-like, other-answer, other-refusal}
use Rattle.cell.proofs.AlikeCuts.{CutsAlike, flies-too, reached-too}
use Rattle.cell.proofs.AlikeRuns.{AreReleased, also-released, given-like}
use Rattle.cell.proofs.Applied.{cuts-end}
use Rattle.cell.proofs.Reaches.{end_of, heard-end, stays-reached}

-- ---- Sweeps and reclaims

-- whoever does this event frees nothing reachable
abbrev FreesNone : Event → (Object → Object) → World → Type 0
FreesNone e makes w =
    (i : ℕ) (s : NodeState) (a : Answer) → act (node_at w.current i) e ≡ Ok (s, a)
    → KeepsReachable makes w i (node_at w.current i).local.heap s.local.heap

none-in : (e : Event) (makes : Object → Object) → OfEveryRun (FreesNone e makes)
    → OfEveryReached (FreesNone e makes)
none-in e makes law w reached i s a answered choice r current reach own =
    let end : World = end_of reached in
    let like = reached.by.current.each i in
    let given =
    act-like (acknowledged end i) (node_at w.current i) (node_at end.current i) e like in
    let other = other-answer (acknowledged end i) _ _ s a given answered in
    let kept =
    law reached.shape reached.limits reached.steps i other.0 a other.1 choice r current
    (reached-too (cuts-end w choice reached) reach) own in (
      kept.0,
      ap (λ (p : LocalState). slot_at p.heap r.slot) like.local ∙ kept.1,
      ap (λ (p : LocalState). slot_at p.heap r.slot) other.2.local ∙ kept.2,
    )

-- the event is always one of the space
abbrev Changes : Event → Type 0
Changes e = (p : LocalState) (counts : List ℕ) → is_change (made p counts e).answer ≡ true

sweep-changes : (count : ℕ) → Changes (event.Sweep count)
unfolding swept_slots
sweep-changes count p counts = refl

reclaim-changes : (scope : Scope) → Changes (event.Reclaim scope)
reclaim-changes scope p counts = refl

done-counts : (e : Event) → Changes e → (s t : NodeState) (a : Answer) → act s e ≡ Ok (t, a)
    → is_change a ≡ true
done-counts e changes s t a answered =
    subst (λ (x : Answer). is_change x ≡ true) (sym (act-ok s e t a answered).answer)
    (changes s.local (map length s.sent))

cells-free-none : (e : Event) (makes : Object → Object) → OfEveryRun (FreesNone e makes)
    → Changes e → FreesNoneReachable e makes
cells-free-none e makes law changes old new v w reached shows done =
    let a = done.answer in
    let acted = done.given.acted in
    let s : NodeState = acted.states.0 in
    let answered : act v.pair.current e ≡ Ok (s, a) = acted.states.1 in
    let entered = (acted.entered (done-counts e changes v.pair.current s a answered)).1 in
    let here : node_at (run v.opening entered.log).current v.me ≡ v.pair.current =
    ap (λ (p : Pair). p.current) entered.before in (
      entered.log,
      entered.events,
      entered.before,
      entered.after,
      λ choice r current reach own.
          (let now = stays-reached v.opening entered.log reached in
          let kept = none-in e makes law (run v.opening entered.log) now v.me s a
          (ap (λ (t : NodeState). act t e) here ∙ answered) choice r current reach own in (
            kept.0,
            ap (λ (p : LocalState). slot_at p.heap r.slot)
                (shows.local ∙ ap (λ (t : NodeState). t.local) (sym here)) ∙ kept.1,
            ap (λ (p : LocalState). slot_at p.heap r.slot) acted.states.2.local ∙ kept.2,
          )),
    )

pub cells-free-none-reachable : CellsFreeNoneReachable
cells-free-none-reachable count =
    cells-free-none (event.Sweep count) (λ o. o)
    (λ shape limits steps i s a.
    laws.sweeps-free-none-reachable shape limits steps i count s a)
    (sweep-changes count)

pub cells-reclaim-none-reachable : CellsReclaimNoneReachable
cells-reclaim-none-reachable scope =
    cells-free-none (event.Reclaim scope) aging
    (λ shape limits steps i s a.
    privacy.reclaims-free-none-reachable shape limits steps i scope s a)
    (reclaim-changes scope)

pub cells-reclaim-garbage : CellsReclaimGarbage
cells-reclaim-garbage old new v w done =
    let states = done.given.acted.states in
    (states.0, private-garbage-goes v.pair.current states.0 done.answer states.1, states.2)

pub cells-reclaim-young : CellsReclaimYoung
cells-reclaim-young old new v w done =
    let states = done.given.acted.states in
    (states.0, young-garbage-goes v.pair.current states.0 done.answer states.1, states.2)

-- ---- Private objects

private-too : {c d : Cut} {r : Ref} → CutsAlike c d → IsPrivate c r → IsPrivate d r
private-too {r = r} h is = record {
  object = is.object;
  there = ap (λ (p : LocalState). slot_at p.heap r.slot) (sym (h.locals r.node)) ∙ is.there;
  private = is.private;
}

pub private-is-hidden : OfEveryReached PrivateIsHidden
private-is-hidden w reached choice r private =
    let cuts = cuts-end w choice reached in
    let unknown =
    privacy.private-is-unknown reached.shape reached.limits reached.steps choice r
    (private-too cuts private) in
    record {
      nodes = λ i other knows.
          unknown.nodes i other (subst (λ (p : LocalState). Knows p r) (cuts.locals i) knows);
      flights = λ from to place x fly.
          unknown.messages from to place x (flies-too from to place x cuts fly).there;
    }

-- ---- Messages

pub in-turn : OfEveryReached NoneRefusedInTurn
in-turn w reached from to number stamp body e there refused =
    let end : World = end_of reached in
    let x : Message = record { stamp = stamp; body = body } in
    let found = also-released w end from to number x reached.by there in
    let y : Message = found.0 in
    let both : AreReleased w end from to number x y =
    record { alike = reached.by; there = there; other = found.1 } in
    let like = given-like both (heard-end reached) in
    subst (λ (p : LocalState). IsSpentOrEarly p from number e)
    (sym (reached.by.current.each to).local)
    (deliveries.none-refused-in-turn reached.shape reached.limits reached.steps from to number
    y.stamp y.body e found.1
    (other-refusal (acknowledged end to) _ _ e like refused))

pub received : (s : NodeState) (d : Data) (e : Refusal) → act s (event.Data d) ≡ Err e
    → receive s d.from d.to d.number d.stamp d.body ≡ Err e
unfolding act receive
received s d e refused = refused

pub cells-refuse-none-in-turn : CellsRefuseNoneInTurn
cells-refuse-none-in-turn d e old v reached shows refusing plenty =
    let took = refusing.took in
    let is = refusing.is in
    let net : IsInNet (run v.opening took.arrives.log) (plain_data d) =
    subst (λ (f : Frame). IsInNet (run v.opening took.arrives.log) (plain f)) is
    took.arrives.net in
    let taken = emptied refusing.box took.taken took.cleared (plain took.frame) v in
    let given : Handled (frame.Data d) (Err e) old refusing.new taken refusing.w =
    subst (λ (f : Frame). Handled f (Err e) old refusing.new taken refusing.w) is
    took.handled in
    let refused = received v.pair.current d e (refused-as (given.acted.states tt) plenty) in
    let to : v.me ≡ d.to =
    sym took.receiver ∙ ap (λ (f : Frame). receiver (plain f)) is in
    let here : node_at (run v.opening took.arrives.log).current d.to ≡ v.pair.current =
    ap (λ (i : ℕ). node_at (run v.opening took.arrives.log).current i) (sym to)
    ∙ ap (λ (p : Pair). p.current) took.arrives.pair in
    subst (λ (p : LocalState). IsSpentOrEarly p d.from d.number e)
    (ap (λ (s : NodeState). s.local) here ∙ sym shows.local)
    (in-turn (run v.opening took.arrives.log) (stays-reached v.opening took.arrives.log reached)
    d.from d.to d.number d.stamp d.body e net
    (ap (λ (s : NodeState). receive s d.from d.to d.number d.stamp d.body) here ∙ refused))
