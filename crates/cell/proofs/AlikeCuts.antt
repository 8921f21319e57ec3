-- Cuts of worlds that differ at most in acknowledged messages: the local parts and the messages in
-- flight are the same. So the same is reachable, and every theorem on the one holds of the other.
use Rattle.std.proofs.Common.{◌≡◌, ◌≤◌, ◌<◌, ℕ, Bool, true, false, cond, drop, slice_get, sym, ap, ◌∙◌, subst, le_refl}
use Rattle.std.proofs.lemmas.Bool.{cond_both}
use Rattle.ids.specs.declared.names.Ref.{Ref}
use Rattle.msg.specs.declared.body.Message.{Message}
use Rattle.model.specs.State.{LocalState, NodeState, got_from, node_at, register_at, sent_to, slot_at}
use Rattle.model.specs.World.{World, acknowledged}
use Rattle.model.specs.Cuts.{Cut, cut, taken, IsInFlight, IsLive, Reachable, in_letter, in_message, in_place, in_register}
use Rattle.model.specs.Agreement.{in_flight, EndsAlike}
use Rattle.laws.specs.Statements.{Leads, is_it, over_place}
use Rattle.laws.proofs.Net.{HeardMore}
use Rattle.laws.proofs.Onward.{Behind}
use Rattle.cell.specs.Reached.{AlikeReach, AreAlike, IsLike}
use Rattle.cell.proofs.Alike.{drop-more, get-later}
use Rattle.cell.proofs.AlikeRuns.{heard-like}
use Rattle.cell.proofs.Reaches.{end_of, heard-end}

pub record CutsAlike (c d : Cut) : Type 0 where
  pub locals : (i : ℕ) → (c i).local ≡ (d i).local
  pub flights : (from to : ℕ) → in_flight c from to ≡ in_flight d from to

pub cuts-sym : {c d : Cut} → CutsAlike c d → CutsAlike d c
cuts-sym h = record {
  locals = λ i. sym (h.locals i);
  flights = λ from to. sym (h.flights from to);
}

chosen-like : (acked : ℕ → ℕ) (b : Bool) (s t p q : NodeState) → IsLike acked s t
    → IsLike acked p q → IsLike acked (cond b s p) (cond b t q)
chosen-like acked true s t p q first second = first
chosen-like acked false s t p q first second = second

-- in each cut, a node has received what it has acknowledged
acked-taken : (v : World) (choice : ℕ → Bool) (from to : ℕ) → Behind HeardMore v
    → acknowledged v from to ≤ taken (cut v choice) from to
acked-taken v choice from to heard =
    cond_both (choice to) (node_at v.saved to) (node_at v.current to)
    (λ (s : NodeState). acknowledged v from to ≤ got_from s.local from) (λ _. le_refl _)
    (λ _. heard to from)

pub cuts-alike : (w v : World) (choice : ℕ → Bool) → AreAlike w v → Behind HeardMore v
    → CutsAlike (cut w choice) (cut v choice)
cuts-alike w v choice h heard =
    let like : (i : ℕ) → IsLike (acknowledged v i) (cut w choice i) (cut v choice i) =
    λ i.
    chosen-like (acknowledged v i) (choice i) (node_at w.saved i) (node_at v.saved i)
    (node_at w.current i) (node_at v.current i) (h.saved.each i) (h.current.each i) in
    record {
      locals = λ i. (like i).local;
      flights = λ from to.
          ap (λ (n : ℕ). drop n (sent_to (cut w choice from) to))
          (ap (λ (p : LocalState). got_from p from) (like to).local)
          ∙ drop-more (sent_to (cut w choice from) to) (sent_to (cut v choice from) to)
          (acknowledged v from to) (taken (cut v choice) from to)
          (acked-taken v choice from to heard) ((like from).later to);
    }

-- ---- What is reachable

pub flies-too : {c d : Cut} (from to place : ℕ) (x : Message) → CutsAlike c d
    → IsInFlight c from to place x → IsInFlight d from to place x
flies-too {c = c} {d = d} from to place x h fly =
    let same : taken c from to ≡ taken d from to =
    ap (λ (p : LocalState). got_from p from) (h.locals to) in
    let rest : drop (taken c from to) (sent_to (c from) to)
    ≡ drop (taken c from to) (sent_to (d from) to) =
    h.flights from to ∙ ap (λ (n : ℕ). drop n (sent_to (d from) to)) (sym same) in
    record {
      later = subst (λ (n : ℕ). n ≤ place) same fly.later;
      there = sym (get-later (sent_to (c from) to) (sent_to (d from) to) (taken c from to) place
          fly.later rest)
          ∙ fly.there;
    }

pub reached-too : {c d : Cut} {r : Ref} → CutsAlike c d → Reachable c r → Reachable d r
reached-too h (in_register i k there) =
    in_register i k (sym (ap (λ (p : LocalState). register_at p.heap k) (h.locals i)) ∙ there)
reached-too h (in_letter i k l there names) =
    in_letter i k l
    (sym (ap (λ (p : LocalState). slice_get p.heap.letters k) (h.locals i)) ∙ there) names
reached-too h (in_message from to place x fly among) =
    in_message from to place x (flies-too from to place x h fly) among
reached-too h (in_place owner o k reached there names) =
    in_place owner o k (reached-too h reached)
    (sym (ap (λ (p : LocalState). slot_at p.heap owner.slot) (h.locals owner.node)) ∙ there) names

pub alike-reach : AlikeReach
alike-reach w v choice r reached h =
    let heard = heard-like v (end_of reached) reached.by (heard-end reached) in
    let cuts = cuts-alike w v choice h heard in
    (reached-too cuts, reached-too (cuts-sym cuts))

pub leads-too : {c d : Cut} {r q : Ref} → CutsAlike c d → Leads c r q → Leads d r q
leads-too h is_it = is_it
leads-too h (over_place owner o k there names leads) =
    over_place owner o k
    (sym (ap (λ (p : LocalState). slot_at p.heap owner.slot) (h.locals owner.node)) ∙ there) names
    (leads-too h leads)

pub live-too : {c d : Cut} (r : Ref) → CutsAlike c d → IsLive c r → IsLive d r
live-too r h live = record {
  object = live.object;
  there = sym (ap (λ (p : LocalState). slot_at p.heap r.slot) (h.locals r.node)) ∙ live.there;
}

-- ---- The end of marking

pub ends-too : {c d : Cut} (nodes cycle : ℕ) → CutsAlike c d → EndsAlike nodes cycle c
    → EndsAlike nodes cycle d
ends-too nodes cycle h ends = record {
  terminated = record {
    joined = λ i inside.
        subst (λ (p : LocalState). cycle ≤ p.phases.cycle) (h.locals i)
        (ends.terminated.joined i inside);
    calm = λ i inside at.
        sym (ap (λ (p : LocalState). p.heap.grey) (h.locals i))
        ∙ ends.terminated.calm i inside
        (ap (λ (p : LocalState). p.phases.cycle) (h.locals i) ∙ at);
    delivered = λ from to place x fly.
        ends.terminated.delivered from to place x (flies-too from to place x (cuts-sym h) fly);
  };
  director = subst (λ (p : LocalState). cycle ≤ p.phases.ended) (h.locals 0) ends.director;
  later = λ i inside after.
      subst (λ (p : LocalState). cycle ≤ p.phases.ended) (h.locals i)
      (ends.later i inside
      (subst (λ (p : LocalState). cycle < p.phases.cycle) (sym (h.locals i)) after));
}
