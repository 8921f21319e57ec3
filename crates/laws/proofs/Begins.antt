-- The invariant after node 0 has begun a cycle.
use Rattle.std.proofs.Common.{◌≡◌, ◌≢◌, ℕ, zero, suc, ◌+◌, ◌-◌, ◌%◌, ◌<◌, ◌≤◌, ◌⊎◌, ◌==◌, true, List, [], ◌∷◌, ◌++◌, length, drop, get_or, Option, None, Some, refl, sym, ap, ◌∙◌, subst, ⊎_elim, inl, inr, arith, le_refl}
use Rattle.std.specs.List.{list_all}
use Rattle.std.proofs.lemmas.Bool.{cases_eq, eqb-true, and_parts}
use Rattle.ids.specs.Limits.{Shaped}
use Rattle.ids.specs.declared.names.Ref.{Ref}
use Rattle.msg.specs.declared.body.Body.TheVariants as body
use Rattle.msg.specs.declared.body.Colour.TheVariants.{White}
use Rattle.msg.specs.declared.body.Token.{Token}
use Rattle.msg.specs.declared.body.Message.{Message}
use Rattle.model.specs.State.{Phases, Ring, NodeState}
use Rattle.model.specs.Effects.{Work}
use Rattle.model.specs.Counting.{append, announce, stamped, to_others}
use Rattle.model.specs.Shading.{enter, join, see_to}
use Rattle.model.specs.Collecting.{whitened, without_token, new_token, probe, begun, is_swept_everywhere}
use Rattle.model.specs.Steps.{append_all}
use Rattle.model.specs.Cuts.{Cut, Becomes}
use Rattle.model.proofs.Leaving.{stands-walks}
use Rattle.model.proofs.Joining.{join-token}
use Rattle.model.proofs.Walk.{join-walks, work_in}
use Rattle.laws.proofs.Invariant.{phases_of, cycle_of, Marking, Resting, Safe, at_node, is_held, Inv}
use Rattle.laws.proofs.Acting.{put, put-here, becomes-put}
use Rattle.laws.proofs.Moves.{worked, append_all-append, Moves}
use Rattle.laws.proofs.Receipts.{becomes-from}
use Rattle.laws.proofs.Tallies.{bound-none}
use Rattle.laws.proofs.TokenSteps.{Leaving, leave-inv, probe-safra}
use Rattle.laws.proofs.PhaseSteps.{Telling, tell-inv}
use Rattle.laws.proofs.Joins.{entering, enter-slots}
use Rattle.laws.proofs.Starts.{Starting, start-inv}
use Rattle.laws.proofs.Dressing.{Dressing, dress-moves, roots-all}
use Rattle.laws.proofs.Rounds.{last-next}

-- all others have reported, as node 0 tests
reports-all : (cycle : ℕ) (rs : List ℕ) → list_all (λ r. r == cycle) rs ≡ true → (k : ℕ)
    → k < length rs → get_or rs k 0 ≡ cycle
reports-all cycle [] h k inside = absurd (omega (arith, inside))
reports-all cycle (r ∷ rs) h zero inside =
    eqb-true r cycle (and_parts (r == cycle) (list_all (λ z. z == cycle) rs) h).0
reports-all cycle (r ∷ rs) h (suc k) inside =
    reports-all cycle rs (and_parts (r == cycle) (list_all (λ z. z == cycle) rs) h).1 k
    (let w : k < length rs = omega (arith, inside) in w)

later-report : (rs : List ℕ) (k : ℕ) → get_or (drop 1 rs) k 0 ≡ get_or rs (suc k) 0
later-report [] k = refl
later-report (r ∷ rs) k = refl

rest-length : (rs : List ℕ) → length (drop 1 rs) + 1 ≡ length rs ⊎ (length rs ≡ 0)
rest-length [] = inr refl
rest-length (r ∷ rs) = inl (omega arith)

-- a node with this token
abbrev with_token : NodeState → Option Token → NodeState
with_token s t = record s { local = record s.local { ring = record s.local.ring { token = t } } }

-- joining doesn't change the token, and doesn't depend on it
join-token-apart : (s : NodeState) (cycle : ℕ) (t : Option Token)
    → worked (with_token s t) (join (with_token s t).local cycle)
    ≡ with_token (worked s (join s.local cycle)) t
unfolding join enter see_to
join-token-apart s cycle t = refl

pub record Beginning (shape : Shaped) (c d : Cut) : Type 0 where
  pub inv : Inv shape c
  pub several : 2 ≤ shape.nodes
  pub swept : is_swept_everywhere (c 0).local.phases ≡ true
  pub becomes : Becomes c d 0 (worked (c 0) (work_in (begun (c 0).local)))

module _ {shape : Shaped} {c d : Cut} (h : Beginning shape c d) where
  abbrev beginner : NodeState
  beginner = c 0

  abbrev coming : ℕ
  coming = cycle_of c 0 + 1

  begin-inside : 0 < shape.nodes
  begin-inside = (let w = h.several in omega (arith, w))

  begin-parts : (beginner.local.phases.swept ≡ cycle_of c 0)
      × (list_all (λ r. r == cycle_of c 0) (drop 1 beginner.local.phases.reports) ≡ true)
  begin-parts =
      let parts = and_parts (beginner.local.phases.swept == cycle_of c 0) _ h.swept in
      (eqb-true beginner.local.phases.swept (cycle_of c 0) parts.0, parts.1)

  begin-resting : Resting (phases_of c 0)
  begin-resting =
      (let a = h.inv.phased.swept 0 in let b = h.inv.phased.ended 0 in
      omega (arith, a, b, begin-parts.0))

  begin-reported : (i : ℕ) → 0 < i → i < shape.nodes
      → get_or (phases_of c 0).reports i 0 ≡ cycle_of c 0
  begin-reported zero above inside = absurd (omega (arith, above))
  begin-reported (suc k) above inside =
      let rs : List ℕ = (phases_of c 0).reports in
      let wide : length rs ≡ shape.nodes = h.inv.phased.reporters in
      sym (later-report rs k)
      ∙ reports-all (cycle_of c 0) (drop 1 rs) begin-parts.1 k
      (⊎_elim {C = k < length (drop 1 rs)}
      (λ e. (let w : k < length (drop 1 rs) = omega (arith, e, wide, inside) in w))
      (λ none. absurd (omega (arith, none, wide, inside)))
      (rest-length rs))

  begin-swept : (i : ℕ) → i < shape.nodes → (phases_of c i).swept ≡ cycle_of c 0
  begin-swept i inside = ⊎_elim {C = (phases_of c i).swept ≡ cycle_of c 0}
      (λ (e : i ≡ 0). ap (λ (z : ℕ). (phases_of c z).swept) e ∙ begin-parts.0)
      (λ (other : i ≢ 0).
      let above : 0 < i = omega (arith, other) in
      let least = h.inv.phased.reports i above inside in
      let a = h.inv.phased.swept i in
      let b = h.inv.phased.first i in
      omega (arith, least, begin-reported i above inside, a, b, begin-resting))
      (cases_eq i 0)

  begin-none : beginner.local.ring.token ≡ None
  begin-none = by beginner.local.ring.token refl
    where
      by : (o : Option Token) → beginner.local.ring.token ≡ o → o ≡ None
      by None e = refl
      by (Some t) e = absurd (h.inv.tokens.rest t (at_node 0) begin-resting (is_held 0 e))

  begin-before : beginner.local.phases.ended ≢ coming
  begin-before e = omega (arith, e, begin-resting)

  pub begin-inv : Inv shape d
  unfolding begun probe append announce
  begin-inv =
      let s : NodeState = beginner in
      let grey : List ℕ = length s.local.heap.slots ∷ [] in
      let t : NodeState = with_token s (Some new_token) in
      let s2 : NodeState = record {
        local = entering s.local coming grey (Some new_token);
        sent = s.sent;
      } in
      let c2 : Cut = put c 0 s2 in
      let at2 : c2 0 ≡ s2 = put-here c 0 s2 in
      let b2 = becomes-put c 0 s2 in
      let starting : Starting shape c c2 grey = record {
        inv = h.inv;
        inside = begin-inside;
        resting = begin-resting;
        swept = begin-swept;
        reported = begin-reported;
        becomes = b2;
      } in
      let inv2 : Inv shape c2 = start-inv starting in
      let now2 : cycle_of c2 0 ≡ coming = ap (λ (z : NodeState). z.local.phases.cycle) at2 in
      let ended2 : (phases_of c2 0).ended ≡ (phases_of c 0).ended =
      ap (λ (z : NodeState). z.local.phases.ended) at2 in
      let safe2 : (r : Ref) → Safe c r → Safe c2 r = λ r z. record {
        object = z.object;
        there = enter-slots b2 r.node r.slot ∙ z.there;
        marked = λ rest. absurd (omega (arith, rest, now2, ended2, begin-resting));
      } in
      let s3 : NodeState = worked t (join t.local coming) in
      let c3 : Cut = put c2 0 s3 in
      let at3 : c3 0 ≡ s3 = put-here c2 0 s3 in
      let dressing : Dressing shape c2 c3 0 coming t = record {
        inv = inv2;
        inside = begin-inside;
        now = at2;
        calm = h.inv.rested.grey 0 begin-resting;
        before = begin-before;
        safe = λ r a. safe2 r (roots-all (Safe c) s.local.heap (h.inv.closed.roots 0) r a);
        becomes = becomes-put c2 0 s3;
      } in
      let third : Moves shape c2 c3 0 = dress-moves dressing in
      let w : Work = join s.local coming in
      let worked_is : s3 ≡ with_token (worked s w) (Some new_token) =
      join-token-apart s coming (Some new_token) in
      let at3b : c3 0 ≡ with_token (worked s w) (Some new_token) = at3 ∙ worked_is in
      let wide : w.local.shape.nodes ≡ shape.nodes =
      ap (λ (z : Shaped). z.nodes)
      ((join-walks stands-walks.moves.collects s.local coming (omega arith)).shape
      ∙ h.inv.base.shapes 0 begin-inside) in
      let to : ℕ = w.local.shape.nodes - 1 in
      let last : suc to ≡ shape.nodes = omega (arith, wide, h.several) in
      let s4 : NodeState = record {
        local = record w.local { ring = whitened (without_token w.local.ring) };
        sent = append_all (append_all s.sent w.sends)
            ((to, stamped w.local (body.Token new_token)) ∷ []);
      } in
      let c4 : Cut = put c3 0 s4 in
      let at4 : c4 0 ≡ s4 = put-here c3 0 s4 in
      let marking3 : Marking (phases_of c3 0) =
      (let a = ap (λ (z : ℕ → Phases). (z 0).cycle) third.phases in
      let b = ap (λ (z : ℕ → Phases). (z 0).ended) third.phases in
      omega (arith, a, b, now2, ended2, begin-resting)) in
      let leaving : Leaving shape c3 c4 0 to new_token new_token = record {
        inv = third.inv;
        inside = begin-inside;
        receiver = omega (arith, last);
        ring =
            sym (ap (λ (z : ℕ). (z - 1 + 1) % shape.nodes) wide ∙ last-next shape.nodes h.several);
        marking = marking3;
        held = ap (λ (z : NodeState). z.local.ring.token) at3b;
        becomes =
            subst (λ (z : NodeState). Becomes c3 c4 0 (record {
              local = record z.local { ring = whitened (without_token z.local.ring) };
              sent = append_all z.sent ((to, stamped z.local (body.Token new_token)) ∷ []);
            })) (sym at3b) (becomes-put c3 0 s4);
        safra = λ _. probe-safra shape.nodes c4 to last;
        bound = λ _. bound-none shape.nodes c4 to;
      } in
      let inv4 : Inv shape c4 = leave-inv leaving in
      let none : w.local.ring.token ≡ None =
      join-token s.local coming ∙ begin-none in
      let ring_is : whitened w.local.ring ≡ whitened (without_token w.local.ring) =
      ap (λ (z : Option Token). record w.local.ring { colour = White; token = z }) none in
      let ms : List (ℕ × Message) = (to, stamped w.local (body.Token new_token)) ∷ [] in
      let final : worked s (work_in (begun s.local))
      ≡ record {
        local = s4.local;
        sent = append_all s4.sent (to_others s4.local body.Begin w.local.shape.nodes);
      } =
      ap (λ (z : Ring). record {
        local = record w.local { ring = z };
        sent = append_all s.sent
            ((w.sends ++ ms)
            ++ to_others (record w.local { ring = z }) body.Begin w.local.shape.nodes);
      }) ring_is
      ∙ ap (λ (z : List (List Message)). record { local = s4.local; sent = z })
      (append_all-append s.sent (w.sends ++ ms) (to_others s4.local body.Begin w.local.shape.nodes)
      ∙ ap (λ (z : List (List Message)).
      append_all z (to_others s4.local body.Begin w.local.shape.nodes))
      (append_all-append s.sent w.sends ms)) in
      let telling : Telling shape c4 d body.Begin = record {
        inv = inv4;
        inside = begin-inside;
        becomes =
            subst (λ (z : NodeState). Becomes c4 d 0 (record {
              local = z.local;
              sent = append_all z.sent (to_others z.local body.Begin shape.nodes);
            })) (sym at4)
            (subst (λ (z : ℕ). Becomes c4 d 0 (record {
              local = s4.local;
              sent = append_all s4.sent (to_others s4.local body.Begin z);
            })) wide
            (becomes-from (becomes-put c3 0 s4) (becomes-from (becomes-put c2 0 s3)
            (becomes-from b2 (subst (λ (z : NodeState). Becomes c d 0 z) final h.becomes)))));
        idle = refl;
        no_token = λ k e. absurd cc;
        fits = λ k other inside. (refl, le_refl _);
        first = λ k place x single. absurd cc;
      } in
      tell-inv telling
