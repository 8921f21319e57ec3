-- The invariant after a node has passed the token on, or node 0 has judged it.
use Rattle.std.proofs.Common.{◌≡◌, ◌≢◌, ℕ, suc, ℤ, pos, ◌+◌, ◌-◌, ◌+ℤ◌, ◌%◌, ◌<◌, ◌≤◌, ◌==◌, true, false, List, [], ◌∷◌, Option, None, Some, refl, sym, ap, ◌∙◌, subst, ⊎_elim, arith, le_refl, mod-eq_of_lt, unwrap_or}
use Rattle.std.specs.Prelude.{is_some}
use Rattle.std.specs.Int.{w64, int_wrap}
use Rattle.std.proofs.Math.Nat.{mod_self}
use Rattle.std.proofs.lemmas.Bool.{cases_Bool, cases_eq, cond-true, cond-false, eqb-true, eqb-false, and_parts}
use Rattle.std.proofs.lemmas.Bool.Decides.{Decides-int_eq}
use Rattle.ids.specs.Limits.{Shaped}
use Rattle.msg.specs.declared.body.Body.{Body}
use Rattle.msg.specs.declared.body.Body.TheVariants as body
use Rattle.msg.specs.declared.body.Colour.{Colour}
use Rattle.msg.specs.declared.body.Colour.TheVariants.{White, Black}
use Rattle.msg.specs.declared.body.Token.{Token}
use Rattle.msg.specs.declared.body.Message.{Message}
use Rattle.model.specs.declared.event.Answer.TheVariants as answer
use Rattle.model.specs.State.{LocalState, NodeState}
use Rattle.model.specs.Effects.{Effect, answers}
use Rattle.model.specs.Counting.{append, announce, stamped, to_others}
use Rattle.model.specs.Collecting.{is_white, whitened, without_token, new_token, token_of, sum_of, forwarded, is_concluded, probe, conclude, judged, handed_on, passed}
use Rattle.model.specs.Steps.{append_all}
use Rattle.model.specs.Cuts.{Cut, Becomes}
use Rattle.model.proofs.Walk.{work_in}
use Rattle.laws.proofs.Turns.{Turn, flew}
use Rattle.laws.proofs.Invariant.{phases_of, cycle_of, Marking, Resting, Joined, BodyFits, Spot, place_of_spot, IsAt, at_node, is_held, Bound, Inv}
use Rattle.laws.proofs.Acting.{put, put-here, becomes-put}
use Rattle.laws.proofs.Moves.{worked}
use Rattle.laws.proofs.Receipts.{becomes-from}
use Rattle.laws.proofs.Tallies.{bound-turn, bound-none, bound-forward}
use Rattle.laws.proofs.RingSteps.{at-once}
use Rattle.laws.proofs.TokenSteps.{Leaving, leave-inv, probe-safra, Forwarding, forward-safra}
use Rattle.laws.proofs.PhaseSteps.{Telling, tell-inv}
use Rattle.laws.proofs.Endings.{Ending, end-inv}

pub some-of : {A : Type 0} (o : Option A) → is_some o ≡ true → (x : A) × (o ≡ Some x)
some-of None h = absurd cc
some-of (Some x) h = (x, refl)

white-is : (k : Colour) → is_white k ≡ true → k ≡ White
white-is White h = refl
white-is Black h = absurd cc

white-not : (k : Colour) → k ≡ Black → is_white k ≡ false
white-not White h = absurd cc
white-not Black h = refl

-- the token comes to the last node from node 0
pub last-next : (n : ℕ) → 2 ≤ n → (n - 1 + 1) % n ≡ 0
last-next n more =
    ap (λ (z : ℕ). z % n) (let e : n - 1 + 1 ≡ n = omega (arith, more) in e) ∙ mod_self n

-- The node holds the token, and has no grey object.
pub record Passing (shape : Shaped) (c d : Cut) (i : ℕ) (t : Token) : Type 0 where
  pub inv : Inv shape c
  pub inside : i < shape.nodes
  pub several : 2 ≤ shape.nodes
  pub held : (c i).local.ring.token ≡ Some t
  pub calm : (c i).local.heap.grey ≡ []
  pub unwrapped : int_wrap w64 (t.q +ℤ (c i).local.ring.earlier) ≡ t.q +ℤ (c i).local.ring.earlier
  pub becomes : Becomes c d i (worked (c i) (work_in (passed (c i).local)))

module _ {shape : Shaped} {c d : Cut} {i : ℕ} {t : Token} (h : Passing shape c d i t) where
  abbrev passer : LocalState
  passer = (c i).local

  pass-token : token_of passer.ring ≡ t
  pass-token = ap (λ (z : Option Token). unwrap_or z new_token) h.held

  pass-sum : sum_of passer.ring ≡ t.q +ℤ passer.ring.earlier
  pass-sum = ap (λ (z : Token). int_wrap w64 (z.q +ℤ passer.ring.earlier)) pass-token ∙ h.unwrapped

  pub pass-marking : Marking (phases_of c 0)
  pass-marking = ⊎_elim {C = Marking (phases_of c 0)}
      (λ (rest : Resting (phases_of c 0)).
      absurd (h.inv.tokens.rest t (at_node i) rest (is_held i h.held)))
      (λ (other : (phases_of c 0).ended ≢ (phases_of c 0).cycle).
      (let w = h.inv.phased.ended 0 in omega (arith, other, w)))
      (cases_eq (phases_of c 0).ended (phases_of c 0).cycle)

  pass-own : passer.own ≡ i
  pass-own = h.inv.base.own i h.inside

  pass-nodes : passer.shape.nodes ≡ shape.nodes
  pass-nodes = ap (λ (z : Shaped). z.nodes) (h.inv.base.shapes i h.inside)

  -- node 0 sends the token around again
  pass-again : (passer.own == 0) ≡ true → is_concluded passer.ring ≡ false → Inv shape d
  unfolding passed probe append
  pass-again first more =
      let zero_is : i ≡ 0 = sym pass-own ∙ eqb-true passer.own 0 first in
      let b : Becomes c d i (record {
        local = record passer { ring = whitened (without_token passer.ring) };
        sent = append_all (c i).sent
            ((passer.shape.nodes - 1, stamped passer (body.Token new_token)) ∷ []);
      }) =
      subst (λ (z : Effect). Becomes c d i (worked (c i) (work_in z)))
      (cond-true (passer.own == 0) (judged passer) (handed_on passer) first
      ∙ cond-false (is_concluded passer.ring)
      (answers (conclude passer) (answer.Ended passer.phases.cycle))
      (answers (probe (record passer { ring = without_token passer.ring })) answer.ProbeAgain)
      more)
      h.becomes in
      let last : suc (passer.shape.nodes - 1) ≡ shape.nodes =
      omega (arith, pass-nodes, h.several) in
      let leaving : Leaving shape c d i (passer.shape.nodes - 1) t new_token = record {
        inv = h.inv;
        inside = h.inside;
        receiver = omega (arith, last);
        ring =
            zero_is
            ∙ sym
            (ap (λ (z : ℕ). (z - 1 + 1) % shape.nodes) pass-nodes
            ∙ last-next shape.nodes h.several);
        marking = pass-marking;
        held = h.held;
        becomes = b;
        safra = λ _. probe-safra shape.nodes d (passer.shape.nodes - 1) last;
        bound = λ _. bound-none shape.nodes d (passer.shape.nodes - 1);
      } in
      leave-inv leaving

  -- the sum that is passed on
  pass-bound : (u : Token) (to : ℕ) → i ≡ suc to → u.q ≡ t.q +ℤ passer.ring.earlier
      → {q : LocalState} {ms : List (ℕ × Message)} → Turn c d i q ms
      → Bound shape.nodes d i t.q → Bound shape.nodes d to u.q
  pass-bound u to e sum turn _ =
      let round = h.inv.tokens.round pass-marking in
      let spot : round.spot ≡ at_node i = sym (round.only t (at_node i) (is_held i h.held)) in
      let token : round.token ≡ t =
      at-once c round.token t (at_node i) (subst (IsAt c round.token) spot round.there)
      (is_held i h.held) in
      let here : Bound shape.nodes c (suc to) t.q =
      subst (λ (z : ℕ). Bound shape.nodes c z t.q) e
      (subst (λ (z : Token). Bound shape.nodes c i z.q) token
      (subst (λ (z : Spot). Bound shape.nodes c (place_of_spot z) round.token.q) spot
      round.bound)) in
      let inside : suc to < shape.nodes = subst (λ (z : ℕ). z < shape.nodes) e h.inside in
      let next_bound : Bound shape.nodes c to (t.q +ℤ (c (suc to)).local.ring.earlier) =
      bound-forward inside here (h.inv.tallies (suc to) inside) in
      bound-turn turn
      (subst (λ (z : ℤ). Bound shape.nodes c to z)
      (ap (λ (z : ℕ). t.q +ℤ (c z).local.ring.earlier) (sym e) ∙ sym sum) next_bound)

  -- another node passes the token on
  pass-on : (passer.own == 0) ≡ false → Inv shape d
  unfolding passed append
  pass-on other =
      let above : passer.own ≢ 0 = eqb-false passer.own 0 other in
      let u : Token = forwarded passer.ring in
      let b : Becomes c d i (record {
        local = record passer { ring = whitened (without_token passer.ring) };
        sent = append_all (c i).sent ((passer.own - 1, stamped passer (body.Token u)) ∷ []);
      }) =
      subst (λ (z : Effect). Becomes c d i (worked (c i) (work_in z)))
      (cond-false (passer.own == 0) (judged passer) (handed_on passer) other) h.becomes in
      let before : i ≡ suc (passer.own - 1) = omega (arith, above, pass-own) in
      let round = h.inv.tokens.round pass-marking in
      let joined_now : Joined c i =
      round.joined i (sym (round.only t (at_node i) (is_held i h.held))) in
      let turn : Turn c d i (record passer { ring = whitened (without_token passer.ring) })
      ((passer.own - 1, stamped passer (body.Token u)) ∷ []) =
      record { becomes = b; heard = λ from. le_refl _ } in
      let forwards : Forwarding shape c d i (passer.own - 1) t u = record {
        inside = h.inside;
        before = before;
        turn = turn;
        joined = joined_now;
        calm = h.calm;
        sum = pass-sum;
        dark = λ dark. ⊎_elim {C = u.colour ≡ Black}
            (λ white.
            cond-true (is_white passer.ring.colour) (token_of passer.ring).colour Black white
            ∙ ap (λ (z : Token). z.colour) pass-token ∙ dark)
            (λ black.
            cond-false (is_white passer.ring.colour) (token_of passer.ring).colour Black black)
            (cases_Bool (is_white passer.ring.colour));
        black = λ black.
            cond-false (is_white passer.ring.colour) (token_of passer.ring).colour Black
            (white-not passer.ring.colour black);
      } in
      let leaving : Leaving shape c d i (passer.own - 1) t u = record {
        inv = h.inv;
        inside = h.inside;
        receiver = (let w = h.inside in omega (arith, w, before));
        ring =
            (let e : passer.own - 1 + 1 ≡ i = omega (arith, above, pass-own) in
            sym (ap (λ (z : ℕ). z % shape.nodes) e ∙ mod-eq_of_lt h.inside));
        marking = pass-marking;
        held = h.held;
        becomes = b;
        safra = forward-safra forwards;
        bound = λ b. pass-bound u (passer.own - 1) before pass-sum turn b;
      } in
      leave-inv leaving

  -- node 0 concludes, and informs the others
  pass-end : (passer.own == 0) ≡ true → is_concluded passer.ring ≡ true → Inv shape d
  unfolding passed conclude announce
  pass-end first concluded =
      let zero_is : i ≡ 0 = sym pass-own ∙ eqb-true passer.own 0 first in
      let parts = and_parts (is_white passer.ring.colour) _ concluded in
      let rest = and_parts (is_white (token_of passer.ring).colour) _ parts.1 in
      let p : LocalState = (c 0).local in
      let q : LocalState = record p {
        phases = record p.phases { ended = p.phases.cycle };
        ring = without_token p.ring;
      } in
      let s1 : NodeState = record { local = q; sent = (c 0).sent } in
      let c1 : Cut = put c 0 s1 in
      let at1 : c1 0 ≡ s1 = put-here c 0 s1 in
      let here : passer ≡ p = ap (λ (z : ℕ). (c z).local) zero_is in
      let b : Becomes c d i (worked (c i) (record {
        local = record passer {
          phases = record passer.phases { ended = passer.phases.cycle };
          ring = without_token passer.ring;
        };
        sends =
            to_others
            (record passer {
              phases = record passer.phases { ended = passer.phases.cycle };
              ring = without_token passer.ring;
            })
            body.Ended passer.shape.nodes;
      })) =
      subst (λ (z : Effect). Becomes c d i (worked (c i) (work_in z)))
      (cond-true (passer.own == 0) (judged passer) (handed_on passer) first
      ∙ cond-true (is_concluded passer.ring)
      (answers (conclude passer) (answer.Ended passer.phases.cycle))
      (answers (probe (record passer { ring = without_token passer.ring })) answer.ProbeAgain)
      concluded)
      h.becomes in
      let b0 : Becomes c d 0 (record {
        local = q;
        sent = append_all (c 0).sent (to_others q body.Ended p.shape.nodes);
      }) =
      at-zero i zero_is b in
      let ends : Ending shape c c1 t = record {
        inv = h.inv;
        inside = subst (λ (z : ℕ). z < shape.nodes) zero_is h.inside;
        held = ap (λ (z : ℕ). (c z).local.ring.token) (sym zero_is) ∙ h.held;
        marking = pass-marking;
        calm = ap (λ (z : ℕ). (c z).local.heap.grey) (sym zero_is) ∙ h.calm;
        white = ap (λ (z : ℕ). (c z).local.ring.colour) (sym zero_is)
            ∙ white-is passer.ring.colour parts.0;
        token_white = ap (λ (z : Token). z.colour) (sym pass-token)
            ∙ white-is (token_of passer.ring).colour rest.0;
        none =
            ap (λ (z : ℕ). t.q +ℤ (c z).local.ring.earlier) (sym zero_is)
            ∙ sym pass-sum ∙ (Decides-int_eq (sum_of passer.ring) (pos 0)).0 rest.1;
        becomes = becomes-put c 0 s1;
      } in
      let inv1 : Inv shape c1 = end-inv ends in
      let cycle1 : cycle_of c1 0 ≡ cycle_of c 0 =
      ap (λ (z : NodeState). z.local.phases.cycle) at1 in
      let ended1 : (phases_of c1 0).ended ≡ cycle_of c 0 =
      ap (λ (z : NodeState). z.local.phases.ended) at1 in
      let telling : Telling shape c1 d body.Ended = record {
        inv = inv1;
        inside = subst (λ (z : ℕ). z < shape.nodes) zero_is h.inside;
        becomes =
            subst (λ (z : NodeState). Becomes c1 d 0 (record {
              local = z.local;
              sent = append_all z.sent (to_others z.local body.Ended shape.nodes);
            })) (sym at1)
            (subst (λ (z : ℕ).
            Becomes c1 d 0
            (record { local = q; sent = append_all (c 0).sent (to_others q body.Ended z) }))
            (ap (λ (z : LocalState). z.shape.nodes) (sym here) ∙ pass-nodes)
            (becomes-from (becomes-put c 0 s1) b0));
        idle = refl;
        no_token = λ k e. absurd cc;
        fits = λ to other inside. (
          refl,
          ended1 ∙ sym cycle1,
          refl,
          (let same : (phases_of c1 to).ended ≡ (phases_of c to).ended =
              ap (λ (z : NodeState). z.local.phases.ended) ((becomes-put c 0 s1).others to other) in
              omega (arith, same, h.inv.phased.first to, pass-marking, cycle1)),
        );
        first = λ to place x single flight e.
            (let turn : Turn c c1 0 q [] = record {
              becomes = becomes-put c 0 s1;
              heard = λ from. le_refl _;
            } in
            ⊎_elim {C = ⊥}
            (λ before.
            (let fits = subst (λ (z : Body). BodyFits shape.nodes (phases_of c) 0 to x.stamp z) e
            (h.inv.messages.fits 0 to place x before) in
            omega (arith, fits.1, pass-marking)))
            (λ new. new.1)
            (flew turn 0 to place x flight));
      } in
      tell-inv telling
    where
      at-zero : (j : ℕ) → j ≡ 0
          → Becomes c d j (worked (c j) (record {
            local = record (c j).local {
              phases = record (c j).local.phases { ended = (c j).local.phases.cycle };
              ring
                  = without_token (c j).local.ring;
            };
            sends =
                to_others
                (record (c j).local {
                  phases = record (c j).local.phases { ended = (c j).local.phases.cycle };
                  ring
                      = without_token (c j).local.ring;
                })
                body.Ended (c j).local.shape.nodes;
          }))
          → Becomes c d 0 (worked (c 0) (record {
            local = record (c 0).local {
              phases = record (c 0).local.phases { ended = (c 0).local.phases.cycle };
              ring
                  = without_token (c 0).local.ring;
            };
            sends =
                to_others
                (record (c 0).local {
                  phases = record (c 0).local.phases { ended = (c 0).local.phases.cycle };
                  ring
                      = without_token (c 0).local.ring;
                })
                body.Ended (c 0).local.shape.nodes;
          }))
      at-zero j e b = subst (λ (z : ℕ). Becomes c d z (worked (c z) (record {
        local = record (c z).local {
          phases = record (c z).local.phases { ended = (c z).local.phases.cycle };
          ring
              = without_token (c z).local.ring;
        };
        sends =
            to_others
            (record (c z).local {
              phases = record (c z).local.phases { ended = (c z).local.phases.cycle };
              ring
                  = without_token (c z).local.ring;
            })
            body.Ended (c z).local.shape.nodes;
      }))) e b

  pub pass-inv : Inv shape d
  pass-inv = ⊎_elim {C = Inv shape d}
      (λ first. ⊎_elim {C = Inv shape d}
      (λ concluded. pass-end first concluded) (λ more. pass-again first more)
      (cases_Bool (is_concluded passer.ring)))
      (λ other. pass-on other)
      (cases_Bool (passer.own == 0))
