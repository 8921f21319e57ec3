-- One node of a cut changes, and sends messages: what then holds of each node, and what is in
-- flight.
use Rattle.std.proofs.Common.{◌≡◌, ◌≢◌, ℕ, ◌+◌, ◌<◌, ◌≤◌, ◌∙◌, le_refl, length-set, get_or-set_same, List, [], ◌∷◌, ◌++◌, length, get_or, set, Some, slice_get, refl, sym, ap, subst, inl, inr, ⊎_elim, ◌⊎◌, length-append, arith}
use Rattle.std.proofs.lemmas.Bool.{cases_eq}
use Rattle.msg.specs.declared.body.Message.{Message}
use Rattle.model.specs.State.{LocalState, NodeState, got_from, sent_to}
use Rattle.model.specs.Steps.{append_all}
use Rattle.model.specs.Cuts.{Cut, taken, IsInFlight, Among, Becomes}
use Rattle.model.proofs.Lookups.{at_set_if}
use Rattle.laws.proofs.Lookups.{slice_get-push, slice_get-grows, slice_get-last}
use Rattle.laws.proofs.StepFacts.{append_all-grows}

-- The node i has a new local state and has sent the messages. It hasn't forgotten any that it
-- received.
pub record Turn (c d : Cut) (i : ℕ) (p : LocalState) (ms : List (ℕ × Message)) : Type 0 where
  pub becomes : Becomes c d i (record { local = p; sent = append_all (c i).sent ms })
  pub heard : (from : ℕ) → taken c from i ≤ got_from p from

-- what holds of the changed node and of the others
pub at_becomes : {c d : Cut} {i : ℕ} {s : NodeState} (P : ℕ → NodeState → Type 0) → Becomes c d i s
    → P i s → ((j : ℕ) → j ≢ i → P j (c j)) → (j : ℕ) → P j (d j)
at_becomes {d = d} {i = i} P b here others j = ⊎_elim
    (λ (e : j ≡ i).
    subst (λ (n : ℕ). P n (d n)) (sym e) (subst (λ (z : NodeState). P i z) (sym b.changed) here))
    (λ (other : j ≢ i). subst (λ (z : NodeState). P j z) (sym (b.others j other)) (others j other))
    (cases_eq j i)

pub at_turn : {c d : Cut} {i : ℕ} {p : LocalState} {ms : List (ℕ × Message)}
    (P : ℕ → NodeState → Type 0) → Turn c d i p ms
    → P i (record { local = p; sent = append_all (c i).sent ms }) → ((j : ℕ) → j ≢ i → P j (c j))
    → (j : ℕ) → P j (d j)
at_turn P t here others = at_becomes P t.becomes here others

-- a message among those sent was there before, or is one of the new ones
abbrev pub WasOrNew : List (List Message) → List (ℕ × Message) → ℕ → ℕ → Message → Type 0
WasOrNew sent ms to place x = (slice_get (get_or sent to []) place ≡ Some x) ⊎ Among (to, x) ms

pub appended-from : (sent : List (List Message)) (ms : List (ℕ × Message)) (to place : ℕ)
    (x : Message) → slice_get (get_or (append_all sent ms) to []) place ≡ Some x
    → WasOrNew sent ms to place x
appended-from sent [] to place x there = inl there
appended-from sent ((other, y) ∷ ms) to place x there =
    let longer : List Message = get_or sent other [] ++ y ∷ [] in
    ⊎_elim {C = WasOrNew sent ((other, y) ∷ ms) to place x}
    (at_set_if (λ z. slice_get z place ≡ Some x → WasOrNew sent ((other, y) ∷ ms) to place x) sent
    other to longer []
    (λ (e : other ≡ to) h. ⊎_elim {C = WasOrNew sent ((other, y) ∷ ms) to place x}
    (λ before. inl (subst (λ (n : ℕ). slice_get (get_or sent n []) place ≡ Some x) e before))
    (λ (same : x ≡ y). inr (inl cc))
    (slice_get-push (get_or sent other []) y place x h))
    (λ h. inl h))
    (λ more. inr (inr more))
    (appended-from (set sent other longer) ms to place x there)

-- what is in flight was in flight before, or was sent now
pub flew : {c d : Cut} {i : ℕ} {p : LocalState} {ms : List (ℕ × Message)} → Turn c d i p ms
    → (from to place : ℕ) (x : Message) → IsInFlight d from to place x
    → IsInFlight c from to place x ⊎ ((from ≡ i) × Among (to, x) ms)
flew {c = c} {d = d} {i = i} {ms = ms} t from to place x flight =
    let fewer : taken c from to ≤ taken d from to =
    at_turn (λ j s. taken c from j ≤ got_from s.local from) t (t.heard from) (λ j _. omega arith)
    to in
    ⊎_elim {C = IsInFlight c from to place x ⊎ ((from ≡ i) × Among (to, x) ms)}
    (λ before. inl (record { later = omega (arith, flight.later); there = before }))
    (λ new. inr new)
    (at_turn (λ j s.
    slice_get (sent_to s to) place ≡ Some x
    → (slice_get (sent_to (c j) to) place ≡ Some x) ⊎ ((j ≡ i) × Among (to, x) ms)) t
    (λ there.
    ⊎_elim {C = (slice_get (sent_to (c i) to) place ≡ Some x) ⊎ ((i ≡ i) × Among (to, x) ms)}
    (λ before. inl before) (λ new. inr (refl, new)) (appended-from (c i).sent ms to place x there))
    (λ j _ there. inl there) from flight.there)

-- what was sent stays sent
pub sent-grows : {c d : Cut} {i : ℕ} {p : LocalState} {ms : List (ℕ × Message)} → Turn c d i p ms
    → (from to : ℕ) → length (sent_to (c from) to) ≤ length (sent_to (d from) to)
sent-grows {c = c} {i = i} {ms = ms} t from to =
    at_turn (λ j s. length (sent_to (c j) to) ≤ length (sent_to s to)) t
    (let more = append_all-grows (c i).sent ms to in
    omega (arith, ap length more.1, length-append (sent_to (c i) to) more.0))
    (λ j _. omega arith) from

-- what was in flight still is, unless it was received
pub flies : {c d : Cut} {i : ℕ} {p : LocalState} {ms : List (ℕ × Message)} → Turn c d i p ms
    → (from to place : ℕ) (x : Message) → IsInFlight c from to place x → taken d from to ≤ place
    → IsInFlight d from to place x
flies {c = c} {i = i} {ms = ms} t from to place x flight later = record {
  later = later;
  there = at_turn (λ j s.
      slice_get (sent_to (c j) to) place ≡ Some x → slice_get (sent_to s to) place ≡ Some x) t
      (λ there.
      slice_get-grows (sent_to (c i) to) _ place x (append_all-grows (c i).sent ms to) there)
      (λ j _ there. there) from flight.there;
}

-- the place at which a sent message is on its link
pub record StandsAt (c : Cut) (from to : ℕ) (x : Message) : Type 0 where
  pub place : ℕ
  pub flight : IsInFlight c from to place x

record Appended (sent : List (List Message)) (ms : List (ℕ × Message)) (to : ℕ) (x : Message)
    : Type 0 where
  place : ℕ
  later : length (get_or sent to []) ≤ place
  there : slice_get (get_or (append_all sent ms) to []) place ≡ Some x

appended-at : (sent : List (List Message)) (ms : List (ℕ × Message)) (to : ℕ) (x : Message)
    → to < length sent → Among (to, x) ms → Appended sent ms to x
appended-at sent [] to x inside never = absurd never
appended-at sent ((other, y) ∷ ms) to x inside (inl e) =
    let here : to ≡ other = ap (λ (z : ℕ × Message). z.0) e in
    let same : x ≡ y = ap (λ (z : ℕ × Message). z.1) e in
    let longer : List Message = get_or sent other [] ++ y ∷ [] in
    let placed : slice_get (get_or (set sent other longer) to []) (length (get_or sent to []))
    ≡ Some x =
    ap (λ (z : List Message). slice_get z (length (get_or sent to [])))
    (ap (λ (z : ℕ). get_or (set sent other longer) z []) here
    ∙ get_or-set_same sent other longer [] (subst (λ (z : ℕ). z < length sent) here inside))
    ∙ ap (λ (z : ℕ). slice_get longer (length (get_or sent z []))) here
    ∙ slice_get-last (get_or sent other []) y
    ∙ ap Some (sym same) in
    record {
      place = length (get_or sent to []);
      later = le_refl _;
      there = slice_get-grows _ _ (length (get_or sent to [])) x
          (append_all-grows (set sent other longer) ms to) placed;
    }
appended-at sent ((other, y) ∷ ms) to x inside (inr rest) =
    let longer : List Message = get_or sent other [] ++ y ∷ [] in
    let found = appended-at (set sent other longer) ms to x
    (subst (λ (z : ℕ). to < z) (sym (length-set sent other longer)) inside) rest in
    let more : length (get_or sent to []) ≤ length (get_or (set sent other longer) to []) =
    at_set_if (λ z. length (get_or sent to []) ≤ length z) sent other to longer []
    (λ (e : other ≡ to).
    let grew : length longer ≡ length (get_or sent other []) + 1 =
    length-append (get_or sent other []) (y ∷ []) in
    let at : length (get_or sent to []) ≡ length (get_or sent other []) =
    ap (λ (z : ℕ). length (get_or sent z [])) (sym e) in
    omega (arith, grew, at)) (le_refl _) in
    record { place = found.place; later = omega (arith, more, found.later); there = found.there }

-- what is sent is then in flight
pub sent-flies : {c d : Cut} {i : ℕ} {p : LocalState} {ms : List (ℕ × Message)} → Turn c d i p ms
    → (to : ℕ) (x : Message) → to < length (c i).sent
    → taken d i to ≤ length (sent_to (c i) to) → Among (to, x) ms → StandsAt d i to x
sent-flies {c = c} {d = d} {i = i} {ms = ms} t to x inside heard sent =
    let found = appended-at (c i).sent ms to x inside sent in
    record {
      place = found.place;
      flight = record {
        later = omega (arith, heard, found.later);
        there =
            ap (λ (z : NodeState). slice_get (sent_to z to) found.place) t.becomes.changed
            ∙ found.there;
      };
    }
