-- A message that is received: each body by an errand and a step that can't fail.
use Rattle.std.proofs.Common.{◌≡◌, ◌≢◌, ℕ, ◌+◌, ◌<◌, Bool, true, false, ◌≤◌, ◌==◌, ◌&&◌, cond, List, [], ◌∷◌, ◌++◌, length, length-append, take, drop, Option, Some, None, option_to_list, Ok, Err, append-nil, append_assoc, ap, refl, sym, ◌∙◌, subst, arith, le_refl, le-ltb}
use Rattle.std.specs.Prelude.{nat_le, nat_lt, is_none, slice_index_or}
use Rattle.std.specs.Int.{w64, to_be_bytes}
use Rattle.std.proofs.Math.Nat.{min-le_left}
use Rattle.std.proofs.lemmas.List.{length-take}
use Rattle.std.specs.Borrow.{Bor}
use Rattle.std.proofs.lemmas.Bool.{and_parts, cond_both, eqb-true, leb-true, ltb-true}
use Rattle.std.proofs.lemmas.Bool.Decides.{nat_tests}
use Rattle.ids.specs.declared.limits.TheConstants.{GREATEST_LETTER, GREATEST_PLACES, WORD_BYTES}
use Rattle.ids.specs.declared.names.Ref.{Ref}
use Rattle.msg.specs.Limits.{fetch_fits}
use Rattle.ids.specs.declared.refusal.Refusal.{Refusal}
use Rattle.msg.specs.declared.body.Body.{Body}
use Rattle.msg.specs.declared.body.Body.TheVariants as body
use Rattle.msg.specs.declared.body.Message.{Message}
use Rattle.msg.specs.declared.body.Token.{Token}
use Rattle.model.specs.declared.event.Answer.TheVariants as answer
use Rattle.cycles.specs.Phases.{with_ended, with_report}
use Rattle.model.specs.Counting.{append}
use Rattle.model.specs.Effects.{Effect, Work, answers, at_rest, then}
use Rattle.model.specs.Heaps.{fetched, has_range, object_at, place_of, share_all, with_place}
use Rattle.model.specs.Shading.{filled, is_calm, is_open, join, joined, see_to}
use Rattle.model.specs.State.{Object, LocalState, Phases, got_from}
use Rattle.model.specs.Steps.{answer_fetch, answer_get, post, count_in, is_marking, may_follow, may_settle, settled, take_body, take_carried, taken_in}
use Rattle.model.specs.View.{NodeView, Performed, view_taken}
use Rattle.model.proofs.Joining.{calm-none, join-phases}
use Rattle.model.proofs.Leaving.{Stands, stands-walks}
use Rattle.model.proofs.Shading.{see_to-none, see_to-then}
use Rattle.model.proofs.Stocks.{open-apart}
use Rattle.model.proofs.Walk.{joined-walks, taken-walks}
use Rattle.node.specs.Errands.{IsRun, Runs, errand, errand_here, extra_work}
use Rattle.node.specs.Taking.{IsSender, IsTakable, followed}
use Rattle.node.specs.declared.node_core.errands.Extra.{Extra}
use Rattle.node.specs.declared.node_core.errands.Extra.TheVariants as extra
use Rattle.node.proofs.Events.{shaded, shaded-refused}
use Rattle.node.proofs.Runs.{run-then, runs-refused, stepped}
use Rattle.node.proofs.Places.{joined-fetched, joined-places, seen-fetched, seen-places}

-- ---- the message counts

module _ (n : NodeView) (from stamp : ℕ) (b : Body) where
  followed-stands : Stands n.local (followed from stamp b n.local).local
  unfolding followed
  followed-stands = taken-walks stands-walks n.local from stamp b

  pub run-sender : {mid : NodeView} → IsRun (followed from stamp b n.local) n mid
      → IsSender n.local from → IsSender mid.local from
  run-sender {mid = mid} run sender =
      let is : Stands n.local mid.local =
      subst (λ (m : NodeView). Stands n.local m.local) (sym run.now) followed-stands in
      record {
        there = rw is.shape sender.there;
        other = λ same. sender.other (same ∙ is.own);
        room = rw is.got sender.room;
      }

  abbrev counts : LocalState → LocalState
  counts p = count_in from (got_from p from + 1) stamp b p

  abbrev taken : Effect
  taken = taken_in n.local from (got_from n.local from + 1) stamp b

  taken-is : taken
      ≡ answers
      (record {
        local = counts (followed from stamp b n.local).local;
        sends = (followed from stamp b n.local).sends;
      })
      answer.Received
  unfolding taken_in settled followed
  taken-is =
      let w : Work = followed from stamp b n.local in
      ap (λ (got : List ℕ).
      answers
      (record {
        local = count_in from (slice_index_or got from 0 + 1) stamp b w.local;
        sends = w.sends;
      })
      answer.Received) (sym followed-stands.got)

  pub taken-performed : {mid new : NodeView} → IsRun (followed from stamp b n.local) n mid
      → new ≡ record mid { local = counts mid.local }
      → Performed true (Ok answer.Received) n new (view_taken n from stamp b)
  taken-performed run step = shaded taken-is (run-then counts run step)

  pub taken-refused : {e : Refusal} {new : NodeView}
      → Runs (Err e) (followed from stamp b n.local) n new
      → Performed true (Err e) n new (view_taken n from stamp b)
  taken-refused runs = shaded-refused taken-is (runs-refused refl runs)

-- ---- the tests

module _ {p : LocalState} {from stamp : ℕ} {b : Body} (t : IsTakable p from stamp b) where
  pub follows : may_follow p from b ≡ true
  follows = grind (arith, nat_tests, t.may)

  pub settles : may_settle (joined p stamp).local stamp b ≡ true
  settles = grind (arith, nat_tests, t.may)

-- what the tests of these bodies say of the node that has joined
module _ (p : LocalState) (stamp : ℕ) where
  abbrev now : LocalState
  now = (joined p stamp).local

  pub token-open : {from : ℕ} {token : Token} → IsTakable p from stamp (body.Token token)
      → now.phases.ended ≢ now.phases.cycle
  token-open t =
      let both = and_parts (is_marking now stamp) (is_none now.ring.token) (settles t) in
      open-apart now (and_parts (stamp == now.phases.cycle) (is_open now) both.0).1

  ended-both : {from : ℕ} → IsTakable p from stamp body.Ended
      → (is_calm now.heap ≡ true) × (is_none now.ring.token ≡ true)
  ended-both t =
      and_parts (is_calm now.heap) (is_none now.ring.token)
      (and_parts (is_marking now stamp) (is_calm now.heap && is_none now.ring.token) (settles t)).1

  pub ended-calm : {from : ℕ} → IsTakable p from stamp body.Ended → now.heap.grey ≡ []
  ended-calm t = calm-none now.heap (ended-both t).0

  pub ended-free : {from : ℕ} → IsTakable p from stamp body.Ended → now.ring.token ≡ None
  ended-free t = absent now.ring.token (ended-both t).1
    where
      absent : (o : Option Token) → is_none o ≡ true → o ≡ None
      absent None none = refl
      absent (Some token) none = absurd cc

  pub swept-now : {from : ℕ} → IsTakable p from stamp body.Swept → stamp ≡ now.phases.cycle
  swept-now t = eqb-true stamp now.phases.cycle (settles t)

-- ---- the sizes of letters

-- what a letter carries isn't more than a letter may carry
pub post-few : {p : LocalState} {from stamp label : ℕ} {vs : List (Option Ref)} {bs : List ℕ}
    → IsTakable p from stamp (body.Post label vs bs) → length vs ≤ GREATEST_PLACES
post-few {vs = vs} t =
    leb-true (length vs) GREATEST_PLACES
    (and_parts (nat_le (length vs) GREATEST_PLACES) _ t.fits).0

-- and only a wide space has such a letter
pub post-wide : {p : LocalState} {from stamp label : ℕ} {vs : List (Option Ref)} {bs : List ℕ}
    → IsTakable p from stamp (body.Post label vs bs) → p.shape.wide ≡ true
post-wide {p} {vs = vs} {bs = bs} t =
    (and_parts p.shape.wide
    (nat_le (length vs) p.shape.places && nat_le (length bs) GREATEST_LETTER) (follows t)).0

fetched-short : (o : Option Object) (offset count : ℕ)
    → length (fetched o offset count) ≤ WORD_BYTES + count
fetched-short None offset count = omega arith
fetched-short (Some o) offset count =
    let xs : List ℕ = take count (drop offset o.bytes) in
    let taken : length xs ≤ count =
    rw (length-take count (drop offset o.bytes)) (min-le_left count (length (drop offset o.bytes)))
    in
    let part : length (cond (has_range o.bytes offset count) xs []) ≤ count =
    cond_both (has_range o.bytes offset count) xs [] (λ (ys : List ℕ). length ys ≤ count)
    (λ _. taken) (λ _. omega arith) in
    let word : length (to_be_bytes w64 o.word) ≡ WORD_BYTES = refl in
    let both = length-append (to_be_bytes w64 o.word) (cond (has_range o.bytes offset count) xs [])
    in
    omega (arith, part, word, both)

-- nor is what is sent back for a Fetch
pub fetch-small : {p : LocalState} {from stamp label offset count : ℕ} {target : Ref}
    {bs : List ℕ} (o : Option Object)
    → IsTakable p from stamp (body.Fetch target label offset count)
    → bs ≡ fetched o offset count → (p.shape.wide ≡ true) × (length bs ≤ GREATEST_LETTER)
fetch-small {p} {offset = offset} {count = count} {target = target} o t read =
    let both = and_parts p.shape.wide (fetch_fits count)
    (and_parts (target.node == p.own) (p.shape.wide && fetch_fits count) (follows t)).1 in
    let fits = leb-true (WORD_BYTES + count) GREATEST_LETTER both.1 in
    (both.0, omega (arith, fits, fetched-short o offset count, ap length read))

-- ---- its body

joined-cycle : (p : LocalState) (stamp : ℕ)
    → nat_lt stamp (joined p stamp).local.phases.cycle ≡ nat_lt stamp p.phases.cycle
joined-cycle p stamp =
    cond_both (nat_lt p.phases.cycle stamp) (join p stamp) (at_rest p)
    (λ (w : Work). nat_lt stamp w.local.phases.cycle ≡ nat_lt stamp p.phases.cycle)
    (λ later.
    let less : p.phases.cycle < stamp = ltb-true p.phases.cycle stamp later in
    ap (λ (z : Phases). nat_lt stamp z.cycle) (join-phases p stamp)
    ∙ le-ltb stamp stamp (le_refl stamp)
    ∙ sym (le-ltb stamp p.phases.cycle (omega (arith, less))))
    (λ _. refl)

pub filled-one : (v : Option Ref) → filled (v ∷ []) ≡ option_to_list v
filled-one None = refl
filled-one (Some r) = refl

module _ (from stamp : ℕ) (p : LocalState) where
  abbrev q : LocalState
  q = (joined p stamp).local

  abbrev late : Bool
  late = nat_lt stamp p.phases.cycle

  by-errand : (b : Body) {v : Work} → then (take_carried stamp b q) (take_body from stamp b) ≡ v
      → followed from stamp b p
      ≡ record { local = v.local; sends = (joined p stamp).sends ++ v.sends }
  unfolding followed
  by-errand b same =
      ap (λ (w : Work). record { local = w.local; sends = (joined p stamp).sends ++ w.sends }) same

  quiet : (f : LocalState → LocalState)
      → then (see_to (nat_lt stamp q.phases.cycle) [] q) (λ z. at_rest (f z))
      ≡ stepped (errand_here false [] extra.Nothing q) f
  unfolding errand_here
  quiet f =
      ap (λ (w : Work). then w (λ z. at_rest (f z)))
      (see_to-none (nat_lt stamp q.phases.cycle) q ∙ sym (see_to-none false q))

  pub begin-followed : followed from stamp body.Begin p ≡ errand stamp false [] extra.Nothing p
  unfolding take_body errand
  begin-followed = by-errand body.Begin (quiet (λ z. z))

  pub token-followed : (token : Token) → followed from stamp (body.Token token) p
      ≡ stepped (errand stamp false [] extra.Nothing p)
      (λ z. record z { ring = record z.ring { token = Some token } })
  unfolding take_body errand
  token-followed token =
      let f : LocalState → LocalState =
      λ z. record z { ring = record z.ring { token = Some token } } in
      by-errand (body.Token token) (quiet f)

  pub ended-followed : followed from stamp body.Ended p
      ≡ stepped (errand stamp false [] extra.Nothing p)
      (λ z. record z { phases = with_ended z.phases })
  unfolding take_body errand
  ended-followed =
      let f : LocalState → LocalState = λ z. record z { phases = with_ended z.phases } in
      by-errand body.Ended (quiet f)

  pub swept-followed : followed from stamp body.Swept p
      ≡ stepped (errand stamp false [] extra.Nothing p)
      (λ z. record z { phases = with_report from stamp z.phases })
  unfolding take_body errand
  swept-followed =
      let f : LocalState → LocalState =
      λ z. record z { phases = with_report from stamp z.phases } in
      by-errand body.Swept (quiet f)

  pub mark-followed : (target : Ref) → followed from stamp (body.Mark target) p
      ≡ errand stamp true (filled (Some target ∷ [])) extra.Nothing p
  unfolding take_body errand errand_here
  mark-followed target =
      by-errand (body.Mark target) same
    where
      same : then (take_carried stamp (body.Mark target) q)
          (take_body from stamp (body.Mark target))
          ≡ errand_here true (target ∷ []) extra.Nothing q
      same =
          let w : Work = see_to true (target ∷ []) q in
          ap (λ (z : Work). then z (see_to true (target ∷ [])))
          (see_to-none (nat_lt stamp q.phases.cycle) q)
          ∙ ap (λ (ms : List (ℕ × Message)). record { local = w.local; sends = ms })
          (sym (append-nil w.sends))

  pub give-followed : (due : Bool) (label : ℕ) (v : Option Ref) → due ≡ late
      → followed from stamp (body.Give label v) p
      ≡ errand stamp due (filled (v ∷ []))
      (extra.Letter from label v) p
  unfolding take_body errand errand_here
  give-followed due label v is =
      by-errand (body.Give label v) same
    where
      l : Extra
      l = extra.Letter from label v

      same : then (take_carried stamp (body.Give label v) q)
          (take_body from stamp (body.Give label v))
          ≡ errand_here due (filled (v ∷ [])) l q
      same = rw (is, joined-cycle p stamp, filled-one v) refl

  pub post-followed : (due : Bool) (label : ℕ) (references : Bor (List (Option Ref)))
      (bytes : Bor (List ℕ)) {vs : List (Option Ref)} → due ≡ late → references.now ≡ vs
      → followed from stamp (body.Post label vs bytes.now) p
      ≡ errand stamp due (filled references.now) (extra.Letters from label references bytes) p
  unfolding take_body errand errand_here
  post-followed due label references bytes {vs = vs} is same =
      by-errand (body.Post label vs bytes.now)
      {v = errand_here due (filled references.now) (extra.Letters from label references bytes) q}
      (rw (is, joined-cycle p stamp, same) refl)

  -- What is fetched is read before the node joins. Marking doesn't change it.
  pub fetch-followed : (due : Bool) (target : Ref) (label offset count : ℕ) (bytes : Bor (List ℕ))
      → due ≡ late → bytes.now ≡ fetched (object_at p.heap target) offset count
      → followed from stamp (body.Fetch target label offset count) p
      ≡ errand stamp due (filled (Some target ∷ [])) (extra.Report from label bytes) p
  unfolding take_body errand errand_here append
  fetch-followed due target label offset count bytes is read =
      by-errand (body.Fetch target label offset count)
      {v = errand_here due (target ∷ []) (extra.Report from label bytes) q} same
    where
      same : then (take_carried stamp (body.Fetch target label offset count) q)
          (take_body from stamp (body.Fetch target label offset count))
          ≡ errand_here due (target ∷ []) (extra.Report from label bytes) q
      same =
          let late-now : Bool = nat_lt stamp q.phases.cycle in
          let w : Work = see_to late-now (target ∷ []) q in
          let there : fetched (object_at w.local.heap target) offset count ≡ bytes.now =
          seen-fetched target offset count late-now (target ∷ []) q
          ∙ joined-fetched target offset count p stamp ∙ sym read in
          ap (λ (z : List ℕ). then w (answer_fetch from label z)) there
          ∙ ap (λ (b : Bool). then (see_to b (target ∷ []) q)
          (extra_work (extra.Report from label bytes))) (joined-cycle p stamp ∙ sym is)

  pub put-followed : (due : Bool) (target : Ref) (place : ℕ) (v : Option Ref) → due ≡ late
      → followed from stamp (body.Put target place v) p
      ≡ stepped (errand stamp due (filled (Some target ∷ v ∷ [])) extra.Nothing p)
      (λ z. record z { heap = with_place z.own z.heap target place v })
  unfolding take_body errand errand_here
  put-followed due target place v is =
      by-errand (body.Put target place v)
      {v = stepped (errand_here due (filled (Some target ∷ v ∷ [])) extra.Nothing q)
      (λ z. record z { heap = with_place z.own z.heap target place v })}
      (rw (is, joined-cycle p stamp, filled-one v) refl)

  -- What is in the place is read before the node joins. Marking doesn't change it.
  pub get-followed : (target : Ref) (place label : ℕ) {v : Option Ref}
      → (target.node == p.own) ≡ true → v ≡ place_of (object_at p.heap target) place
      → followed from stamp (body.Get target place label) p
      ≡ stepped (errand stamp true (filled (Some target ∷ v ∷ [])) (extra.Answer from label v) p)
      (λ z. record z { heap = share_all z.own z.heap (option_to_list v) })
  unfolding take_body errand errand_here append
  get-followed target place label {v = v} own is =
      by-errand (body.Get target place label) same
    where
      same : then (take_carried stamp (body.Get target place label) q)
          (take_body from stamp (body.Get target place label))
          ≡ stepped
          (errand_here true (filled (Some target ∷ v ∷ [])) (extra.Answer from label v) q)
          (λ z. record z { heap = share_all z.own z.heap (option_to_list v) })
      same =
          let due : Bool = nat_lt stamp q.phases.cycle in
          let here : (target.node == q.own) ≡ true =
          ap (λ (k : ℕ). target.node == k) (joined-walks stands-walks.moves.collects p stamp).own
          ∙ own in
          let w : Work = see_to due (target ∷ []) q in
          let there : place_of (object_at w.local.heap target) place ≡ v =
          seen-places due (target ∷ []) q target place ∙ joined-places p stamp target place
          ∙ sym is in
          let s : Work = see_to true (option_to_list v) w.local in
          let a : Work = post from (body.Give label v) s.local in
          ap (λ (z : Option Ref). then w (answer_get from label z)) there
          ∙ ap (λ (ms : List (ℕ × Message)). record { local = a.local; sends = ms })
          (sym (append_assoc w.sends s.sends a.sends))
          ∙ ap (λ (z : Work). then z (post from (body.Give label v)))
          (see_to-then due target (option_to_list v) q here
          ∙ ap (λ (rs : List Ref). see_to true (target ∷ rs) q) (sym (filled-one v)))

pub ruleset following = (
  begin-followed,
  token-followed,
  mark-followed,
  give-followed,
  post-followed,
  fetch-followed,
  put-followed,
  get-followed,
  ended-followed,
  swept-followed,
)
