-- From any space that a run reaches, marking ends.
use Rattle.std.proofs.Common.{◌≡◌, ◌≢◌, ℕ, ◌+◌, ◌-◌, ◌<◌, ◌≤◌, ◌⊎◌, true, false, List, refl, sym, ap, ◌∙◌, subst, ⊎_elim, inl, inr, arith, ◌*◌, length, mul-le-mul_right, mul-le-mul_left, map}
use Rattle.std.proofs.lemmas.Bool.{cases_Bool, cases_eq, cases_lt, both_ways, not-true, not-false}
use Rattle.ids.specs.Limits.{Shaped}
use Rattle.msg.specs.declared.body.Message.{Message}
use Rattle.model.specs.State.{LocalState, NodeState}
use Rattle.model.specs.Shading.{is_open}
use Rattle.model.specs.World.{World, run}
use Rattle.model.specs.Cuts.{Cut}
use Rattle.laws.proofs.Flights.{load_sent}
use Rattle.laws.proofs.Inner.{marking-open}
use Rattle.laws.proofs.Invariant.{phases_of, cycle_of, Marking, Inv}
use Rattle.laws.specs.Strategy.{Move, Do, now, is_grey, next_move, next_steps}
use Rattle.laws.specs.Bounds.{weight, HasRoom, work_left, whole_work, rounds}
use Rattle.laws.proofs.progress.Flights.{room-after, room-less, numbers-fit}
use Rattle.laws.proofs.progress.Paths.{Onward, Reaches, searched}
use Rattle.laws.proofs.progress.Choices.{Chosen, brings, scans, passes, sweeps, begins, chosen}
use Rattle.laws.proofs.progress.Spaces.{Reached, reached-whole, Link, message_of, Moved, do-moved, effect_there, would-take, link-brought, link-took}
use Rattle.laws.proofs.progress.Costs.{is_token, token-there}
use Rattle.laws.proofs.progress.Stages.{Budget, budget-less, budget-new}
use Rattle.laws.proofs.progress.TokenMoves.{Idles, TokenMove, moves_on, ends, token-effect, token-comes, passed-few, token-passes}
use Rattle.laws.proofs.Live.{several}
use Rattle.laws.proofs.progress.Falls.{Falls, took-falls, scan-falls}
use Rattle.model.specs.Effects.{Effect}
use Rattle.model.specs.Collecting.{scanned, passed}
use Rattle.model.specs.Steps.{append_all, fits}
use Rattle.model.proofs.Leaving.{own-stands}
use Rattle.laws.proofs.Base.{own-heard}
use Rattle.laws.proofs.Acting.{becomes-put}
use Rattle.model.specs.declared.event.Event.TheVariants as event

-- A search: the cycle, the numbers that links must keep, the moves that all but the token may need,
-- and what stays true. What stays true may speak of work, which grows by what the last move sends.
pub record Hunt : Type 1 where
  pub shape : Shaped
  pub cycle : ℕ
  pub spare : ℕ
  pub left : World → ℕ
  pub Keeps : ℕ → World → Type 0

pub record Known (h : Hunt) (extra : ℕ) (w : World) : Type 0 where
  pub reached : Reached h.shape w
  pub cycle : cycle_of (now w) 0 ≡ h.cycle
  pub keeps : h.Keeps extra w

-- marking has ended; the messages that say so may be in flight
pub record Over (h : Hunt) (w : World) : Type 0 where
  pub known : Known h h.shape.nodes w
  pub ended : (phases_of (now w) 0).ended ≡ h.cycle
  pub room : HasRoom h.spare (now w)

-- marking goes on
pub record Going (h : Hunt) (w : World) (budget : ℕ) : Type 0 where
  pub known : Known h 0 w
  pub marking : Marking (phases_of (now w) 0)
  pub room : HasRoom (budget + h.shape.nodes + h.spare) (now w)
  pub spends : Budget h.shape.nodes (now w) (h.left w) budget

abbrev pub Hunted : Hunt → World → ℕ → Type 0
Hunted h w budget = Over h w ⊎ Going h w budget

-- what the moves do that aren't the token's
pub record Rules (h : Hunt) : Type 0 where
  pub more : (k l : ℕ) (w : World) → k ≤ l → h.Keeps k w → h.Keeps l w
  pub idle : (w : World) (i : ℕ) (q : LocalState) (ms : List (ℕ × Message)) → Known h 0 w
      → Idles h.shape.nodes (now w) (now (run w (next_steps h.shape.nodes w))) i q ms
      → h.Keeps (load_sent weight ms) (run w (next_steps h.shape.nodes w))
  pub less : (w : World) (i : ℕ) (q : LocalState) (ms : List (ℕ × Message))
      → Idles h.shape.nodes (now w) (now (run w (next_steps h.shape.nodes w))) i q ms
      → load_sent weight ms ≡ 0
      → h.left (run w (next_steps h.shape.nodes w)) ≤ h.left w
  pub receives : (w : World) (budget from to : ℕ) → Going h w budget
      → (l : Link h.shape w from to)
      → (is_token (message_of l).body ≡ false) ⊎ (cycle_of (now w) to < (message_of l).stamp)
      → Onward h.shape.nodes (Hunted h) w budget
  pub scans_one : (w : World) (budget i : ℕ) → Going h w budget → i < h.shape.nodes
      → next_move h.shape.nodes (now w) ≡ Do i event.Scan → is_grey (now w) i ≡ true
      → Onward h.shape.nodes (Hunted h) w budget

-- a space in which marking goes on or not
pub hunt-on : {h : Hunt} (w : World) (budget : ℕ) → (h.Keeps 0 w → h.Keeps h.shape.nodes w)
    → Known h 0 w
    → HasRoom (budget + h.shape.nodes + h.spare) (now w)
    → (Marking (phases_of (now w) 0) → Budget h.shape.nodes (now w) (h.left w) budget)
    → Hunted h w budget
hunt-on {h = h} w budget more k room spends = ⊎_elim {C = Hunted h w budget}
    (λ (rest : (phases_of (now w) 0).ended ≡ cycle_of (now w) 0).
    inl (record {
      known = record {
        reached = k.reached;
        cycle = k.cycle;
        keeps = more k.keeps;
      };
      ended = rest ∙ k.cycle;
      room = room-less (now w) (budget + h.shape.nodes + h.spare) h.spare (omega arith) room;
    }))
    (λ (other : (phases_of (now w) 0).ended ≢ cycle_of (now w) 0).
    let marking : Marking (phases_of (now w) 0) =
    omega (arith, (reached-whole k.reached).inv.phased.ended 0, other) in
    inr (record { known = k; marking = marking; room = room; spends = spends marking }))
    (cases_eq (phases_of (now w) 0).ended (cycle_of (now w) 0))

module _ {h : Hunt} (rules : Rules h) {w : World} {budget : ℕ} (g : Going h w budget) where
  abbrev n : ℕ
  n = h.shape.nodes

  abbrev c : Cut
  c = now w

  abbrev v : World
  v = run w (next_steps n w)

  inv : Inv h.shape c
  inv = (reached-whole g.known.reached).inv

  idle-known : {i : ℕ} {q : LocalState} {ms : List (ℕ × Message)} (most : ℕ)
      → Reached h.shape v → Idles n c (now v) i q ms → load_sent weight ms ≤ most → Known h most v
  idle-known {i} {q} {ms} most reached idle load = record {
    reached = reached;
    cycle = idle.cycle 0 ∙ g.known.cycle;
    keeps = rules.more (load_sent weight ms) most v load (rules.idle w i q ms g.known idle);
  }

  -- the token moves, or node 0 concludes
  token-onward : {j : ℕ} {p : LocalState} {xs : List (ℕ × Message)} → Moved h.shape w j p xs
      → TokenMove n c (now v) (h.left w) budget → Onward n (Hunted h) w budget
  token-onward moved (moves_on i q ms idle few load spends) =
      record {
        goes = moved.goes;
        rest = budget - 1;
        less = omega (arith, g.spends.enough);
        then = hunt-on v (budget - 1) (rules.more 0 n v (omega arith))
            (idle-known 0 moved.reached idle (omega (arith, load)))
            (room-after (budget + n + h.spare) (budget - 1 + n + h.spare) idle.turn
            (omega (arith, g.spends.enough, few)) g.room)
            (λ _.
            budget-less (h.left w) (h.left v) (budget - 1) (rules.less w i q ms idle load) spends);
      }
  token-onward moved (ends i q ms idle few load ended) =
      record {
        goes = moved.goes;
        rest = 0;
        less = omega (arith, g.spends.enough);
        then = inl (record {
          known = idle-known n moved.reached idle load;
          ended = ended ∙ g.known.cycle;
          room = room-after (budget + n + h.spare) h.spare idle.turn (omega (arith, few))
              g.room;
        });
      }

  receive-onward : (from to : ℕ) → Link h.shape w from to → Onward n (Hunted h) w budget
  receive-onward from to l = ⊎_elim {C = Onward n (Hunted h) w budget}
      (λ token. ⊎_elim {C = Onward n (Hunted h) w budget}
      (λ (ahead : cycle_of c to < (message_of l).stamp).
      rules.receives w budget from to g l (inr ahead))
      (λ (here : (message_of l).stamp ≤ cycle_of c to).
      let t = token-there (message_of l).body token in
      let moved = link-brought l
      (subst (λ (y : Effect). fits (map length (c to).sent) y.sends ≡ true)
      (sym (token-effect c from to (message_of l) t.0 t.1 here)) refl) in
      token-onward moved (token-comes (link-took l moved) t.0 t.1 here g.marking g.spends))
      (cases_lt (cycle_of c to) (message_of l).stamp))
      (λ other. rules.receives w budget from to g l (inl other))
      (cases_Bool (is_token (message_of l).body))

  hunt-onward : Onward n (Hunted h) w budget
  hunt-onward = by (next_move n c) refl (chosen inv)
    where
      never : is_open (c 0).local ≡ false → Onward n (Hunted h) w budget
      never shut = absurd (both_ways _ shut (marking-open inv g.marking refl))

      by : (m : Move) → next_move n c ≡ m → Chosen n c m → Onward n (Hunted h) w budget
      by m is (brings from to f t waiting) =
          receive-onward from to (record {
            reached = g.known.reached;
            chosen = is;
            sender = f;
            inside = t;
            waiting = waiting;
          })
      by m is (scans i inside opened grey) = rules.scans_one w budget i g inside is grey
      by m is (passes i inside still opened calm has) =
          let nodes : (c i).local.shape.nodes ≡ n =
          ap (λ (z : Shaped). z.nodes) (inv.base.shapes i inside) in
          let few = passed-few (c i).local (omega (arith, nodes, inside)) in
          let moved = do-moved w i event.Pass (record {
            reached = g.known.reached;
            chosen = is;
            inside = inside;
            own = refl;
            collectors = refl;
            passed = (has, (not-false _ (calm i inside), tt));
            numbered =
                numbers-fit c i (passed (c i).local).sends
                (room-less c (budget + n + h.spare) (length (passed (c i).local).sends)
                (omega (arith, few, nodes)) g.room);
          }) in
          token-onward moved
          (token-passes (record {
            limits = g.known.reached.limits;
            whole = reached-whole g.known.reached;
            inside = inside;
            has = has;
            turn = moved.turn;
          }) g.marking g.spends still)
      by m is (sweeps i inside still shut unswept) = never shut
      by m is (begins still shut all) = never shut

pub hunted : {h : Hunt} (w : World) (budget : ℕ) → Rules h → Hunted h w budget
    → Reaches h.shape.nodes (Over h) budget w
hunted {h = h} w budget rules start =
    searched (λ u most s. ⊎_elim {C = Over h u ⊎ Onward h.shape.nodes (Hunted h) u most}
    (λ over. inl over) (λ going. inr (hunt-onward rules going)) s) w budget start

-- what a search keeps to: the cycle, the most work, and the numbers that links must keep
pub record Aim : Type 0 where
  pub shape : Shaped
  pub cycle : ℕ
  pub work : ℕ
  pub both : ℕ
  pub spare : ℕ

-- the work that is left, and with it what the next cycle may have to do
pub record Works (a : Aim) (extra : ℕ) (w : World) : Type 0 where
  pub few : work_left a.shape.nodes (now w) ≤ a.work + extra
  pub both : work_left a.shape.nodes (now w) + whole_work a.shape.nodes (now w) ≤ a.both + extra

-- each unit of work may cost three rounds of the token
abbrev pub marks : Aim → Hunt
marks a = record {
  shape = a.shape;
  cycle = a.cycle;
  spare = a.spare;
  left = λ w. 6 * a.shape.nodes * work_left a.shape.nodes (now w);
  Keeps = Works a;
}

product-falls : (n less more sent : ℕ) → 1 ≤ n → less + sent + 1 ≤ more
    → 6 * n * less + 6 * n + sent ≤ 6 * n * more
product-falls n less more sent positive falls =
    let a : n * (less + sent + 1) ≤ n * more = mul-le-mul_left n falls in
    let b : 1 * sent ≤ n * sent = mul-le-mul_right sent positive in
    omega (arith, a, b)

marks-more : (a : Aim) (k l : ℕ) (w : World) → k ≤ l → Works a k w → Works a l w
marks-more a k l w le h = record {
  few = omega (arith, h.few, le);
  both = omega (arith, h.both, le);
}

module _ (a : Aim) {w : World} {budget : ℕ} (g : Going (marks a) w budget) where
  abbrev count : ℕ
  count = a.shape.nodes

  abbrev old : Cut
  old = now w

  abbrev new : World
  new = run w (next_steps count w)

  old_inv : Inv a.shape old
  old_inv = (reached-whole g.known.reached).inv

  -- there is room for what a move sends, if the work falls
  room-for : (i : ℕ) (ms : List (ℕ × Message)) → i < count → length ms + 1 ≤ work_left count old
      → HasRoom (length ms) old
  room-for i ms inside few =
      let enough = g.spends.enough in
      let all : 1 * work_left count old ≤ count * work_left count old =
      mul-le-mul_right (work_left count old) (omega (arith, inside)) in
      room-less old (budget + count + a.spare) (length ms) (omega (arith, few, enough, all)) g.room

  -- the work falls
  fallen : {i : ℕ} {q : LocalState} {ms : List (ℕ × Message)}
      → Moved a.shape w i q ms → Falls count old (now new) ms
      → Onward count (Hunted (marks a)) w budget
  fallen {ms = ms} m f =
      let k = g.known in
      let falls = product-falls count (work_left count (now new)) (work_left count old) (length ms)
      (omega (arith, several k.reached.limits)) f.work in
      let rest : ℕ = 6 * count * work_left count (now new) + 6 * count in
      let known : Known (marks a) 0 new = record {
        reached = m.reached;
        cycle = f.cycle ∙ k.cycle;
        keeps = record {
          few = omega (arith, f.work, k.keeps.few);
          both = omega (arith, f.both, k.keeps.both);
        };
      } in
      record {
        goes = m.goes;
        rest = rest;
        less = omega (arith, falls, g.spends.enough);
        then = hunt-on new rest (marks-more a 0 count new (omega arith)) known
            (room-after (budget + count + a.spare) (rest + count + a.spare) m.turn
            (omega (arith, falls, g.spends.enough)) g.room)
            (λ marking.
            budget-new (6 * count * work_left count (now new)) rest (reached-whole m.reached).inv
            marking (omega arith));
      }

  receive-falls : (from to : ℕ) (h : Link a.shape w from to)
      → (is_token (message_of h).body ≡ false) ⊎ (cycle_of old to < (message_of h).stamp)
      → Onward count (Hunted (marks a)) w budget
  receive-falls from to h either =
      let few : length (effect_there h).sends + 1 ≤ work_left count old =
      omega (arith, (took-falls (would-take h) either).work) in
      let moved = link-brought h
      (numbers-fit old to (effect_there h).sends
      (room-for from (effect_there h).sends h.sender few)) in
      fallen moved (took-falls (link-took h moved) either)

  scan-onward : (i : ℕ) → i < count → next_move count old ≡ Do i event.Scan → is_grey old i ≡ true
      → Onward count (Hunted (marks a)) w budget
  scan-onward i inside chosen grey =
      let p : LocalState = (old i).local in
      let x : Effect = scanned p in
      let t : NodeState = record { local = x.local; sent = append_all (old i).sent x.sends } in
      let stands = own-stands p (map length (old i).sent) event.Scan refl in
      let few : length x.sends + 1 ≤ work_left count old =
      (let f = (scan-falls old_inv inside (not-true _ grey)
      (record { becomes = becomes-put old i t; heard = own-heard stands }) stands.got).work in
      omega (arith, f)) in
      let moved : Moved a.shape w i x.local x.sends =
      do-moved w i event.Scan (record {
        reached = g.known.reached;
        chosen = chosen;
        inside = inside;
        own = refl;
        collectors = refl;
        passed = (grey, tt);
        numbered = numbers-fit old i x.sends (room-for i x.sends inside few);
      }) in
      fallen moved (scan-falls old_inv inside (not-true _ grey) moved.turn stands.got)

marks-rules : (a : Aim) → Rules (marks a)
marks-rules a = record {
  more = marks-more a;
  idle = λ w i q ms k idle. record {
    few = omega (arith, idle.work, k.keeps.few);
    both = omega (arith, idle.work, k.keeps.both, idle.held);
  };
  less = λ w i q ms idle load.
      (let less : work_left a.shape.nodes (now (run w (next_steps a.shape.nodes w)))
      ≤ work_left a.shape.nodes (now w) = omega (arith, idle.work, load) in
      omega (arith, mul-le-mul_left a.shape.nodes less));
  receives = λ w budget from to g h either. receive-falls a g from to h either;
  scans_one = λ w budget i g inside chosen grey. scan-onward a g i inside chosen grey;
}

pub marking-ends : (a : Aim) (w : World) → Known (marks a) 0 w
    → HasRoom (rounds a.shape.nodes a.work + a.shape.nodes + a.spare) (now w)
    → Reaches a.shape.nodes (Over (marks a)) (rounds a.shape.nodes a.work) w
marking-ends a w k room =
    let n : ℕ = a.shape.nodes in
    hunted w (rounds n a.work) (marks-rules a)
    (hunt-on w (rounds n a.work) (marks-more a 0 n w (omega arith)) k room
    (λ marking.
    budget-new (6 * n * work_left n (now w)) (rounds n a.work) (reached-whole k.reached).inv marking
    (let more : n * work_left n (now w) ≤ n * a.work =
    mul-le-mul_left n (let e : work_left n (now w) ≤ a.work = omega (arith, k.keeps.few) in e) in
    omega (arith, more))))
