-- Programs that hold the nodes of a space, one call at a time: the world that the handles show goes
-- on, for each choice of what is stored.
use Rattle.std.proofs.Common.{◌≡◌, ◌≢◌, ℕ, ◌<◌, ◌==◌, cond, List, [], ◌∷◌, ◌++◌, length, inl, inr, ⊎_elim, refl, sym, ap, ◌∙◌, subst}
use Rattle.std.proofs.lemmas.Bool.{cases_eq, cond-false, cond-true, eq-eqb, ne_eqb}
use Rattle.ids.specs.Limits.{Shaped, IsShape}
use Rattle.msg.specs.Frames.{Plain}
use Rattle.model.specs.declared.step.Step.{Step}
use Rattle.model.specs.Cuts.{Among}
use Rattle.model.specs.State.{NodeState, node_at}
use Rattle.model.specs.World.{World, IsInNet, KeepsSent, new_world, run}
use Rattle.model.proofs.Runs.{run-append}
use Rattle.laws.proofs.Cuts.{run-keeps-sent}
use Rattle.laws.proofs.KeepsSent.{new-keeps-sent, node-count}
use Rattle.laws.proofs.Lookups.{among-append}
use Rattle.laws.proofs.Net.{HeardMore, net-grows, run-heard}
use Rattle.laws.proofs.Onward.{Behind}
use Rattle.c_handles.specs.Programs.{Becomes, Choice, IsPlaceOf, IsShown, MayFind, Place, Stored, System, choices_of, last_of}
use Rattle.c_handles.proofs.Says.{Says, quietly}

-- ---- a world that a run reaches, with frames in the net

pub record IsWorld (shape : Shaped) (frames : List Plain) (w : World) : Type 0 where
  pub steps : List Step
  pub reached : w ≡ run (new_world shape) steps
  pub net : (f : Plain) → Among f frames → IsInNet w f

module _ {shape : Shaped} (within : IsShape shape) {frames : List Plain} {w : World}
    (is : IsWorld shape frames w) where
  pub stays-in-net : (later : List Step) (f : Plain) → IsInNet w f → IsInNet (run w later) f
  stays-in-net later f =
      subst (λ (v : World). IsInNet v f → IsInNet (run v later) f) (sym is.reached)
      (net-grows shape within is.steps later f)

  pub later-world : (later : List Step) → IsWorld shape frames (run w later)
  later-world later = record {
    steps = is.steps ++ later;
    reached = ap (λ (v : World). run v later) is.reached
        ∙ sym (run-append (new_world shape) is.steps later);
    net = λ f among. stays-in-net later f (is.net f among);
  }

module _ {shape : Shaped} {frames : List Plain} {w : World} (is : IsWorld shape frames w) where
  pub world-count : length w.current ≡ shape.nodes
  world-count = ap (λ (v : World). length v.current) is.reached ∙ node-count shape is.steps

  pub world-grown : KeepsSent w
  world-grown =
      subst KeepsSent (sym is.reached)
      (run-keeps-sent (new_world shape) is.steps (new-keeps-sent shape))

  pub world-heard : Behind HeardMore w
  world-heard = subst (Behind HeardMore) (sym is.reached) (run-heard shape is.steps)

pub world-of : {shape : Shaped} {s : System} {choice : Choice} {w : World}
    → IsShown shape s choice w → IsWorld shape s.frames w
world-of h = record { steps = h.steps; reached = h.reached; net = h.frames }

-- ---- one node changes

-- the world goes on by steps that change nothing at other nodes
pub record Next (shape : Shaped) (w : World) (i : ℕ) (found : Stored) (p : Place)
    (given : List Plain) (so : Says) : Type 0 where
  pub later : List Step
  pub says : so w later
  pub others : (k : ℕ) → k ≢ i
      → (node_at (run w later).saved k ≡ node_at w.saved k)
      × (node_at (run w later).current k ≡ node_at w.current k)
  pub here : IsPlaceOf shape i found p (node_at (run w later).saved i)
      (node_at (run w later).current i)
  pub frames : (f : Plain) → Among f given → IsInNet (run w later) f

module _ {shape : Shaped} (within : IsShape shape) {s t : System} {i : ℕ} {p : Place}
    {given : List Plain} (becomes : Becomes s t i p given) where
  shown-next : {b c : Choice} {w : World} {so : Says} → IsShown shape s b w
      → ((k : ℕ) → k ≢ i → b k ≡ c k) → (n : Next shape w i (c i) p given so)
      → IsShown shape t c (run w n.later)
  shown-next {b} {c} {w} h same n =
      let v : World = run w n.later in
      let next = later-world within (world-of h) n.later in
      record {
        steps = next.steps;
        reached = next.reached;
        each = λ k inside.
            ⊎_elim {C = IsPlaceOf shape k (c k) (t.places k) (node_at v.saved k)
            (node_at v.current k)}
            (λ (here : k ≡ i).
            subst (λ (j : ℕ). IsPlaceOf shape j (c j) (t.places j) (node_at v.saved j)
            (node_at v.current j)) (sym here)
            (subst (λ (q : Place). IsPlaceOf shape i (c i) q (node_at v.saved i)
            (node_at v.current i)) (sym becomes.here) n.here))
            (λ (other : k ≢ i).
            subst (λ (q : Place). IsPlaceOf shape k (c k) q (node_at v.saved k)
            (node_at v.current k)) (sym (becomes.others k other))
            (subst (λ (e : Stored). IsPlaceOf shape k e (s.places k) (node_at v.saved k)
            (node_at v.current k)) (same k other)
            (subst (λ (x : NodeState). IsPlaceOf shape k (b k) (s.places k) x
            (node_at v.current k)) (sym (n.others k other).0)
            (subst (λ (x : NodeState). IsPlaceOf shape k (b k) (s.places k) (node_at w.saved k) x)
            (sym (n.others k other).1) (h.each k inside)))))
            (cases_eq k i);
        frames = λ f among.
            ⊎_elim {C = IsInNet v f}
            (λ (old : Among f s.frames). next.net f old)
            (λ (new : Among f given). n.frames f new)
            (among-append f s.frames given
            (subst (Among f) becomes.frames among));
      }

-- For what may be stored of the node afterwards, something may be stored of it before, with which
-- the world goes on.
pub record Follows (shape : Shaped) (s : System) (i : ℕ) (p : Place) (given : List Plain)
    (so : Says) (e : Stored) : Type 0 where
  pub before : Stored
  pub may : Among before (choices_of (s.places i))
  pub next : (w : World) → IsWorld shape s.frames w
      → IsPlaceOf shape i before (s.places i) (node_at w.saved i) (node_at w.current i)
      → Next shape w i e p given so

-- For whatever may be stored after calls, something may be stored before them, with which the world
-- that the handles showed then goes on to one that they show now.
pub record Leads (shape : Shaped) (s t : System) (c : Choice) : Type 0 where
  pub before : Choice
  pub may : MayFind s before
  pub goes_on : (w : World) → IsShown shape s before w
      → (later : List Step) × IsShown shape t c (run w later)

-- the same of one call, of whose steps this is said
pub record Tells (shape : Shaped) (s t : System) (so : Says) (c : Choice) : Type 0 where
  pub before : Choice
  pub may : MayFind s before
  pub goes_on : (w : World) → IsShown shape s before w
      → (later : List Step) × IsShown shape t c (run w later)
      × so w later

pub leads-by : {shape : Shaped} {s t : System} {so : Says} {c : Choice}
    → Tells shape s t so c → Leads shape s t c
leads-by l = record {
  before = l.before;
  may = l.may;
  goes_on = λ w h. (let end = l.goes_on w h in (end.0, end.1));
}

-- what is found of one node is another one
abbrev instead : ℕ → Choice → Stored → Choice
instead i c e k = cond (k == i) e (c k)

instead-here : (i : ℕ) (c : Choice) (e : Stored) → instead i c e i ≡ e
instead-here i c e = cond-true (i == i) e (c i) (eq-eqb i i refl)

instead-other : (i : ℕ) (c : Choice) (e : Stored) (k : ℕ) → k ≢ i → instead i c e k ≡ c k
instead-other i c e k other = cond-false (k == i) e (c k) (ne_eqb k i other)

pub tells-at : {shape : Shaped} → IsShape shape → {s t : System} {i : ℕ} {p : Place}
    {given : List Plain} {so : Says} → Becomes s t i p given → i < shape.nodes
    → ((e : Stored) → Among e (choices_of p) → Follows shape s i p given so e)
    → (c : Choice) → MayFind t c → Tells shape s t so c
tells-at {shape} within {s} {t} {i} {p} {given} becomes inside follows c may =
    let f = follows (c i)
    (subst (λ (q : Place). Among (c i) (choices_of q)) becomes.here (may i)) in
    let b : Choice = instead i c f.before in
    record {
      before = b;
      may = λ k.
          ⊎_elim {C = Among (b k) (choices_of (s.places k))}
          (λ (here : k ≡ i).
          subst (λ (j : ℕ). Among (b j) (choices_of (s.places j))) (sym here)
          (subst (λ (e : Stored). Among e (choices_of (s.places i)))
          (sym (instead-here i c f.before)) f.may))
          (λ (other : k ≢ i).
          subst (λ (e : Stored). Among e (choices_of (s.places k)))
          (sym (instead-other i c f.before k other))
          (subst (λ (q : Place). Among (c k) (choices_of q)) (becomes.others k other) (may k)))
          (cases_eq k i);
      goes_on = λ w h.
          let n = f.next w (world-of h)
          (subst (λ (e : Stored). IsPlaceOf shape i e (s.places i) (node_at w.saved i)
          (node_at w.current i)) (instead-here i c f.before) (h.each i inside)) in
          (n.later, shown-next within becomes h (instead-other i c f.before) n, n.says);
    }

-- nothing happened
pub leads-nowhere : {shape : Shaped} (s : System) (c : Choice) → MayFind s c → Leads shape s s c
leads-nowhere s c may = record {
  before = c;
  may = may;
  goes_on = λ w h. ([], h);
}

pub tells-not : {shape : Shaped} (s : System) (c : Choice) → MayFind s c
    → Tells shape s s quietly c
tells-not s c may = record {
  before = c;
  may = may;
  goes_on = λ w h. ([], h, (λ saved. refl, tt));
}

-- one call after another
pub leads-on : {shape : Shaped} {s t u : System} {c : Choice}
    → ((b : Choice) → MayFind t b → Leads shape s t b) → Leads shape t u c → Leads shape s u c
leads-on {shape} {s} {t} {u} {c} first then =
    let one = first then.before then.may in
    record {
      before = one.before;
      may = one.may;
      goes_on = λ w h.
          let mid = one.goes_on w h in
          let end = then.goes_on (run w mid.0) mid.1 in (
            mid.0 ++ end.0,
            subst (IsShown shape u c) (sym (run-append w mid.0 end.0)) end.1,
          );
    }

-- ---- what is newest

pub newest-among : (e : Stored) (taken : List Stored) → Among (last_of e taken) (e ∷ taken)
newest-among e [] = inl refl
newest-among e (x ∷ xs) = inr (newest-among x xs)

pub newest-last : (e : Stored) (taken : List Stored) (x : Stored)
    → last_of e (taken ++ x ∷ []) ≡ x
newest-last e [] x = refl
newest-last e (y ∷ ys) x = newest-last y ys x

pub newest-left : (e : Stored) (earlier : List Stored) (x : Stored) (others : List Stored)
    → last_of e (earlier ++ x ∷ others) ≡ last_of x others
newest-left e [] x others = refl
newest-left e (y ∷ ys) x others = newest-left y ys x others

pub among-left : (earlier : List Stored) (x y : Stored) (others : List Stored)
    → Among x (y ∷ others) → Among x (earlier ++ y ∷ others)
among-left [] x y others among = among
among-left (e ∷ es) x y others among = inr (among-left es x y others among)
