-- Each call of a program, whose caller did what it owes: what holds of the handles afterwards, and
-- that the world which they show goes on.
use Rattle.std.proofs.Common.{◌≡◌, ◌≢◌, ℕ, zero, suc, ◌+◌, ◌<◌, true, List, [], ◌∷◌, ◌++◌, length, get_or, Option, Some, None, inl, inr, ⊎_elim, refl, sym, ap, ◌∙◌, subst, arith, length-append, le_trans}
use Rattle.std.specs.Prelude.{option_to_list}
use Rattle.std.specs.Global.{Vec}
use Rattle.std.specs.Option.{option_map}
use Rattle.std.proofs.lemmas.Bool.{cases_eq, cond_both}
use Rattle.ids.specs.Limits.{Shaped, IsShape}
use Rattle.msg.specs.Frames.{Plain, data_frame, ack_frame, plain_data}
use Rattle.msg.specs.declared.body.Message.{Message}
use Rattle.model.specs.declared.step.Step.TheVariants as step
use Rattle.model.specs.Cuts.{Among}
use Rattle.model.specs.State.{LocalState, NodeState, node_at, sent_to}
use Rattle.model.specs.View.{NodeView, Shows, is_other, link_to, released_at}
use Rattle.model.specs.World.{World, IsInNet, outcome_of}
use Rattle.node.specs.Frames.{acknowledgement, frame_of, released_frame}
use Rattle.node.specs.Keeping.{WholeNode}
use Rattle.laws.specs.Carried.{IsCarried}
use Rattle.laws.proofs.Carried.{ack-in-net, apart, inside as within_shape, restart-moves, save-saves, window-in-net}
use Rattle.laws.proofs.Carrying.{carried-kept, carried-saved}
use Rattle.laws.proofs.KeepsSent.{SentMore}
use Rattle.laws.proofs.Lookups.{among-append, among-append_left}
use Rattle.laws.proofs.Net.{HeardMore}
use Rattle.image.specs.Wholes.{saved_whole}
use Rattle.c_handles.specs.Batches.{IsStored}
use Rattle.c_handles.specs.Images.{counts_of, keeps, released}
use Rattle.c_handles.specs.Logs.{KeepsLog}
use Rattle.c_handles.specs.declared.lone.images.Counts.{Counts}
use Rattle.c_handles.specs.Laws.{nothing_told}
use Rattle.laws.proofs.progress.Spaces.{save-step}
use Rattle.c_handles.proofs.Says.{Says, quietly, tells}
use Rattle.c_handles.proofs.Acked.{AreAcked, acked-more, kept-acked, keeps-acked}
use Rattle.c_handles.proofs.Batches.{stored_one}
use Rattle.c_handles.specs.Programs.{AreIn, Becomes, Choice, Finds, HasCounts, Holds, IsPlaceOf, MayFind, Place, Stored, Nothing, Image, Lost, System, choices_of, last_of, newest, window_of}
use Rattle.c_handles.specs.declared.lone.LoneNode.{LoneNode}
use Rattle.c_handles.proofs.Advances.{Advances, AreGiven, below, nodes, owns}
use Rattle.c_handles.proofs.Saving.{Continues, continues-on, found-in, found-saved, kept-carried, kept-early, taken-in}
use Rattle.c_handles.proofs.Systems.{Follows, IsWorld, Next, Tells, among-left, tells-at, tells-not, newest-among, newest-last, newest-left, stays-in-net, world-count, world-grown, world-heard}

-- ---- what holds of every handle

-- The node keeps only early messages that were given out, counts only as acknowledged what frames
-- that were given out acknowledge, and its log leads from what is newest.
pub record IsSoundNode (frames : List Plain) (e : Stored) (n : LoneNode) : Type 0 where
  pub early : AreGiven frames n.node.early
  pub acked : AreAcked frames n.node.core
  pub log : Continues e n

abbrev pub IsSoundIn : List Plain → Stored → Option LoneNode → Type 0
IsSoundIn frames e None = Unit {0}
IsSoundIn frames e (Some n) = IsSoundNode frames e n

-- so does each node that is stored, or may be yet
abbrev pub IsStoredAcked : List Plain → Stored → Type 0
IsStoredAcked frames e =
    (image batches : List ℕ) (m : WholeNode) → e ≡ Image image batches → IsStored image batches m
    → AreAcked frames m.core

pub record IsSound (s : System) : Type 0 where
  pub each : (i : ℕ) → IsSoundIn s.frames (newest (s.places i)) (s.places i).handle
  pub stored : (i : ℕ) (e : Stored) → Among e (choices_of (s.places i)) → IsStoredAcked s.frames e

sound-more : (frames given : List Plain) (e : Stored) (h : Option LoneNode)
    → IsSoundIn frames e h → IsSoundIn (frames ++ given) e h
sound-more frames given e None is = tt
sound-more frames given e (Some n) is = record {
  early = λ from place d there. among-append_left (plain_data d) frames given
      (is.early from place d there);
  acked = acked-more frames given n.node.core is.acked;
  log = is.log;
}

-- the node counts what it received on each of its links
abbrev pub IsCounted : LoneNode → Type 0
IsCounted n = length n.node.core.local.got ≡ length n.node.core.links

-- after a call: what holds of every handle, and that worlds go on
pub record Stepped (shape : Shaped) (s t : System) (so : Says) : Type 0 where
  pub sound : IsSound t
  pub leads : (c : Choice) → MayFind t c → Tells shape s t so c

pub stepped-not : {shape : Shaped} {s t : System} → t ≡ s → IsSound s
    → Stepped shape s t quietly
stepped-not {shape} {s} {t} same sound =
    subst (λ (z : System). Stepped shape s z quietly) (sym same)
    (record { sound = sound; leads = tells-not s })

-- A call at the node of this number: what holds before it.
pub record Site (shape : Shaped) (s : System) (i : ℕ) : Type 0 where
  pub limits : IsShape shape
  pub inside : i < shape.nodes
  pub sound : IsSound s

pub stepped-at : {shape : Shaped} {s t : System} {i : ℕ} {p : Place} {given : List Plain}
    {so : Says} → Site shape s i → Becomes s t i p given
    → IsSoundIn s.frames (newest p) p.handle
    → ((e : Stored) → Among e (choices_of p) → IsStoredAcked s.frames e)
    → ((e : Stored) → Among e (choices_of p) → Follows shape s i p given so e)
    → Stepped shape s t so
stepped-at {s = s} {t} {i} {p} {given} site becomes here stored follows = record {
  sound = record {
    stored = λ k e among image batches m is of.
        subst (λ (fs : List Plain). AreAcked fs m.core) (sym becomes.frames)
        (acked-more s.frames given m.core
        (⊎_elim {C = AreAcked s.frames m.core}
        (λ (same : k ≡ i).
        stored e
        (subst (λ (q : Place). Among e (choices_of q)) becomes.here
        (subst (λ (j : ℕ). Among e (choices_of (t.places j))) same among)) image batches m is of)
        (λ (other : k ≢ i).
        site.sound.stored k e
        (subst (λ (q : Place). Among e (choices_of q)) (becomes.others k other) among)
        image batches m is of)
        (cases_eq k i)));
    each = λ k.
        subst (λ (fs : List Plain). IsSoundIn fs (newest (t.places k)) (t.places k).handle)
        (sym becomes.frames)
        (⊎_elim
        {C = IsSoundIn (s.frames ++ given) (newest (t.places k)) (t.places k).handle}
        (λ (same : k ≡ i).
        subst (λ (j : ℕ).
        IsSoundIn (s.frames ++ given) (newest (t.places j)) (t.places j).handle) (sym same)
        (subst (λ (q : Place). IsSoundIn (s.frames ++ given) (newest q) q.handle)
        (sym becomes.here) (sound-more s.frames given (newest p) p.handle here)))
        (λ (other : k ≢ i).
        subst (λ (q : Place). IsSoundIn (s.frames ++ given) (newest q) q.handle)
        (sym (becomes.others k other))
        (sound-more s.frames given (newest (s.places k)) (s.places k).handle (site.sound.each k)))
        (cases_eq k i));
  };
  leads = tells-at site.limits becomes site.inside follows;
}

-- what was taken is stored with the node as it was saved then
abbrev pub IsOf : Stored → WholeNode → Type 0
IsOf Nothing n = ⊥
IsOf (Image image batches) n = IsStored image batches (saved_whole n)
IsOf Lost n = Unit {0}

-- what counts as saved with a mark stays in a node that goes on
are-later : (o : Option (Vec Counts)) (a b : NodeState) → SentMore a b → HeardMore a b → AreIn o a
    → AreIn o b
are-later None a b sent heard are = tt
are-later (Some counts) a b sent heard are = λ j.
    let more = sent j in
    let long : length (sent_to b j) ≡ length (sent_to a j) + length more.0 =
    ap length more.1 ∙ length-append (sent_to a j) more.0 in
    let few = (are j).0 in (
      omega (arith, few, long),
      le_trans (are j).1 (heard j),
    )

-- ---- what goes on in a world

place-in : {shape : Shaped} {i : ℕ} {e : Stored} {p : Place} {a b x y : NodeState} → a ≡ x → b ≡ y
    → IsPlaceOf shape i e p x y → IsPlaceOf shape i e p a b
place-in {shape} {i} {e} {p} {a} {x = x} {y} first second h =
    subst (IsPlaceOf shape i e p a) (sym second)
    (subst (λ (z : NodeState). IsPlaceOf shape i e p z y) (sym first) h)

-- no step
still : {shape : Shaped} {w : World} {i : ℕ} {e : Stored} {p : Place} {given : List Plain}
    → IsPlaceOf shape i e p (node_at w.saved i) (node_at w.current i)
    → ((f : Plain) → Among f given → IsInNet w f) → Next shape w i e p given quietly
still here out = record {
  later = [];
  says = (λ saved. refl, tt);
  others = λ k other. (refl, refl);
  here = here;
  frames = out;
}

-- More of the node counts as saved: what was taken with these counts.
pub record IsKept (n m : LoneNode) (counts : Vec Counts) : Type 0 where
  pub has : n.counts ≡ Some counts
  pub same : m.counts ≡ n.counts
  pub now : m.node ≡ keeps counts.items n.node
  pub logs : KeepsLog n m

-- An image or a batch of the node in the handle was taken, with these counts.
pub record HasTaken (s : System) (i : ℕ) (n m : LoneNode) (counts : Vec Counts) : Type 0 where
  pub held : (s.places i).handle ≡ Some n
  pub same : m.node ≡ n.node
  pub are : counts.items ≡ counts_of n.node.core
  pub has : m.counts ≡ Some counts
  pub wide : IsCounted n

-- the place then
abbrev after : System → ℕ → LoneNode → Stored → Place
after s i m e = record (s.places i) { handle = Some m; taken = (s.places i).taken ++ e ∷ [] }

module _ {shape : Shaped} {s : System} {i : ℕ} (site : Site shape s i) where
  abbrev Carries : World → LoneNode → Type 0
  Carries w n = IsCarried (node_at w.saved i) (node_at w.current i) n.node.core

  carries : {n : LoneNode} {e : Stored} (w : World) → (s.places i).handle ≡ Some n
      → IsPlaceOf shape i e (s.places i) (node_at w.saved i) (node_at w.current i) → Carries w n
  carries w held place =
      subst (λ (h : Option LoneNode). Holds h (node_at w.saved i) (node_at w.current i)) held
      place.holds

  counted : {n : LoneNode} (x : NodeState) → (s.places i).handle ≡ Some n
      → HasCounts (s.places i).handle x → AreIn n.counts x
  counted x held has = subst (λ (h : Option LoneNode). HasCounts h x) held has

  pub sound-node : {n : LoneNode} → (s.places i).handle ≡ Some n
      → IsSoundNode s.frames (newest (s.places i)) n
  sound-node held = subst (IsSoundIn s.frames (newest (s.places i))) held (site.sound.each i)

  -- ---- calls that store nothing

  -- the node goes on with events, or gives out frames
  pub advances-stepped : {n m : LoneNode} {given : List Plain} {so : Says} {t : System}
      → (s.places i).handle ≡ Some n → Advances shape s.frames i so n m
      → Becomes s t i (record (s.places i) { handle = Some m }) given
      → ((w : World) → IsWorld shape s.frames w → Carries w n → (f : Plain) → Among f given
      → IsInNet w f)
      → Stepped shape s t so
  advances-stepped {n} {m} {given} held a becomes out =
      let was = sound-node held in
      stepped-at site becomes
      (record {
        early = a.early was.early;
        acked = a.acked was.acked;
        log = continues-on (newest (s.places i)) n m a.logs was.log;
      })
      (site.sound.stored i)
      (λ e among. record {
        before = e;
        may = among;
        next = λ w is place.
            (let went = a.moves was.early w is (carries w held place) in
            let saved = ap (λ (l : List NodeState). node_at l i) went.saved in
            record {
              later = went.later;
              says = went.says;
              others = λ k other.
                  (ap (λ (l : List NodeState). node_at l k) went.saved, went.others k other);
              here = place-in saved refl (record {
                holds = went.carried;
                finds = place.finds;
                counts = λ same.
                    subst (λ c. AreIn c (node_at w.saved i)) (sym a.counts)
                    (counted (node_at w.saved i) held (place.counts same));
              });
              frames = λ f given_out.
                  stays-in-net site.limits is went.later f
                  (out w is (carries w held place) f given_out);
            });
      })

  -- ---- frames

  own-is : {w : World} (n : LoneNode) → IsWorld shape s.frames w → Carries w n
      → n.node.core.local.own ≡ i
  own-is n is h = ap (λ (p : LocalState). p.own) h.shows.local ∙ owns site.limits is site.inside

  nodes-are : {w : World} (n : LoneNode) → IsWorld shape s.frames w → Carries w n
      → n.node.core.local.shape.nodes ≡ shape.nodes
  nodes-are n is h = ap (λ (p : LocalState). p.shape.nodes) h.shows.local
      ∙ nodes site.limits is site.inside

  pub released-out : (n : LoneNode) (to place : ℕ) {w : World} → IsWorld shape s.frames w
      → Carries w n → (f : Plain)
      → Among f (option_to_list (released_frame n.node.core to place)) → IsInNet w f
  released-out n to place {w} is h f =
      let c : NodeView = n.node.core in
      let number : ℕ = (link_to c to).base + 1 + place in
      cond_both (is_other c.local to)
      (option_map (frame_of c.local.own to number) (released_at (link_to c to) place)) None
      (λ (o : Option Plain). Among f (option_to_list o) → IsInNet w f)
      (λ other. by other (released_at (link_to c to) place) refl)
      (λ _ never. absurd never)
    where
      by : is_other n.node.core.local to ≡ true → (o : Option Message)
          → released_at (link_to n.node.core to) place ≡ o
          → Among f (option_to_list
          (option_map (frame_of n.node.core.local.own to
          ((link_to n.node.core to).base + 1 + place)) o))
          → IsInNet w f
      by other None there never = absurd never
      by other (Some x) there (inl same) =
          subst (IsInNet w) (sym same)
          (subst (λ (k : ℕ). IsInNet w
          (data_frame k to ((link_to n.node.core to).base + 1 + place) x.stamp x.body))
          (sym (own-is n is h))
          (window-in-net i h (world-grown is) to place x
          (λ e. apart n.node.core.local to other (sym e ∙ sym (own-is n is h))) there))
      by other (Some x) there (inr never) = absurd never

  pub window-out : (n : LoneNode) (to count : ℕ) {w : World} → IsWorld shape s.frames w
      → Carries w n → (f : Plain) → Among f (window_of n.node.core to count) → IsInNet w f
  window-out n to zero is h f never = absurd never
  window-out n to (suc place) {w} is h f among =
      ⊎_elim {C = IsInNet w f}
      (λ (before : Among f (window_of n.node.core to place)).
      window-out n to place is h f before)
      (λ (here : Among f (option_to_list (released_frame n.node.core to place))).
      released-out n to place is h f here)
      (among-append f (window_of n.node.core to place)
      (option_to_list (released_frame n.node.core to place)) among)

  pub ack-out : (n : LoneNode) (from : ℕ) {w : World} → IsWorld shape s.frames w → Carries w n
      → (f : Plain) → Among f (option_to_list (acknowledgement n.node.core from)) → IsInNet w f
  ack-out n from {w} is h f =
      let c : NodeView = n.node.core in
      let ack : Plain = ack_frame c.local.own from (get_or c.acks from 0) in
      cond_both (is_other c.local from) (Some ack) None
      (λ (o : Option Plain). Among f (option_to_list o) → IsInNet w f)
      (λ other among. ⊎_elim {C = IsInNet w f}
      (λ (same : f ≡ ack).
      subst (IsInNet w) (sym same)
      (subst (λ (k : ℕ). IsInNet w (ack_frame k from (get_or c.acks from 0)))
      (sym (own-is n is h))
      (ack-in-net i h (world-grown is) from (below site.limits is site.inside)
      (let other_inside = within_shape c.local from other in
      let count = world-count is in
      let many = nodes-are n is h in
      omega (arith, other_inside, count, many))
      (λ e. apart c.local from other (sym e ∙ sym (own-is n is h))))))
      (λ never. absurd never) among)
      (λ _ never. absurd never)

  -- ---- calls that end a handle, or only store

  -- the handle is freed, or its process ends
  pub ended-stepped : {t : System} → Becomes s t i (record (s.places i) { handle = None }) []
      → Stepped shape s t (tells nothing_told)
  ended-stepped becomes =
      stepped-at site becomes tt (site.sound.stored i)
      (λ e among. record {
        before = e;
        may = among;
        next = λ w is place.
            (let moved = restart-moves w i (below site.limits is site.inside) in
            let saved = ap (λ (l : List NodeState). node_at l i) moved.saved in
            record {
              later = step.Restart i ∷ [];
              says = λ saved. refl;
              others = λ k other.
                  (ap (λ (l : List NodeState). node_at l k) moved.saved, moved.others k other);
              here = place-in saved moved.now
                  (record { holds = refl; finds = place.finds; counts = λ same. tt });
              frames = λ f never. absurd never;
            });
      })

  -- an image or a batch is stored
  pub stored-stepped : {e : Stored} {others : List Stored} {t : System} (earlier : List Stored)
      → (s.places i).taken ≡ earlier ++ e ∷ others
      → Becomes s t i (record (s.places i) { stored = e; taken = others }) []
      → Stepped shape s t quietly
  stored-stepped {e} {others} earlier taken becomes =
      let p : Place = s.places i in
      let same : newest p ≡ newest (record p { stored = e; taken = others }) =
      ap (λ (l : List Stored). last_of p.stored l) taken
      ∙ newest-left p.stored earlier e others in
      stepped-at site becomes
      (subst (λ (z : Stored). IsSoundIn s.frames z p.handle) same (site.sound.each i))
      (λ x among.
      site.sound.stored i x
      (inr (subst (Among x) (sym taken) (among-left earlier x e others among))))
      (λ x among. record {
        before = x;
        may = inr (subst (Among x) (sym taken) (among-left earlier x e others among));
        next = λ w is place. still
            (record {
              holds = place.holds;
              finds = place.finds;
              counts = λ now. place.counts (now ∙ sym same);
            })
            (λ f never. absurd never);
      })

  -- ---- calls that save

  -- A step saves the node, and what is found of it now is what an opening finds of that.
  saves : {w : World} {e : Stored} {p : Place} → IsWorld shape s.frames w
      → Holds p.handle (node_at w.current i) (node_at w.current i)
      → Finds shape i e (node_at w.current i)
      → HasCounts p.handle (node_at w.current i) → Next shape w i e p [] quietly
  saves {w} is holds finds counts =
      let saved = save-saves w i (world-grown is) (below site.limits is site.inside) in
      record {
        later = step.Save i ∷ [];
        says = (
          λ saved. refl,
          (
            (
              refl,
              λ e. absurd
                  (let done = save-step w i (below site.limits is site.inside) in
                  let never = sym (ap outcome_of done) ∙ e in cc),
            ),
            tt,
          ),
        );
        others = λ k other.
            (saved.others k other, ap (λ (l : List NodeState). node_at l k) saved.current);
        here = place-in saved.now (ap (λ (l : List NodeState). node_at l i) saved.current)
            (record { holds = holds; finds = finds; counts = λ same. counts });
        frames = λ f never. absurd never;
      }

  -- more counts as saved, now that what was taken last is stored
  pub kept-stepped : {n m : LoneNode} {counts : Vec Counts} {t : System}
      → (s.places i).handle ≡ Some n → IsKept n m counts → (s.places i).taken ≡ []
      → Becomes s t i (record (s.places i) { handle = Some m }) [] → Stepped shape s t quietly
  kept-stepped {n} {m} {counts} held kept none becomes =
      let p : Place = s.places i in
      let was = sound-node held in
      stepped-at site becomes
      (record {
        early = subst (AreGiven s.frames)
            (sym (ap (λ (x : WholeNode). x.early) kept.now ∙ kept-early counts.items n.node))
            was.early;
        acked = subst (λ (x : WholeNode). AreAcked s.frames x.core) (sym kept.now)
            (keeps-acked counts.items n.node was.acked);
        log = continues-on (newest p) n m kept.logs was.log;
      })
      (site.sound.stored i)
      (λ e among. record {
        before = e;
        may = among;
        next = λ w is place.
            (let newest_is : e ≡ newest p =
            ⊎_elim {C = e ≡ newest p}
            (λ (x : e ≡ p.stored).
            x ∙ ap (λ (l : List Stored). last_of p.stored l) (sym none))
            (λ never. absurd never)
            (subst (λ (l : List Stored). Among e (p.stored ∷ l)) none among) in
            let are : AreIn n.counts (node_at w.saved i) =
            counted (node_at w.saved i) held (place.counts newest_is) in
            still
            (record {
              holds = subst (λ (x : WholeNode).
                  IsCarried (node_at w.saved i) (node_at w.current i) x.core) (sym kept.now)
                  (kept-carried counts n.node
                  (subst (λ c. AreIn c (node_at w.saved i)) kept.has are) (carries w held place));
              finds = place.finds;
              counts = λ _. subst (λ c. AreIn c (node_at w.saved i)) (sym kept.same) are;
            })
            (λ f never. absurd never));
      })

  -- everything counts as saved, without an image
  pub released-stepped : {n : LoneNode} {t : System} → (s.places i).handle ≡ Some n → IsCounted n
      → Becomes s t i (record { handle = Some (released n); stored = Lost; taken = [] }) []
      → Stepped shape s t quietly
  released-stepped {n} held wide becomes =
      let p : Place = s.places i in
      let was = sound-node held in
      stepped-at site becomes
      (record { early = was.early; acked = kept-acked n.node.core wide was.acked; log = tt })
      (λ e among image batches m is of.
      absurd (⊎_elim (λ (lost : e ≡ Lost). let both = sym lost ∙ is in cc) (λ never. never) among))
      (λ e among. record {
        before = newest p;
        may = newest-among p.stored p.taken;
        next = λ w is place.
            (let h : Carries w n = carries w held place in
            let lost : e ≡ Lost =
            ⊎_elim {C = e ≡ Lost} (λ (x : e ≡ Lost). x) (λ never. absurd never) among in
            subst (λ (x : Stored).
            Next shape w i x (record { handle = Some (released n); stored = Lost; taken = [] }) []
            quietly)
            (sym lost)
            (saves is (carried-kept h.shows) tt
            (are-later n.counts (node_at w.saved i) (node_at w.current i) ((world-grown is).sent i)
            (world-heard is i)
            (counted (node_at w.saved i) held (place.counts refl)))));
      })

  -- a handle is filled with what is stored
  pub opened-stepped : {n : LoneNode} {t : System} → (s.places i).handle ≡ None
      → ((x : NodeState) → Finds shape i (s.places i).stored x → IsCarried x x n.node.core)
      → IsSoundNode s.frames (s.places i).stored n → n.counts ≡ None
      → Becomes s t i (record {
        handle = Some n;
        stored = (s.places i).stored;
        taken = [];
      }) []
      → Stepped shape s t quietly
  opened-stepped {n} empty carried sound none becomes =
      let p : Place = s.places i in
      let q : Place = record { handle = Some n; stored = p.stored; taken = [] } in
      stepped-at site becomes sound
      (λ e among.
      site.sound.stored i e
      (⊎_elim (λ (is_it : e ≡ p.stored). inl is_it) (λ never. absurd never) among))
      (λ e among. record {
        before = p.stored;
        may = inl refl;
        next = λ w is place.
            (let is_it : e ≡ p.stored =
            ⊎_elim {C = e ≡ p.stored} (λ (x : e ≡ p.stored). x) (λ never. absurd never) among in
            let same : node_at w.current i ≡ node_at w.saved i =
            subst (λ (h : Option LoneNode). Holds h (node_at w.saved i) (node_at w.current i))
            empty place.holds in
            subst (λ (x : Stored). Next shape w i x q [] quietly) (sym is_it)
            (still
            (record {
              holds = subst (λ (x : NodeState). IsCarried (node_at w.saved i) x n.node.core)
                  (sym same) (carried (node_at w.saved i) place.finds);
              finds = place.finds;
              counts = λ _. subst (λ c. AreIn c (node_at w.saved i)) (sym none) tt;
            })
            (λ f never. absurd never)));
      })

  -- an image or a batch was taken, which may be stored
  module _ {n m : LoneNode} {counts : Vec Counts} (took : HasTaken s i n m counts) where
    of-acked : (e : Stored) → IsOf e n.node → AreAcked s.frames n.node.core
        → IsStoredAcked s.frames e
    of-acked Nothing of all = absurd of
    of-acked Lost of all = λ image batches x is stored. absurd cc
    of-acked (Image image batches) of all = λ image_is batches_is x is stored.
        subst (λ (z : WholeNode). AreAcked s.frames z.core)
        (stored_one image batches (saved_whole n.node) x of
        (let a : image ≡ image_is = cc in
        let b : batches ≡ batches_is = cc in
        subst (λ (l : List ℕ). IsStored l batches x) (sym a)
        (subst (λ (l : List ℕ). IsStored image_is l x) (sym b) stored)))
        (kept-acked n.node.core took.wide all)

    after-newest : (e : Stored) → newest (after s i m e) ≡ e
    after-newest e = newest-last (s.places i).stored (s.places i).taken e

    finds-of : (e : Stored) → IsOf e n.node → {x : NodeState} → Shows n.node.core x
        → Finds shape i e x
    finds-of Nothing of shows = absurd of
    finds-of (Image image batches) of shows = found-saved n.node shows of
    finds-of Lost of shows = tt

    -- it is what is found: the node is saved
    taken-now : (e x : Stored) → IsOf e n.node → x ≡ e
        → Follows shape s i (after s i m e) [] quietly x
    taken-now e x of now = record {
      before = newest (s.places i);
      may = newest-among (s.places i).stored (s.places i).taken;
      next = λ w is place.
          (let h : Carries w n = carries w took.held place in
          subst (λ (z : Stored). Next shape w i z (after s i m e) [] quietly) (sym now)
          (saves is
          (subst (λ (z : WholeNode).
          IsCarried (node_at w.current i) (node_at w.current i) z.core) (sym took.same)
          (carried-saved ((world-grown is).sent i) (world-heard is i) h))
          (finds-of e of h.shows) (taken-in counts took.are took.has h.shows)));
    }

    -- it isn't: nothing happened to the node yet
    taken-before : (e x : Stored) → Among x (choices_of (s.places i))
        → ((z : NodeState) → Finds shape i x z → x ≡ e → AreIn m.counts z)
        → Follows shape s i (after s i m e) [] quietly x
    taken-before e x among counted_in = record {
      before = x;
      may = among;
      next = λ w is place.
          (let h : Carries w n = carries w took.held place in
          still
          (record {
            holds = subst (λ (z : WholeNode).
                IsCarried (node_at w.saved i) (node_at w.current i) z.core) (sym took.same) h;
            finds = place.finds;
            counts = λ now.
                counted_in (node_at w.saved i) place.finds (now ∙ after-newest e);
          })
          (λ f never. absurd never));
    }

    taken-else : (e x : Stored) → IsOf e n.node → Among x (choices_of (s.places i))
        → Follows shape s i (after s i m e) [] quietly x
    taken-else Nothing x of among = absurd of
    taken-else (Image image batches) x of among =
        taken-before (Image image batches) x among
        (λ z found now.
        found-in n.node counts took.are took.has of
        (subst (λ (y : Stored). Finds shape i y z) now found))
    taken-else Lost Nothing of among =
        taken-before Lost Nothing among (λ z found now. absurd cc)
    taken-else Lost (Image image batches) of among =
        taken-before Lost (Image image batches) among (λ z found now. absurd cc)
    taken-else Lost Lost of among = taken-now Lost Lost of refl

    pub taken-stepped : {t : System} (e : Stored) → IsOf e n.node → Continues e m
        → Becomes s t i (after s i m e) [] → Stepped shape s t quietly
    taken-stepped e of log becomes =
        stepped-at site becomes
        (record {
          early = subst (λ (z : WholeNode). AreGiven s.frames z.early) (sym took.same)
              (sound-node took.held).early;
          acked = subst (λ (z : WholeNode). AreAcked s.frames z.core) (sym took.same)
              (sound-node took.held).acked;
          log = subst (λ (z : Stored). Continues z m) (sym (after-newest e)) log;
        })
        (λ x among.
        ⊎_elim {C = IsStoredAcked s.frames x}
        (λ (old : Among x (choices_of (s.places i))). site.sound.stored i x old)
        (λ (new : Among x (e ∷ [])).
        ⊎_elim {C = IsStoredAcked s.frames x}
        (λ (now : x ≡ e).
        subst (IsStoredAcked s.frames) (sym now) (of-acked e of (sound-node took.held).acked))
        (λ never. absurd never) new)
        (among-append x (choices_of (s.places i)) (e ∷ []) among))
        (λ x among.
        ⊎_elim {C = Follows shape s i (after s i m e) [] quietly x}
        (λ (old : Among x (choices_of (s.places i))). taken-else e x of old)
        (λ (new : Among x (e ∷ [])).
        ⊎_elim {C = Follows shape s i (after s i m e) [] quietly x}
        (λ (now : x ≡ e). taken-now e x of now) (λ never. absurd never) new)
        (among-append x (choices_of (s.places i)) (e ∷ []) among))
