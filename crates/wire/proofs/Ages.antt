-- The cycle that a node knows to have ended never becomes an earlier one.
use Rattle.std.proofs.Common.{◌≡◌, ℕ, ◌≤◌, List, length, map, true, Ok, sym, subst, le_refl, le_trans, arith}
use Rattle.msg.specs.declared.body.Body.{Body}
use Rattle.model.specs.declared.event.Event.{Event}
use Rattle.model.specs.declared.event.Answer.{Answer}
use Rattle.model.specs.State.{LocalState, NodeState}
use Rattle.model.specs.Counting.{append, announce}
use Rattle.model.specs.Shading.{enter, see_to}
use Rattle.model.specs.Steps.{is_own, act, made, taken_in, settled, count_in}
use Rattle.model.proofs.Walk.{Walks, own-walks, taken-walks}
use Rattle.laws.proofs.StepFacts.{Delivery, act-ok, Receipt, repeated, next, receipt-cases}
use Rattle.laws.proofs.Onward.{Onward}

-- a later state of a node that knows of no end of a cycle after its own
abbrev pub Older : LocalState → LocalState → Type 0
Older p q =
    p.phases.ended ≤ p.phases.cycle
    → (p.phases.ended ≤ q.phases.ended) × (q.phases.ended ≤ q.phases.cycle)

still : (p : LocalState) → Older p p
still p h = (le_refl _, h)

then-older : (p q r : LocalState) → Older p q → Older q r → Older p r
then-older p q r f g h =
    let a = f h in let b = g a.1 in (le_trans a.0 b.0, b.1)

older-walks : Walks (λ _. Unit {0}) (λ p w. Older p w.local)
unfolding see_to enter append announce
older-walks = record {
  moves = record {
    collects = record {
      rest = still;
      both = λ p w f first second. then-older p w.local (f w.local).local first second;
      sees = λ due rs p. still p;
      enters = λ p cycle later h. (le_refl _, omega (arith, h, later));
      rings = λ p r. still p;
      ends = λ p h. (h, le_refl _);
      hears = λ p reports. still p;
      scans = λ p. still p;
      sends = λ to b p quiet. still p;
      tells = λ b p quiet. still p;
    };
    roots = λ p registers letters. still p;
    rewrites = λ p r f quiet. still p;
    places = λ p r place v. still p;
    makes = λ p register places ready. still p;
    gives = λ to b p carries. still p;
  };
  frees = record {
    sweeps = λ p count. still p;
    reclaims = λ p scope. still p;
  };
}

taken-older : (p : LocalState) (from number stamp : ℕ) (b : Body)
    → Older p (taken_in p from number stamp b).local
unfolding taken_in settled count_in
taken-older p from number stamp b = taken-walks older-walks p from stamp b

own-older : (p : LocalState) (counts : List ℕ) (e : Event) → is_own e ≡ true
    → Older p (made p counts e).local
own-older p counts e own = own-walks older-walks p counts e own tt

abbrev pub OlderNode : NodeState → NodeState → Type 0
OlderNode s t = Older s.local t.local

act-older : (s : NodeState) (e : Event) (t : NodeState) (a : Answer) → is_own e ≡ true
    → act s e ≡ Ok (t, a) → OlderNode s t
act-older s e t a own answered =
    subst (OlderNode s) (sym (act-ok s e t a answered).state)
    (own-older s.local (map length s.sent) e own)

receive-older : (s : NodeState) (m : Delivery) (t : NodeState) (a : Answer) → Receipt s m t a
    → OlderNode s t
receive-older s m t a (repeated same says) = subst (OlderNode s) (sym same) (still s.local)
receive-older s m t a (next turn may found) =
    subst (OlderNode s) (sym found.state)
    (taken-older s.local m.from m.number m.message.stamp m.message.body)

pub older-onward : Onward OlderNode
older-onward = record {
  order = record {
    same = λ s. still s.local;
    both = λ s t u f g. then-older s.local t.local u.local f g;
  };
  acts = act-older;
  receives = λ s m t a answered. receive-older s m t a (receipt-cases s m t a answered);
}
