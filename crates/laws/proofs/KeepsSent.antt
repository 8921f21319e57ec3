-- What a node's saved state sent stays sent: no step of a space takes any of it back.
use Rattle.std.proofs.Common.{◌≡◌, ℕ, List, [], ◌∷◌, length, refl, sym, ◌∙◌, length-set}
use Rattle.std.proofs.lemmas.List.FromFn.{length-map-range_with_len}
use Rattle.ids.specs.Limits.{Shaped}
use Rattle.model.specs.declared.step.Step.{Step}
use Rattle.model.specs.State.{NodeState, new_node, node_at, sent_to}
use Rattle.model.specs.World.{World, KeepsSent, new_world, happens, run}
use Rattle.laws.proofs.Lookups.{Grows, grows-refl, grows-trans}
use Rattle.laws.proofs.StepFacts.{Happening, nothing, acted, delivered, saved, restarted, happening, act-grows, receive-grows}
use Rattle.laws.proofs.Onward.{Onward, new-behind, step-behind}

-- the second state has sent the same messages to every node, and perhaps more
abbrev pub SentMore : NodeState → NodeState → Type 0
SentMore s t = (j : ℕ) → Grows (sent_to s j) (sent_to t j)

pub sent-onward : Onward SentMore
sent-onward = record {
  order = record {
    same = λ s j. grows-refl _;
    both = λ s t u g h j. grows-trans (sent_to s j) (sent_to t j) (sent_to u j) (g j) (h j);
  };
  acts = λ s e t a own answered j. act-grows s e t a j answered;
  receives = λ s m t a answered j. receive-grows s m t a j answered;
}

-- there are as many nodes as before
count-stays : {s : Step} (w v : World) → Happening w s v → length v.current ≡ length w.current
count-stays w v nothing = refl
count-stays w v (acted i e t a is x) = length-set w.current i t
count-stays w v (delivered m t a x) = length-set w.current m.to t
count-stays w v (saved i within) = refl
count-stays w v (restarted i is within) = length-set w.current i (node_at w.saved i)

pub run-count : (w : World) (steps : List Step) → length (run w steps).current ≡ length w.current
run-count w [] = refl
run-count w (s ∷ ss) = run-count (happens w s) ss ∙ count-stays w (happens w s) (happening w s)

-- There are as many nodes as the shape has, so theorems on runs may speak of either number.
pub node-count : (shape : Shaped) (steps : List Step)
    → length (run (new_world shape) steps).current ≡ shape.nodes
node-count shape steps =
    run-count (new_world shape) steps ∙ length-map-range_with_len (new_node shape) 0 shape.nodes

-- there are as many saved states as current ones
width-stays : {s : Step} (w v : World) → Happening w s v → length w.saved ≡ length w.current
    → length v.saved ≡ length v.current
width-stays w v nothing h = h
width-stays w v (acted i e t a is x) h = h ∙ sym (length-set w.current i t)
width-stays w v (delivered m t a x) h = h ∙ sym (length-set w.current m.to t)
width-stays w v (saved i within) h = length-set w.saved i (node_at w.current i) ∙ h
width-stays w v (restarted i is within) h = h ∙ sym (length-set w.current i (node_at w.saved i))

pub keeps-sent : (w : World) (s : Step) → KeepsSent w → KeepsSent (happens w s)
keeps-sent w s h = record {
  width = width-stays w (happens w s) (happening w s) h.width;
  sent = step-behind sent-onward w s h.sent;
}

pub new-keeps-sent : (shape : Shaped) → KeepsSent (new_world shape)
new-keeps-sent shape = record { width = refl; sent = new-behind sent-onward.order shape }
