-- What an event is to a node's core, unless it receives the message that waits.
use Rattle.std.proofs.Common.{◌≡◌, false, refl}
use Rattle.std.proofs.lemmas.Bool.{true≢false}
use Rattle.model.specs.declared.event.Event.{Event}
use Rattle.model.specs.declared.event.Event.TheVariants as event
use Rattle.node.specs.Keeping.{Rings, met}
use Rattle.node_store.specs.Logs.{is_turn}

pub met_same : (early : Rings) (e : Event) → is_turn e ≡ false → met early e ≡ e
met_same early (event.Next from) is = absurd (true≢false is)
met_same early e is = refl
