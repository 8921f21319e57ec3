-- How an outbox shows its frames.
use Rattle.std.specs.Prelude.{◌≤◌, length}
use Rattle.world.specs.declared.outbox.Outbox.TheInside.{Inside}
use Rattle.world.specs.Outboxes.{OutboxView}

abbrev pub view_of : Inside → OutboxView
view_of b = record { frames = b.frames; released = b.released }

abbrev pub IsWhole : Inside → Type 0
IsWhole b = b.released ≤ length b.frames
