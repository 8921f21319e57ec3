-- An `Arena` after a `&mut` to one of its values was returned and has ended.
use Rattle.std.specs.Prelude.{Option}
use Rattle.std.specs.Borrow.{Lends, LendsIf, Fml, RattleType, MutBor}
use Rattle.arena.specs.Arena.{Arena, with_value}
use Rattle.arena.specs.declared.Key.{Key}
use Rattle.arena.specs.contracts.Arena.{the_row}

module _ (T : RattleType) (s : MutBor (Arena T.Denot)) (key : Key) where
  -- once the borrow ends, the value under the key is the last one written through it
  abbrev pub lends_occupied : MutBor T.Denot → Fml
  lends_occupied r = Lends (the_row T) T s r (with_value s.now key)

  -- the same if there is a value; otherwise the arena stays as it is
  abbrev pub lends_value : Option (MutBor T.Denot) → Fml
  lends_value r = LendsIf (the_row T) T s r (with_value s.now key) s.now
