use Rattle.std.proofs.Common.{◌≡◌, length, map, take}
use Rattle.disk.specs.Memory.{held_by}
use Rattle.c_handles.specs.Opening.{IsShort, areas_in}
use Rattle.c_handles.proofs.Lists.{EachBefore}
use Rattle.c_handles.proofs.opening.disks_of.Given as goal

abbrev pub invariant-loop-place : goal.invariant-loop-place
invariant-loop-place l = record {
  held : map held_by l.disks.items ≡ map areas_in (take l.place l.images);
  short : EachBefore IsShort l.images l.place;
  end : l.place-end ≡ length l.images;
}
