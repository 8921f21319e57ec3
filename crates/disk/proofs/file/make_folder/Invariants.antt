use Rattle.std.proofs.Common.{length}
use Rattle.disk.proofs.file.make_folder.Given as goal

abbrev pub decreases-loop-path : goal.decreases-loop-path
decreases-loop-path g l = length l.absent.items
