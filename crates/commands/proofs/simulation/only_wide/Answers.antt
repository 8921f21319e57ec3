use Rattle.commands.proofs.simulation.only_wide.Goals as goal

pub returns-in-SetBytes : goal.returns-in-SetBytes
returns-in-SetBytes c = rw c.in-SetBytes.is c.write.ensures

pub returns-in-Patch : goal.returns-in-Patch
returns-in-Patch c = rw c.in-Patch.is c.write-in-Patch.ensures

pub returns-in-Post : goal.returns-in-Post
returns-in-Post c = rw c.in-Post.is c.write-in-Post.ensures
