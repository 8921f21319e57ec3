use Rattle.codec.specs.Readers.{left}
use Rattle.node_store.specs.Values.{IsAlone}
use Rattle.node_store.proofs.Ends.{IsLeft, length_of}
use Rattle.node_store.proofs.redoing.redo.Given as goal

abbrev pub invariant-loop-reader : goal.invariant-loop-reader
invariant-loop-reader l =
    IsAlone l.node × IsLeft l.batch l.fn.node.core (left l.reader) l.node.core

-- how many bytes are left
abbrev pub decreases-loop-reader : goal.decreases-loop-reader
decreases-loop-reader l = length_of (left l.reader)
