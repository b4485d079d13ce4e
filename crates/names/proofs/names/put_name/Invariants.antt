use Rattle.rules.specs.Names.{wire_of}
use Rattle.names.proofs.Cut.{Left}
use Rattle.names.proofs.Wire.{Putting}
use Rattle.names.proofs.names.put_name.Given as goal

abbrev pub invariant-loop-part : goal.invariant-loop-part
invariant-loop-part l = Putting (wire_of l.text) l.initial.out l.out l.used (Left l.part-iterator)
