use Rattle.rules.specs.Fields.{largest_short}
use Rattle.fields.proofs.FieldFault.{reserved_type, free_type, no_type}
use Rattle.fields.proofs.faults.type_fault.Goals as goal

pub returns-in-Some : goal.returns-in-Some
unfolding largest_short
returns-in-Some c = reserved_type c.args.text.now c.in-Some.n _ c.in-Some.ensures c.is_reserved.ensures c.if-is_reserved.true

pub returns-in-Some-2 : goal.returns-in-Some-2
unfolding largest_short
returns-in-Some-2 c = free_type c.args.text.now c.in-Some.n _ c.in-Some.ensures c.is_reserved.ensures c.if-is_reserved.false

pub returns-in-None : goal.returns-in-None
unfolding largest_short
returns-in-None c = no_type c.args.text.now c.in-None.ensures
