use Rattle.std.proofs.Common.{rules}
use Rattle.numbers.proofs.Number.{within}
use Rattle.boundaries.proofs.room_after.Goals as goal

pub returns-in-Some-number : goal.returns-in-Some-number
returns-in-Some-number g c = search (within, rules)
