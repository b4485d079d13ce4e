use mathlib.Core.Path.{◌≡◌}
use lib.ListN.{length}
use mathlib.Core.List.{map}
use Rattle.rules.specs.Lists.{lower}
use Rattle.rules.specs.Questions.{ancestors}
use Rattle.ranks.specs.Ranks.{among}
use Rattle.ranks.proofs.is_ancestor.Given as goal

abbrev pub invariant-loop-first : goal.invariant-loop-first
invariant-loop-first l = among l.key (ancestors (map lower l.rest)) ≡ among l.key (ancestors (map lower l.name))

abbrev pub decreases-loop-first : goal.decreases-loop-first
decreases-loop-first l = length l.rest
