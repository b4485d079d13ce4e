use borrow.Author.Rules.{rules}
use Rattle.std.proofs.Output.{has_written_append, has_written_of_eq}
use Rattle.std.proofs.Common.{[], ◌++◌}
use mathlib.Core.Path.{sym, ap}
use Rattle.hexadecimal.specs.Hex.{hex_text}
use Rattle.hexadecimal.proofs.Digits.{joined, turn, none_left}
use Rattle.hexadecimal.proofs.hex.HexDisplay.fmt.Goals as goal

pub loop-chunk-init : goal.loop-chunk-init
unfolding hex_text
loop-chunk-init g c = (search rules, tt, search rules, ([], search rules, search rules))

pub loop-chunk-preserved : goal.loop-chunk-preserved
loop-chunk-preserved g c =
    let cut = c.in-Some.ensures.steps.1 in
    let at = c.loop-chunk.invariant.3 in (
      search rules,
      tt,
      search rules,
      (
        at.0 ++ c.in-Some.chunk.now,
        turn _ _ _ _ _ at.1 cut.0,
        λ p.
            has_written_of_eq _ _ _ _ _ (sym (joined _ _)) (has_written_append _ _ _ _ _ _ (at.2 p) (search rules)),
      ),
    )

pub returns-clause-writes : goal.returns-clause-writes
returns-clause-writes g c p ok =
    let at = c.loop-chunk.invariant.3 in
    has_written_of_eq _ _ _ _ _ (ap hex_text (none_left _ _ _ at.1 c.in-None.ensures.steps.1.0)) (at.2 p)
