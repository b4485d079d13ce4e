use Rattle.reader.proofs.Passes.{level_laws}
use Rattle.reader.proofs.answer.Asked.in_level.Goals as goal

pub returns-then-not-is_found : goal.returns-then-not-is_found
returns-then-not-is_found c = search level_laws

pub returns-then-ordinal-eq0 : goal.returns-then-ordinal-eq0
returns-then-ordinal-eq0 c = search level_laws

pub returns : goal.returns
returns c = search level_laws
