use Rattle.judge.proofs.ByKeys.{type_laws}
use Rattle.judge.proofs.resource_in.Goals as goal

pub returns-then-rdata-lt3-clause-result_value : goal.returns-then-rdata-lt3-clause-result_value
returns-then-rdata-lt3-clause-result_value c = search type_laws

pub returns-then-rdata-lt3-clause-result_in_bounds : goal.returns-then-rdata-lt3-clause-result_in_bounds
returns-then-rdata-lt3-clause-result_in_bounds c = search type_laws

pub returns-clause-result_value : goal.returns-clause-result_value
returns-clause-result_value c = search type_laws
