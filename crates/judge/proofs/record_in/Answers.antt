use Rattle.judge.proofs.ByKeys.{record_laws}
use Rattle.judge.proofs.record_in.Goals as goal

pub returns-then-is_empty-clause-result_value : goal.returns-then-is_empty-clause-result_value
returns-then-is_empty-clause-result_value c = search record_laws

pub returns-then-is_empty-clause-result_in_bounds : goal.returns-then-is_empty-clause-result_in_bounds
returns-then-is_empty-clause-result_in_bounds c = search record_laws

pub returns-then-is_location-clause-result_value : goal.returns-then-is_location-clause-result_value
returns-then-is_location-clause-result_value c = search record_laws

pub returns-clause-result_value : goal.returns-clause-result_value
returns-clause-result_value c = search record_laws
