use Rattle.judge.proofs.Meanings.{by_flag_laws}
use Rattle.judge.proofs.by_flag.Goals as goal

pub returns-then-not-is_low_name-clause-result_value : goal.returns-then-not-is_low_name-clause-result_value
returns-then-not-is_low_name-clause-result_value c = search by_flag_laws

pub returns-then-not-is_low_name-clause-result_in_bounds : goal.returns-then-not-is_low_name-clause-result_in_bounds
returns-then-not-is_low_name-clause-result_in_bounds c = search by_flag_laws

pub returns-then-is_wild-clause-result_value : goal.returns-then-is_wild-clause-result_value
returns-then-is_wild-clause-result_value c = search by_flag_laws

pub returns-then-is_wild-clause-result_in_bounds : goal.returns-then-is_wild-clause-result_in_bounds
returns-then-is_wild-clause-result_in_bounds c = search by_flag_laws

pub returns-clause-result_value : goal.returns-clause-result_value
returns-clause-result_value c = search by_flag_laws

pub returns-clause-result_in_bounds : goal.returns-clause-result_in_bounds
returns-clause-result_in_bounds c = search by_flag_laws
