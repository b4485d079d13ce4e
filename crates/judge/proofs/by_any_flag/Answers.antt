use Rattle.judge.proofs.Meanings.{any_flag_laws}
use Rattle.judge.proofs.by_any_flag.Goals as goal

pub returns-then-not-fits_owner-clause-result_value : goal.returns-then-not-fits_owner-clause-result_value
returns-then-not-fits_owner-clause-result_value c = search any_flag_laws

pub returns-then-not-fits_owner-clause-result_in_bounds : goal.returns-then-not-fits_owner-clause-result_in_bounds
returns-then-not-fits_owner-clause-result_in_bounds c = search any_flag_laws

pub returns-in_err-lo-clause-result_value : goal.returns-in_err-lo-clause-result_value
returns-in_err-lo-clause-result_value c = search any_flag_laws

pub returns-in_err-lo-clause-result_in_bounds : goal.returns-in_err-lo-clause-result_in_bounds
returns-in_err-lo-clause-result_in_bounds c = search any_flag_laws

pub fields_in-requires : goal.fields_in-requires
fields_in-requires c = search any_flag_laws

pub returns-clause-result_value : goal.returns-clause-result_value
returns-clause-result_value c = search any_flag_laws

pub returns-clause-result_in_bounds : goal.returns-clause-result_in_bounds
returns-clause-result_in_bounds c = search any_flag_laws
