use Rattle.judge.proofs.ByKeys.{location_laws}
use Rattle.judge.proofs.location_in.Goals as goal

pub returns-then-key-ne37-clause-result_value : goal.returns-then-key-ne37-clause-result_value
returns-then-key-ne37-clause-result_value c = search location_laws

pub returns-then-key-ne37-clause-result_in_bounds : goal.returns-then-key-ne37-clause-result_in_bounds
returns-then-key-ne37-clause-result_in_bounds c = search location_laws

pub returns-then-key-gt6-clause-result_value : goal.returns-then-key-gt6-clause-result_value
returns-then-key-gt6-clause-result_value c = search location_laws

pub returns-then-key-gt6-clause-result_in_bounds : goal.returns-then-key-gt6-clause-result_in_bounds
returns-then-key-gt6-clause-result_in_bounds c = search location_laws

pub returns-then-rdata-ne2-clause-result_value : goal.returns-then-rdata-ne2-clause-result_value
returns-then-rdata-ne2-clause-result_value c = search location_laws

pub returns-then-rdata-ne2-clause-result_in_bounds : goal.returns-then-rdata-ne2-clause-result_in_bounds
returns-then-rdata-ne2-clause-result_in_bounds c = search location_laws

pub returns-then-not-is_lo-clause-result_value : goal.returns-then-not-is_lo-clause-result_value
returns-then-not-is_lo-clause-result_value c = search location_laws

pub returns-then-not-is_lo-clause-result_in_bounds : goal.returns-then-not-is_lo-clause-result_in_bounds
returns-then-not-is_lo-clause-result_in_bounds c = search location_laws

pub returns-clause-result_value : goal.returns-clause-result_value
returns-clause-result_value c = search location_laws

pub returns-clause-result_in_bounds : goal.returns-clause-result_in_bounds
returns-clause-result_in_bounds c = search location_laws
