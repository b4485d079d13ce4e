use Rattle.judge.proofs.KnownRecords.{known_laws}
use Rattle.judge.proofs.known.known_in.Goals as goal

pub unwrap-requires : goal.unwrap-requires
unwrap-requires c = search known_laws

pub returns-then-is_location-clause-result_value : goal.returns-then-is_location-clause-result_value
returns-then-is_location-clause-result_value c = search known_laws

pub known_resource-requires-clause-in_bounds : goal.known_resource-requires-clause-in_bounds
known_resource-requires-clause-in_bounds c = search known_laws

pub known_resource-requires-clause-rdata_value : goal.known_resource-requires-clause-rdata_value
known_resource-requires-clause-rdata_value c = search known_laws

pub returns-clause-result_value : goal.returns-clause-result_value
returns-clause-result_value c = search known_laws

pub returns-clause-result_in_bounds : goal.returns-clause-result_in_bounds
returns-clause-result_in_bounds c = search known_laws
