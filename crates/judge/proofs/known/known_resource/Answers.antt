use Rattle.judge.proofs.KnownRecords.{known_data_laws}
use Rattle.judge.proofs.known.known_resource.Goals as goal

pub known_flag-lo-requires-clause-rdata_value : goal.known_flag-lo-requires-clause-rdata_value
known_flag-lo-requires-clause-rdata_value c = search known_data_laws

pub fields_in-requires : goal.fields_in-requires
fields_in-requires c = search known_data_laws

pub unwrap-requires : goal.unwrap-requires
unwrap-requires c = search known_data_laws

pub returns : goal.returns
returns c = search known_data_laws
