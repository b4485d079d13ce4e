use Rattle.judge.proofs.SeenRecords.{behind_laws}
use Rattle.judge.proofs.fields_in.Goals as goal

pub returns-in_err-shared : goal.returns-in_err-shared
returns-in_err-shared c = search behind_laws

pub returns : goal.returns
returns c = search behind_laws
