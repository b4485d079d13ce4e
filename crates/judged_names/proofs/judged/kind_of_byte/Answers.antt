use Rattle.rules.specs.Lists.{pick}
use Rattle.rules.specs.Names.{name_byte}
use Rattle.wire.proofs.Steps.{tests}
use Rattle.judged_names.specs.NameCounts.{byte_kind}
use Rattle.judged_names.proofs.judged.kind_of_byte.Goals as goal

pub returns-in-46 : goal.returns-in-46
unfolding byte_kind name_byte pick
returns-in-46 c = search tests

pub returns-in-92 : goal.returns-in-92
unfolding byte_kind name_byte pick
returns-in-92 c = search tests

pub returns-in-33-to-126 : goal.returns-in-33-to-126
unfolding byte_kind name_byte pick
returns-in-33-to-126 c = search tests

pub returns-in_default : goal.returns-in_default
unfolding byte_kind name_byte pick
returns-in_default c = search tests

pub returns-in_default-2 : goal.returns-in_default-2
unfolding byte_kind name_byte pick
returns-in_default-2 c = search tests
