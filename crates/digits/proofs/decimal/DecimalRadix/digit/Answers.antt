use Rattle.digits.proofs.Digit.{decimal_laws}
use Rattle.digits.proofs.decimal.DecimalRadix.digit.Goals as goal

pub returns-in-48-to-57 : goal.returns-in-48-to-57
returns-in-48-to-57 c = search decimal_laws

pub returns-in_default : goal.returns-in_default
returns-in_default c = search decimal_laws

pub returns-in_default-2 : goal.returns-in_default-2
returns-in_default-2 c = search decimal_laws
