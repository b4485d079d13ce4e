use Rattle.hexadecimal.proofs.Digits.{digit_laws}
use Rattle.hexadecimal.proofs.hex.put_digits.Goals as goal

pub loop-i-init : goal.loop-i-init
loop-i-init c = search digit_laws

pub loop-i-preserved : goal.loop-i-preserved
loop-i-preserved c = search digit_laws
