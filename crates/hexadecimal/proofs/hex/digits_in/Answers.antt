use Rattle.hexadecimal.proofs.Digits.{is_text, valid_ok}
use Rattle.hexadecimal.proofs.hex.digits_in.Goals as goal

pub unwrap-requires : goal.unwrap-requires
unwrap-requires c = valid_ok _ _ c.from_utf8.result c.from_utf8.ensures.cases (rw c.put_digits.ensures (is_text c.args.bytes.now c.type_inv.bytes))
