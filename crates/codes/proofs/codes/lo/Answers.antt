use Rattle.std.proofs.Common.{◌∙◌}
use Rattle.codes.proofs.Los.{one, one_none, two, first_none, second_none, empty, long}
use Rattle.codes.proofs.codes.lo.Goals as goal

pub returns-in_err-letter-in-len1 : goal.returns-in_err-letter-in-len1
returns-in_err-letter-in-len1 c = c.from_residual.ensures ∙ one_none c.args.text.now c.in-len1.len_at_least c.in-len1.len_below c.in_err-letter-in-len1.ensures

pub returns-in_err-letter-in-len2 : goal.returns-in_err-letter-in-len2
returns-in_err-letter-in-len2 c = c.from_residual-in_err-letter-in-len2.ensures ∙ first_none c.args.text.now c.in-len2.len_at_least c.in-len2.len_below c.in_err-letter-in-len2.ensures

pub returns-in_err-letter-in-len2-2 : goal.returns-in_err-letter-in-len2-2
returns-in_err-letter-in-len2-2 c =
    c.from_residual-in_err-letter-in-len2-2.ensures ∙ second_none c.args.text.now c.in-len2.len_at_least c.in-len2.len_below c.in_err-letter-in-len2-2.ensures

pub returns-in_ok-letter-in-len1 : goal.returns-in_ok-letter-in-len1
returns-in_ok-letter-in-len1 c = one c.args.text.now _ c.in-len1.len_at_least c.in-len1.len_below c.in_ok-letter-in-len1.ensures

pub returns-in_ok-letter-in-len2-2 : goal.returns-in_ok-letter-in-len2-2
returns-in_ok-letter-in-len2-2 c = two c.args.text.now _ _ c.in-len2.len_at_least c.in-len2.len_below c.in_ok-letter-in-len2.ensures c.in_ok-letter-in-len2-2.ensures

pub returns-in_default : goal.returns-in_default
returns-in_default c = empty c.args.text.now c.in_default.len_below

pub returns-in_default-2 : goal.returns-in_default-2
returns-in_default-2 c = long c.args.text.now c.in_default.len_at_least
