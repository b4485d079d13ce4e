use borrow.Author.Rules.{rules}
use Rattle.heads.specs.Head.{fixed_size}
use Rattle.buffer.proofs.Puts.{then_two}
use Rattle.heads.proofs.Head.{fixed_is}
use Rattle.heads.proofs.heads.put_fixed.Goals as goal

pub put_be-a-requires : goal.put_be-a-requires
unfolding fixed_size
put_be-a-requires c = search rules

pub put_flag-requires : goal.put_flag-requires
unfolding fixed_size
put_flag-requires c = search rules

pub put_times-requires : goal.put_times-requires
unfolding fixed_size
put_times-requires c = search rules

pub returns : goal.returns
unfolding fixed_size
returns c = record {
  put = then_two _ _ _ _ c.put_be-a.ensures.put _ _ _ c.put_flag.ensures.put _ _ _ _ c.put_times.ensures.put
      (fixed_is _ _ _ _ c.is_wild.ensures);
  value = search rules;
}
