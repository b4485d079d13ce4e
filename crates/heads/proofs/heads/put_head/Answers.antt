use borrow.Author.Rules.{rules}
use Rattle.heads.specs.Head.{fixed_size, head_size}
use Rattle.buffer.proofs.Puts.{then_two}
use Rattle.heads.proofs.Head.{head_is}
use Rattle.heads.proofs.heads.put_head.Goals as goal

pub overflow_add-lo_size : goal.overflow_add-lo_size
unfolding head_size fixed_size
overflow_add-lo_size c = search rules

pub overflow_add-lo_size-2 : goal.overflow_add-lo_size-2
unfolding head_size fixed_size
overflow_add-lo_size-2 c = search rules

pub put_lengths-a-requires : goal.put_lengths-a-requires
unfolding head_size fixed_size
put_lengths-a-requires c = search rules

pub put_key-requires : goal.put_key-requires
unfolding head_size fixed_size
put_key-requires c = search rules

pub put_fixed-requires : goal.put_fixed-requires
unfolding head_size fixed_size
put_fixed-requires c = search rules

pub returns : goal.returns
unfolding head_size fixed_size
returns c = record {
  put = then_two _ _ _ _ c.put_lengths-a.ensures.put _ _ _ c.put_key.ensures.put _ _ _ _ c.put_fixed.ensures.put
      (head_is _ _ _ _ _ _ c.key_size.ensures.value c.lo_size.ensures.value);
  value = search rules;
}
