use borrow.Author.Rules.{rules}
use Rattle.buffer.proofs.Puts.{then_two}
use Rattle.heads.proofs.Whole.{location_is}
use Rattle.heads.proofs.locations.put_location.Goals as goal

pub returns : goal.returns
returns c = record {
  put = then_two _ _ _ _ c.put_lengths-a.ensures.put _ _ _ c.put_prefix_key.ensures.put _ _ _ _ c.put_lo.ensures.put
      (location_is _ _ _ c.lo_size.ensures.value);
  value = search rules;
}
