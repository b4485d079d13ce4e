use Rattle.vahmizar.specs.Promises.{laid}
use Rattle.vahmizar.proofs.answer_bytes.put_numbers.Goals as goal

pub returns-clause-put : goal.returns-clause-put
unfolding laid
returns-clause-put c = c.put_each_le.ensures.put
