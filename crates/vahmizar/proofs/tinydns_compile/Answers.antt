use Rattle.vahmizar.proofs.Laid.{compile_length, compile_called}
use Rattle.vahmizar.proofs.tinydns_compile.Goals as goal

pub returns-then-answer-ne32 : goal.returns-then-answer-ne32
returns-then-answer-ne32 c = compile_length _ _ _ _ c.if-answer-ne32.true

pub returns : goal.returns
returns c =
    compile_called _ _ _ _ _ _ _ _ _ c.if-answer-ne32.false c.compile-said.ensures c.number-first.ensures c.put_numbers.ensures.put c.put_numbers.ensures.value
