use Rattle.vahmizar.proofs.Laid.{ask_length, ask_called}
use Rattle.vahmizar.proofs.tinydns_ask.Goals as goal

pub returns-then-answer-ne48 : goal.returns-then-answer-ne48
returns-then-answer-ne48 c = ask_length _ _ _ _ c.if-answer-ne48.true

pub returns : goal.returns
returns c =
    ask_called _ _ _ _ _ _ _ c.if-answer-ne48.false c.ask-response.ensures c.put_response.ensures.out_after c.put_response.ensures.value
