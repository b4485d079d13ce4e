use Rattle.vahmizar.proofs.Laid.{response_laws}
use Rattle.vahmizar.proofs.answer_bytes.put_response.Goals as goal

pub returns : goal.returns
returns c = search response_laws
