use Rattle.buffer.proofs.Puts.{put_laws}
use Rattle.txt.proofs.txt.put_chunk.Goals as goal

pub returns : goal.returns
returns c = search put_laws
