use Rattle.buffer.proofs.Puts.{put_laws}
use Rattle.heads.proofs.locations.put_prefix_key.Goals as goal

pub returns : goal.returns
returns c = search put_laws
