use Rattle.buffer.proofs.Puts.{put_laws}
use Rattle.heads.proofs.Head.{flag_lo}
use Rattle.heads.proofs.heads.put_flag.Goals as goal

pub returns : goal.returns
returns c = search (put_laws, flag_lo)
