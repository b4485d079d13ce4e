use borrow.Author.Rules.{rules}
use Rattle.txt.proofs.Chunking.{chunks_length}
use Rattle.txt.proofs.txt.chunks_size.Goals as goal

pub returns : goal.returns
returns c = search (rules, chunks_length)
