use borrow.Author.Rules.{rules}
use Rattle.txt.proofs.Chunking.{small, chunk_room, next, chunks_all, chunks_count}
use Rattle.txt.proofs.txt.put_chunks.Goals as goal

pub put_chunk-used-requires : goal.put_chunk-used-requires
put_chunk-used-requires c =
    let cut = c.in-Some.ensures.steps.1 in (
      chunk_room _ _ _ _ _ _ c.loop-chunk.invariant.2 _ _ cut.0 cut.1 cut.2,
      small _ _ _ _ _ _ c.loop-chunk.invariant.2 _ _ cut.0 cut.1 cut.2,
    )

pub loop-chunk-preserved : goal.loop-chunk-preserved
loop-chunk-preserved c =
    let cut = c.in-Some.ensures.steps.1 in (
      search rules,
      tt,
      next _ _ _ _ _ _ c.loop-chunk.invariant.2 _ _ cut.0 cut.1 cut.2 _ _ _ c.put_chunk-used.ensures.put c.in-Some.ensures.steps.0,
    )

pub returns-clause-put : goal.returns-clause-put
returns-clause-put c = chunks_all _ _ _ _ _ _ c.loop-chunk.invariant.2 c.in-None.ensures.steps.1.0

pub returns-clause-value : goal.returns-clause-value
returns-clause-value c = chunks_count _ _ _ _ _ _ c.loop-chunk.invariant.2 c.in-None.ensures.steps.1.0
