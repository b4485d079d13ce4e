use Rattle.std.specs.Slice.Iter.{chunks_rest, chunks_size}
use Rattle.txt.proofs.Chunking.{Going}
use Rattle.txt.proofs.txt.put_chunks.Given as goal

abbrev pub invariant-loop-chunk : goal.invariant-loop-chunk
invariant-loop-chunk l =
    (goal.iterator-loop-chunk).can_next l.chunk-iterator
    × (goal.iterator-loop-chunk).is_finite l.chunk-iterator
    × Going l.text l.initial.out l.out l.used (chunks_size l.chunk-iterator) (chunks_rest l.chunk-iterator)
