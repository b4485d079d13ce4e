use Rattle.splits.proofs.Splitting.{split_laws}
use Rattle.splits.proofs.splits.splitter.split.Goals as goal
use Rattle.splits.proofs.splits.splitter.split.Goals.{then-b-eq58+else-most-count, else-b-eq58}

pub loop-i-init : goal.loop-i-init
loop-i-init c = search split_laws

pub returns-then-most-count : goal.returns-then-most-count
returns-then-most-count c = search split_laws

pub loop-i-preserved : goal.loop-i-preserved
loop-i-preserved c =
    elim c.if-b-eq58.branch [
      | then-b-eq58+else-most-count w ↦ rw (w.spans-is, w.count-is, w.start-is) (search split_laws)
      | else-b-eq58 w ↦ rw (w.spans-is, w.count-is, w.start-is) (search split_laws)
    ]

pub returns-else-count-most : goal.returns-else-count-most
returns-else-count-most c = search split_laws

pub invariant_of-result : goal.invariant_of-result
invariant_of-result c = search split_laws

pub returns-then-count-most : goal.returns-then-count-most
returns-then-count-most c = search split_laws
