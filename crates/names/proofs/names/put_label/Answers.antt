use Rattle.names.proofs.Label.{label_laws}
use Rattle.names.proofs.names.put_label.Goals as goal

pub returns-then-n-eq0 : goal.returns-then-n-eq0
returns-then-n-eq0 c = search label_laws

pub bounds-out-0 : goal.bounds-out-0
bounds-out-0 c = search label_laws

pub slice_bounds-put_bytes-count : goal.slice_bounds-put_bytes-count
slice_bounds-put_bytes-count c = search label_laws

pub slice_bounds-put_bytes-start : goal.slice_bounds-put_bytes-start
slice_bounds-put_bytes-start c = search label_laws

pub put_bytes-requires : goal.put_bytes-requires
put_bytes-requires c = search label_laws

pub returns : goal.returns
returns c = search label_laws
