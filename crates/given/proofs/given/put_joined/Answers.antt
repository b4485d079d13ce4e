use mathlib.Core.Path.{refl}
use Rattle.buffer.proofs.Puts.{then_two}
use Rattle.given.proofs.Giving.{join_laws}
use Rattle.given.proofs.given.put_joined.Goals as goal

pub put_label-a-requires : goal.put_label-a-requires
put_label-a-requires c = search join_laws

pub slice_bounds-put_label-count : goal.slice_bounds-put_label-count
slice_bounds-put_label-count c = search join_laws

pub slice_bounds-put_label-start : goal.slice_bounds-put_label-start
slice_bounds-put_label-start c = search join_laws

pub slice_bounds-put_label-end : goal.slice_bounds-put_label-end
slice_bounds-put_label-end c = search join_laws

pub put_label-requires : goal.put_label-requires
put_label-requires c = search join_laws

pub overflow_add-b : goal.overflow_add-b
overflow_add-b c = search join_laws

pub slice_bounds-put_bytes-count : goal.slice_bounds-put_bytes-count
slice_bounds-put_bytes-count c = search join_laws

pub slice_bounds-put_bytes-start : goal.slice_bounds-put_bytes-start
slice_bounds-put_bytes-start c = search join_laws

pub slice_bounds-put_bytes-end : goal.slice_bounds-put_bytes-end
slice_bounds-put_bytes-end c = search join_laws

pub put_bytes-requires : goal.put_bytes-requires
put_bytes-requires c = search join_laws

pub overflow_add-result : goal.overflow_add-result
overflow_add-result c = search join_laws

pub shape_of-out : goal.shape_of-out
shape_of-out c = search join_laws

pub returns : goal.returns
returns c =
    then_two _ _ _ _ c.put_label-a.ensures _ _ _ c.put_label.ensures _ _ _ _ c.put_bytes.ensures.put refl
