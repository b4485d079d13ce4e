use Rattle.heads.proofs.Head.{key_laws}
use Rattle.heads.proofs.heads.put_key.Goals as goal

pub is_wild-requires : goal.is_wild-requires
is_wild-requires c = search key_laws

pub slice_bounds-put_lowered-count : goal.slice_bounds-put_lowered-count
slice_bounds-put_lowered-count c = search key_laws

pub slice_bounds-put_lowered-start : goal.slice_bounds-put_lowered-start
slice_bounds-put_lowered-start c = search key_laws

pub slice_bounds-put_lowered-end : goal.slice_bounds-put_lowered-end
slice_bounds-put_lowered-end c = search key_laws

pub put_lowered-requires : goal.put_lowered-requires
put_lowered-requires c = search key_laws

pub shape_of-out-then-is_wild : goal.shape_of-out-then-is_wild
shape_of-out-then-is_wild c = search key_laws

pub returns-then-is_wild : goal.returns-then-is_wild
returns-then-is_wild c = search key_laws

pub put_lowered-requires-2 : goal.put_lowered-requires-2
put_lowered-requires-2 c = search key_laws

pub shape_of-out : goal.shape_of-out
shape_of-out c = search key_laws

pub returns : goal.returns
returns c = search key_laws
