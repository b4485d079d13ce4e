use Rattle.splits.proofs.Splitting.{field_laws}
use Rattle.splits.proofs.splits.Fields.field.Goals as goal

pub slice_bounds-result-count : goal.slice_bounds-result-count
slice_bounds-result-count c = search field_laws

pub slice_bounds-result-start : goal.slice_bounds-result-start
slice_bounds-result-start c = search field_laws

pub slice_bounds-result-end : goal.slice_bounds-result-end
slice_bounds-result-end c = search field_laws

pub returns : goal.returns
returns c = search field_laws
