use mathlib.Core.Path.{◌∙◌}
use Rattle.places.proofs.Placing.{malformed_there, whole_there, place_laws}
use Rattle.places.proofs.record_at.Goals as goal

pub returns-then-bytes-at : goal.returns-then-bytes-at
returns-then-bytes-at c = search place_laws

pub returns-in_err-record_in : goal.returns-in_err-record_in
returns-in_err-record_in c =
    c.from_residual.ensures
    ∙ malformed_there _ _ _ c.span_at-key.ensures _ c.record_in.ensures.result_value c.in_err-record_in.was

pub returns : goal.returns
returns c = whole_there _ _ _ c.span_at-key.ensures _ c.record_in.ensures.result_value _ c.in_ok-record_in.was
