use Rattle.serving.proofs.Serving.{not_compiled, served, serve_laws}
use Rattle.serving.proofs.compile_and_ask.Goals as goal

pub slice_bounds-ask-end : goal.slice_bounds-ask-end
slice_bounds-ask-end c = search serve_laws

pub slice_bounds-ask-end-in-Done : goal.slice_bounds-ask-end-in-Done
slice_bounds-ask-end-in-Done c = search serve_laws

pub returns-in-Done : goal.returns-in-Done
returns-in-Done c = search (served)

pub returns-in_default : goal.returns-in_default
returns-in_default c = search (not_compiled)
