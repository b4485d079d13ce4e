use mathlib.Core.Path.{ap, ◌∙◌}
use Rattle.locate.specs.Locations.{judged_lo}
use Rattle.locate.proofs.Locating.{breaks, prefix_there, location_goes, owned_goes, all_located, all_covered, locate_laws}
use Rattle.locate.proofs.judge_and_locate.Goals as goal

pub loop-stop-init : goal.loop-stop-init
loop-stop-init c = search locate_laws

pub returns-in_err-lo-clause-result_value : goal.returns-in_err-lo-clause-result_value
returns-in_err-lo-clause-result_value c =
    ap judged_lo c.from_residual.ensures ∙ breaks _ _ _ _ _ _ _ c.loop-stop.invariant _ c.in-Some.ensures c.in_err-lo.was

pub better_in-located-requires : goal.better_in-located-requires
better_in-located-requires c = prefix_there _ _ _ _ _ _ _ c.loop-stop.invariant _ c.in-Some.ensures _ c.in_ok-lo.was _ c.in-Location.is

pub loop-stop-preserved-in-Location : goal.loop-stop-preserved-in-Location
loop-stop-preserved-in-Location c =
    location_goes _ _ _ _ _ _ _ c.loop-stop.invariant _ c.in-Some.ensures _ c.in_ok-lo.was _ c.in-Location.is _ c.better_in-located.ensures

pub loop-stop-preserved : goal.loop-stop-preserved
loop-stop-preserved c =
    owned_goes _ _ _ _ _ _ _ c.loop-stop.invariant _ c.in-Some.ensures _ c.in_ok-lo.was _ _ c.in-Owned.is _ _ c.grown-level.ensures c.grown-control.ensures

pub returns-clause-result_value : goal.returns-clause-result_value
returns-clause-result_value c = all_located _ _ _ _ _ _ _ c.loop-stop.invariant c.in_default.ensures _ _

pub returns-clause-covered : goal.returns-clause-covered
returns-clause-covered c = all_covered _ _ _ _ _ _ _ c.loop-stop.invariant c.in_default.ensures _ _ c.unwrap_or.ensures c.unwrap_or-2.ensures
