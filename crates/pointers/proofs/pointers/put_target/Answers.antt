use mathlib.Core.Path.{◌∙◌}
use native.Mathlib.Omega.{arith}
use Rattle.values.proofs.Readiness.{owner_named}
use Rattle.pointers.proofs.Pointing.{target_room, target_put}
use Rattle.pointers.proofs.pointers.put_target.Goals as goal

pub name_at-owner-requires : goal.name_at-owner-requires
name_at-owner-requires c = let start = c.requires in (omega arith, owner_named _ _ start.0 start.1.count)

pub put_resource-requires : goal.put_resource-requires
put_resource-requires c =
    let start = c.requires in
    let owner = c.as_slice.ensures.value ∙ c.name_at-owner.ensures in
    let target = c.as_slice-2.ensures.value ∙ c.name_at-target.ensures in
    target_room _ _ _ _ _ _ start.1 c.shared_of-shared.ensures owner target _ start.2

pub returns : goal.returns
returns c =
    let owner = c.as_slice.ensures.value ∙ c.name_at-owner.ensures in
    let target = c.as_slice-2.ensures.value ∙ c.name_at-target.ensures in
    target_put _ _ _ _ _ _ c.requires.1 c.shared_of-shared.ensures owner target _ _ _ c.put_resource.ensures.put
