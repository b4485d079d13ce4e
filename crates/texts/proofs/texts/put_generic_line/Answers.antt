use mathlib.Core.Path.{◌∙◌}
use native.Mathlib.Omega.{arith}
use Rattle.values.proofs.Readiness.{owner_named}
use Rattle.texts.proofs.TextLines.{generic_ready, generic_fields, generic_room, generic_put}
use Rattle.texts.proofs.texts.put_generic_line.Goals as goal

pub shared_of-shared-requires : goal.shared_of-shared-requires
shared_of-shared-requires c = generic_fields

pub name_at-owner-requires : goal.name_at-owner-requires
name_at-owner-requires c = (omega arith, owner_named _ _ c.requires.0 generic_fields)

pub text_at-rdata-requires : goal.text_at-rdata-requires
text_at-rdata-requires c = let ready = c.requires.0 in (omega arith, ready.short 2, generic_ready _ ready)

pub put_resource-requires : goal.put_resource-requires
put_resource-requires c =
    let owner = c.as_slice.ensures.value ∙ c.name_at-owner.ensures in
    let rdata = c.as_slice-2.ensures.value ∙ c.text_at-rdata.ensures in
    generic_room _ _ _ _ owner _ c.shared_of-shared.ensures c.short_at-rtype.ensures rdata _ c.requires.1

pub returns : goal.returns
returns c =
    let owner = c.as_slice.ensures.value ∙ c.name_at-owner.ensures in
    let rdata = c.as_slice-2.ensures.value ∙ c.text_at-rdata.ensures in
    generic_put _ _ _ _ owner _ c.shared_of-shared.ensures c.short_at-rtype.ensures rdata _ _ _ c.put_resource.ensures.put
