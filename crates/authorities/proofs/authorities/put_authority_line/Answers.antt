use mathlib.Core.Path.{◌∙◌}
use native.Mathlib.Omega.{arith}
use Rattle.values.proofs.Readiness.{owner_named}
use Rattle.authorities.proofs.Authority.{mname_named, rname_named, authority_fields, authority_room, authority_put}
use Rattle.authorities.proofs.authorities.put_authority_line.Goals as goal

pub shared_of-shared-requires : goal.shared_of-shared-requires
shared_of-shared-requires c = authority_fields

pub name_at-owner-requires : goal.name_at-owner-requires
name_at-owner-requires c = (omega arith, owner_named _ _ c.requires.0 authority_fields)

pub name_at-mname-requires : goal.name_at-mname-requires
name_at-mname-requires c = (omega arith, mname_named _ c.requires.0)

pub name_at-rname-requires : goal.name_at-rname-requires
name_at-rname-requires c = (omega arith, rname_named _ c.requires.0)

pub put_soa-requires : goal.put_soa-requires
put_soa-requires c =
    let owner = c.as_slice.ensures.value ∙ c.name_at-owner.ensures in
    let mname = c.as_slice-2.ensures.value ∙ c.name_at-mname.ensures in
    let rname = c.as_slice-3.ensures.value ∙ c.name_at-rname.ensures in
    authority_room _ _ _ _ _ _ _ c.shared_of-shared.ensures owner mname rname c.soa_numbers-numbers.ensures _ c.requires.1

pub returns : goal.returns
returns c =
    let owner = c.as_slice.ensures.value ∙ c.name_at-owner.ensures in
    let mname = c.as_slice-2.ensures.value ∙ c.name_at-mname.ensures in
    let rname = c.as_slice-3.ensures.value ∙ c.name_at-rname.ensures in
    authority_put _ _ _ _ _ _ _ c.shared_of-shared.ensures owner mname rname c.soa_numbers-numbers.ensures _ _ _ c.put_soa.ensures.put
