use mathlib.Core.Path.{ap, ◌∙◌}
use Rattle.rules.specs.Records.{contact_of}
use Rattle.zones.proofs.ZoneRecords.{authority_put, authority_room}
use Rattle.zones.proofs.zones.put_authority.Goals as goal

pub read_contact-contact-requires : goal.read_contact-contact-requires
read_contact-contact-requires c = rw c.as_slice-owner.ensures.value c.requires.0

pub put_soa-requires : goal.put_soa-requires
put_soa-requires c =
    let owner = c.as_slice-owner.ensures.value in
    let contact = c.as_slice-2.ensures.value ∙ c.read_contact-contact.ensures ∙ ap contact_of owner in
    authority_room c.args.serial c.args.line.now _ _ _ _ c.soa_shared.ensures owner c.as_slice.ensures.value contact _ c.requires.1

pub returns : goal.returns
returns c =
    let owner = c.as_slice-owner.ensures.value in
    let contact = c.as_slice-2.ensures.value ∙ c.read_contact-contact.ensures ∙ ap contact_of owner in
    authority_put c.args.serial c.args.line.now _ _ _ _ c.soa_shared.ensures owner c.as_slice.ensures.value contact _ _ _ c.put_soa.ensures.put
