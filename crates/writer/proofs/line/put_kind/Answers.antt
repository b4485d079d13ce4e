use Rattle.writer.proofs.ByKind.{ready_as, room_as, put_as, nothing_as, location_serial, zone_serial, delegation_serial, host_serial, alias_serial, mail_serial, service_serial, text_serial, pointer_serial, canonical_serial, authority_serial, generic_serial}
use Rattle.writer.proofs.line.put_kind.Goals as goal

pub put_location_line-requires : goal.put_location_line-requires
put_location_line-requires c =
    let start = c.requires in
    (ready_as _ _ _ c.in-Location.is start.0, room_as _ _ _ c.in-Location.is _ _ (location_serial _ _) _ start.1)

pub put_zone_line-requires : goal.put_zone_line-requires
put_zone_line-requires c =
    let start = c.requires in
    (ready_as _ _ _ c.in-Zone.is start.0, room_as _ _ _ c.in-Zone.is _ _ (zone_serial _ _) _ start.1)

pub put_delegation_line-requires : goal.put_delegation_line-requires
put_delegation_line-requires c =
    let start = c.requires in
    (ready_as _ _ _ c.in-Delegation.is start.0, room_as _ _ _ c.in-Delegation.is _ _ (delegation_serial _ _) _ start.1)

pub put_host_line-requires : goal.put_host_line-requires
put_host_line-requires c =
    let start = c.requires in
    (ready_as _ _ _ c.in-Host.is start.0, room_as _ _ _ c.in-Host.is _ _ (host_serial _ _) _ start.1)

pub put_alias_line-requires : goal.put_alias_line-requires
put_alias_line-requires c =
    let start = c.requires in
    (ready_as _ _ _ c.in-Alias.is start.0, room_as _ _ _ c.in-Alias.is _ _ (alias_serial _ _) _ start.1)

pub put_mail_line-requires : goal.put_mail_line-requires
put_mail_line-requires c =
    let start = c.requires in
    (ready_as _ _ _ c.in-Mail.is start.0, room_as _ _ _ c.in-Mail.is _ _ (mail_serial _ _) _ start.1)

pub put_service_line-requires : goal.put_service_line-requires
put_service_line-requires c =
    let start = c.requires in
    (ready_as _ _ _ c.in-Service.is start.0, room_as _ _ _ c.in-Service.is _ _ (service_serial _ _) _ start.1)

pub put_text_line-requires : goal.put_text_line-requires
put_text_line-requires c =
    let start = c.requires in
    (ready_as _ _ _ c.in-Text.is start.0, room_as _ _ _ c.in-Text.is _ _ (text_serial _ _) _ start.1)

pub put_pointer_line-requires : goal.put_pointer_line-requires
put_pointer_line-requires c =
    let start = c.requires in
    (ready_as _ _ _ c.in-Pointer.is start.0, room_as _ _ _ c.in-Pointer.is _ _ (pointer_serial _ _) _ start.1)

pub put_canonical_line-requires : goal.put_canonical_line-requires
put_canonical_line-requires c =
    let start = c.requires in
    (ready_as _ _ _ c.in-Canonical.is start.0, room_as _ _ _ c.in-Canonical.is _ _ (canonical_serial _ _) _ start.1)

pub put_authority_line-requires : goal.put_authority_line-requires
put_authority_line-requires c =
    let start = c.requires in
    (ready_as _ _ _ c.in-Authority.is start.0, room_as _ _ _ c.in-Authority.is _ _ (authority_serial _ _) _ start.1)

pub put_generic_line-requires : goal.put_generic_line-requires
put_generic_line-requires c =
    let start = c.requires in
    (ready_as _ _ _ c.in-Generic.is start.0, room_as _ _ _ c.in-Generic.is _ _ (generic_serial _ _) _ start.1)

pub returns-in-Location : goal.returns-in-Location
returns-in-Location c = put_as _ _ _ c.in-Location.is _ _ (location_serial _ _) _ _ _ c.put_location_line.ensures

pub returns-in-Zone : goal.returns-in-Zone
returns-in-Zone c = put_as _ _ _ c.in-Zone.is _ _ (zone_serial _ _) _ _ _ c.put_zone_line.ensures

pub returns-in-Delegation : goal.returns-in-Delegation
returns-in-Delegation c = put_as _ _ _ c.in-Delegation.is _ _ (delegation_serial _ _) _ _ _ c.put_delegation_line.ensures

pub returns-in-Host : goal.returns-in-Host
returns-in-Host c = put_as _ _ _ c.in-Host.is _ _ (host_serial _ _) _ _ _ c.put_host_line.ensures

pub returns-in-Alias : goal.returns-in-Alias
returns-in-Alias c = put_as _ _ _ c.in-Alias.is _ _ (alias_serial _ _) _ _ _ c.put_alias_line.ensures

pub returns-in-Mail : goal.returns-in-Mail
returns-in-Mail c = put_as _ _ _ c.in-Mail.is _ _ (mail_serial _ _) _ _ _ c.put_mail_line.ensures

pub returns-in-Service : goal.returns-in-Service
returns-in-Service c = put_as _ _ _ c.in-Service.is _ _ (service_serial _ _) _ _ _ c.put_service_line.ensures

pub returns-in-Text : goal.returns-in-Text
returns-in-Text c = put_as _ _ _ c.in-Text.is _ _ (text_serial _ _) _ _ _ c.put_text_line.ensures

pub returns-in-Pointer : goal.returns-in-Pointer
returns-in-Pointer c = put_as _ _ _ c.in-Pointer.is _ _ (pointer_serial _ _) _ _ _ c.put_pointer_line.ensures

pub returns-in-Canonical : goal.returns-in-Canonical
returns-in-Canonical c = put_as _ _ _ c.in-Canonical.is _ _ (canonical_serial _ _) _ _ _ c.put_canonical_line.ensures

pub returns-in-Authority : goal.returns-in-Authority
returns-in-Authority c = put_as _ _ _ c.in-Authority.is _ _ (authority_serial _ _) _ _ _ c.put_authority_line.ensures

pub returns-in-Generic : goal.returns-in-Generic
returns-in-Generic c = put_as _ _ _ c.in-Generic.is _ _ (generic_serial _ _) _ _ _ c.put_generic_line.ensures

pub returns-in-Unknown : goal.returns-in-Unknown
returns-in-Unknown c = nothing_as _ _ _ _ c.in-Unknown.is
