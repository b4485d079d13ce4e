use Rattle.hosts.proofs.HostRecords.{first_room, second_room, both_put}
use Rattle.zones.proofs.zones.put_server.Goals as goal

pub put_resource-used-requires : goal.put_resource-used-requires
put_resource-used-requires c =
    first_room c.args.line.now _ _ c.as_slice.ensures.value c.as_slice-host.ensures.value 2 (λ x. x) _ c.requires

pub put_held_address-requires : goal.put_held_address-requires
put_held_address-requires c =
    second_room c.args.line.now _ _ c.as_slice.ensures.value c.as_slice-host.ensures.value 2 (λ x. x) _ _ _ c.requires c.put_resource-used.ensures.put

pub returns : goal.returns
returns c =
    both_put c.args.line.now _ _ c.as_slice.ensures.value c.as_slice-host.ensures.value 2 (λ x. x) _ _ _ c.requires c.put_resource-used.ensures.put _ _
    c.put_held_address.ensures
