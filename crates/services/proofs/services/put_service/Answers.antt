use Rattle.rules.specs.Records.{srv_data}
use Rattle.hosts.proofs.HostRecords.{first_room, second_room, both_put}
use Rattle.services.proofs.ServiceRecords.{srv_size}
use Rattle.services.proofs.services.put_service.Goals as goal

pub put_srv-used-requires : goal.put_srv-used-requires
put_srv-used-requires c =
    srv_size c.args.priority c.args.weight c.args.port _ _ _
    (first_room c.args.line.now _ _ c.as_slice-owner.ensures.value c.as_slice-host.ensures.value 33 (srv_data c.args.priority c.args.weight c.args.port) _ c.requires)

pub put_held_address-requires : goal.put_held_address-requires
put_held_address-requires c =
    second_room c.args.line.now _ _ c.as_slice-owner.ensures.value c.as_slice-host.ensures.value 33 (srv_data c.args.priority c.args.weight c.args.port) _ _ _ c.requires
    c.put_srv-used.ensures.put

pub returns : goal.returns
returns c =
    both_put c.args.line.now _ _ c.as_slice-owner.ensures.value c.as_slice-host.ensures.value 33 (srv_data c.args.priority c.args.weight c.args.port) _ _ _ c.requires
    c.put_srv-used.ensures.put _ _ c.put_held_address.ensures
