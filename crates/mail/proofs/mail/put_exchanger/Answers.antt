use Rattle.rules.specs.Lists.{be}
use mathlib.Core.List.{◌++◌}
use Rattle.hosts.proofs.HostRecords.{first_room, second_room, both_put}
use Rattle.mail.proofs.MailRecords.{mx_size}
use Rattle.mail.proofs.mail.put_exchanger.Goals as goal

pub put_mx-used-requires : goal.put_mx-used-requires
put_mx-used-requires c =
    mx_size c.args.dist _ _ _ (first_room c.args.line.now _ _ c.as_slice.ensures.value c.as_slice-host.ensures.value 15 (λ x. be 2 c.args.dist ++ x) _ c.requires)

pub put_held_address-requires : goal.put_held_address-requires
put_held_address-requires c =
    second_room c.args.line.now _ _ c.as_slice.ensures.value c.as_slice-host.ensures.value 15 (λ x. be 2 c.args.dist ++ x) _ _ _ c.requires c.put_mx-used.ensures.put

pub returns : goal.returns
returns c =
    both_put c.args.line.now _ _ c.as_slice.ensures.value c.as_slice-host.ensures.value 15 (λ x. be 2 c.args.dist ++ x) _ _ _ c.requires c.put_mx-used.ensures.put _ _
    c.put_held_address.ensures
