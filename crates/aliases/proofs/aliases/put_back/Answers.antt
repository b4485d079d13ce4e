use mathlib.Core.Path.{ap, ◌∙◌}
use Rattle.rules.specs.Records.{reverse_name}
use Rattle.aliases.proofs.AddressLines.{back_room, back_put, address_few}
use Rattle.aliases.proofs.aliases.put_back.Goals as goal

pub read_reverse-reverse-requires : goal.read_reverse-reverse-requires
read_reverse-reverse-requires c = rw c.as_slice.ensures.size (address_few c.args.line.now.address)

pub put_resource-requires : goal.put_resource-requires
put_resource-requires c =
    let reverse = c.as_slice-2.ensures.value ∙ c.read_reverse-reverse.ensures ∙ ap reverse_name c.as_slice.ensures.bytes in
    back_room c.args.line.now _ _ c.as_slice-owner.ensures.value reverse _ c.requires

pub returns : goal.returns
returns c =
    let reverse = c.as_slice-2.ensures.value ∙ c.read_reverse-reverse.ensures ∙ ap reverse_name c.as_slice.ensures.bytes in
    back_put c.args.line.now _ _ c.as_slice-owner.ensures.value reverse _ _ _ c.put_resource.ensures.put
