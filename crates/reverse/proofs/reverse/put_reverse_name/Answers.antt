use Rattle.rules.specs.Records.{decimal_label, nibble_labels, in_addr_arpa, ip6_arpa}
use Rattle.buffer.proofs.Puts.{then_is}
use Rattle.reverse.proofs.Reversed.{short_name, long_name}
use Rattle.reverse.proofs.reverse.put_reverse_name.Goals as goal

pub returns-then-address-eq4 : goal.returns-then-address-eq4
unfolding in_addr_arpa
returns-then-address-eq4 c =
    then_is _ _ _ _ (c.put_labels-used.ensures.put decimal_label (λ n r q. q)) _ _ _ _ c.put_bytes.ensures.put (short_name c.args.address.now c.if-address-eq4.true)

pub returns : goal.returns
unfolding ip6_arpa
returns c =
    then_is _ _ _ _ (c.put_labels-used-2.ensures.put nibble_labels (λ n r q. q)) _ _ _ _ c.put_bytes-2.ensures.put (long_name c.args.address.now c.if-address-eq4.false)
