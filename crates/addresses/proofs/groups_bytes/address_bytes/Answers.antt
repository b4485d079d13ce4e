use Rattle.std.proofs.Common.{◌≡◌, refl, ◌∙◌, ◌*◌, length, arith, rules}
use borrow.Rule.Slice.PartMut.{same_len_mid}
use Rattle.addresses.proofs.GroupsBytes.{no_bytes, two_bytes, more_bytes, all_bytes}
use Rattle.addresses.proofs.groups_bytes.address_bytes.Goals as goal

pub loop-i-init : goal.loop-i-init
loop-i-init c = (refl, no_bytes)

pub loop-i-preserved : goal.loop-i-preserved
loop-i-preserved c =
    let n : length c.args.groups ≡ 8 = search rules in (
      same_len_mid (2 * c.loop-i.i) _ c.loop-i.bytes c.copy_from_slice.new.self c.copy_from_slice.ensures.len ∙ c.loop-i.invariant.0,
      more_bytes c.args.groups c.loop-i.bytes c.copy_from_slice.new.self c.loop-i.i _ c.loop-i.invariant.1 (omega (arith, n, c.loop-i-test.true))
          (omega (arith, c.loop-i.invariant.0, c.loop-i-test.true))
          (c.copy_from_slice.ensures.after ∙ c.to_be_bytes.ensures ∙ two_bytes _),
    )

pub returns : goal.returns
returns c =
    let n : length c.args.groups ≡ 8 = search rules in
    all_bytes c.args.groups c.loop-i.bytes c.loop-i.i c.loop-i.invariant.1 (omega (arith, n, c.loop-i-test.false)) (omega (arith, c.loop-i.invariant.0, c.loop-i-test.false))
