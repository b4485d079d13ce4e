use Rattle.std.proofs.Common.{◌≡◌, ◌*◌, length, take}
use Rattle.groups.specs.Groups.{groups_bytes}
use Rattle.addresses.proofs.groups_bytes.address_bytes.Given as goal

abbrev pub invariant-loop-i : goal.invariant-loop-i
invariant-loop-i l = (length l.bytes ≡ 16) × (take (2 * l.i) l.bytes ≡ groups_bytes (take l.i l.fn.groups))
