-- The length of an array of equal bytes, by its law: the array itself is too long to write out.
use Rattle.std.proofs.Common.{ℕ, refl, sym}
use Rattle.std.proofs.Math.ListN.{length-replicate}
use Rattle.lookup.proofs.room.records_buffer.Goals as goal

pub returns : goal.returns
returns c = record { value = refl; value_2 = sym (length-replicate {0} {A = ℕ} 3145728 0) }
