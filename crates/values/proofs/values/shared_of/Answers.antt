use native.Mathlib.Omega.{arith}
use Rattle.values.proofs.Valuing.{last_fields, default_fits, time_field, shared_is}
use Rattle.values.proofs.values.shared_of.Goals as goal

pub overflow_sub-count : goal.overflow_sub-count
overflow_sub-count c = omega (arith, last_fields _ _ c.row_of-row.ensures c.requires)

pub ttl_at-ttl-requires : goal.ttl_at-ttl-requires
ttl_at-ttl-requires c =
    (omega (arith, last_fields _ _ c.row_of-row.ensures c.requires), default_fits _ _ c.row_of-row.ensures)

pub overflow_sub-count-2 : goal.overflow_sub-count-2
overflow_sub-count-2 c = omega (arith, last_fields _ _ c.row_of-row.ensures c.requires)

pub field-requires : goal.field-requires
field-requires c = omega (arith, last_fields _ _ c.row_of-row.ensures c.requires)

pub overflow_sub-count-3 : goal.overflow_sub-count-3
overflow_sub-count-3 c = omega (arith, last_fields _ _ c.row_of-row.ensures c.requires)

pub lo_at-lo-requires : goal.lo_at-lo-requires
lo_at-lo-requires c = omega (arith, last_fields _ _ c.row_of-row.ensures c.requires)

pub returns : goal.returns
returns c =
    shared_is _ _ c.row_of-row.ensures _ _ _ _ c.ttl_at-ttl.ensures (time_field _ _ _ c.field.ensures _ c.time_of-time.ensures) c.lo_at-lo.ensures
