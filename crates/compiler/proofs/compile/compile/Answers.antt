use Rattle.compiler.proofs.Compiling.{compile_laws, refused, no_room, all_good, bytes_fit, compiled}
use Rattle.compiler.proofs.compile.compile.Goals as goal

pub returns-then-source-gt-MOST_BYTES : goal.returns-then-source-gt-MOST_BYTES
returns-then-source-gt-MOST_BYTES c = search compile_laws

pub returns-in-Err : goal.returns-in-Err
returns-in-Err c = refused _ _ _ c.if-source-gt-MOST_BYTES.false _ c.in-Err.ensures

pub returns-then-out-needed : goal.returns-then-out-needed
returns-then-out-needed c = no_room _ _ _ c.if-source-gt-MOST_BYTES.false _ c.in-Ok.ensures _ c.whole-then-out-needed.ensures c.if-out-needed.true

pub write_all-requires-clause-source_len_bound : goal.write_all-requires-clause-source_len_bound
write_all-requires-clause-source_len_bound c =
    (c.if-source-gt-MOST_BYTES.false, all_good _ _ c.args.out.now c.if-source-gt-MOST_BYTES.false _ c.in-Ok.ensures)

pub write_all-requires-clause-source_in_bounds : goal.write_all-requires-clause-source_in_bounds
write_all-requires-clause-source_in_bounds c =
    bytes_fit _ _ c.args.out.now c.if-source-gt-MOST_BYTES.false _ c.in-Ok.ensures c.if-out-needed.false

pub returns : goal.returns
returns c =
    compiled _ _ _ c.if-source-gt-MOST_BYTES.false _ c.in-Ok.ensures c.if-out-needed.false _ _ c.write_all.ensures _ c.whole-2.ensures
