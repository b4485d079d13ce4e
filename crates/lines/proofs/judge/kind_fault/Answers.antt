use mathlib.Core.Path.{◌≡◌}
use borrow.Author.Rules.{rules}
use Rattle.rules.specs.declared.faults.Fault.{Fault}
use Rattle.lines.proofs.Judging.{row_most, unknown, too_many, second_short, field_first, joined_last}
use Rattle.lines.proofs.judge.kind_fault.Goals as goal

pub returns-then-row-eq0 : goal.returns-then-row-eq0
returns-then-row-eq0 c = unknown _ _ _ c.row_of-row.ensures _ c.if-row-eq0.true c.whole_line.ensures

pub returns-in_default : goal.returns-in_default
returns-in_default c =
    too_many _ _ _ c.row_of-row.ensures c.if-row-eq0.false _ c.in_default.ensures c.whole_line-in_default.ensures

pub fields_fault-first-requires : goal.fields_fault-first-requires
fields_fault-first-requires c = row_most c.args.rest.now _ _ c.row_of-row.ensures

pub joined_fault-requires : goal.joined_fault-requires
joined_fault-requires c = second_short _ _ _ c.in-Some.ensures c.requires

pub returns-then-eq : goal.returns-then-eq
returns-then-eq c =
    let done : c.fields_fault-first.result.fault ≡ Fault.Done = search rules in
    joined_last _ _ _ c.row_of-row.ensures c.if-row-eq0.false _ c.in-Some.ensures _ c.fields_fault-first.ensures _ done c.joined_fault.ensures

pub returns-else-eq : goal.returns-else-eq
returns-else-eq c =
    let refused : c.fields_fault-first.result.fault ≡ Fault.Done → ⊥ = search rules in
    field_first _ _ _ c.row_of-row.ensures c.if-row-eq0.false _ c.in-Some.ensures _ c.fields_fault-first.ensures refused
