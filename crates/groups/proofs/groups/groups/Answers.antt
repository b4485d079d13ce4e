use Rattle.std.proofs.Common.{◌∙◌, ap, rules}
use Rattle.groups.specs.Groups.{group_of}
use Rattle.groups.proofs.Group.{refused, eight, other}
use Rattle.groups.proofs.groups.groups.Goals as goal

pub returns-in_err-count : goal.returns-in_err-count
returns-in_err-count c = rw c.from_residual.ensures (refused c.args.text.now (c.in_err-count.ensures.values group_of (λ piece r h. h.says.met ∙ ap group_of h.shows)))

pub returns-then-count-eq-GROUPS : goal.returns-then-count-eq-GROUPS
returns-then-count-eq-GROUPS c =
    eight c.args.text.now c.read_pieces.new.out c.in_ok-count.count (search rules) c.in_ok-count.ensures.room (c.in_ok-count.ensures.values group_of (λ piece r h. h.says.met ∙ ap group_of h.shows))
    c.if-count-eq-GROUPS.true

pub returns-else-count-eq-GROUPS : goal.returns-else-count-eq-GROUPS
returns-else-count-eq-GROUPS c =
    other c.args.text.now c.read_pieces.new.out c.in_ok-count.count (search rules) c.in_ok-count.ensures.room (c.in_ok-count.ensures.values group_of (λ piece r h. h.says.met ∙ ap group_of h.shows))
    c.if-count-eq-GROUPS.false
