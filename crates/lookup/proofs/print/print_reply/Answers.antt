use Rattle.std.proofs.Common.{rules}
use Rattle.questions.proofs.Insides.{found_inside}
use Rattle.lookup.proofs.print.print_reply.Goals as goal

pub print_record-requires : goal.print_record-requires
print_record-requires g c = search (found_inside, rules)
