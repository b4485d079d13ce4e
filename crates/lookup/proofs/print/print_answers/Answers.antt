use Rattle.std.proofs.Common.{rules}
use Rattle.questions.proofs.Insides.{answered_inside}
use Rattle.lookup.proofs.print.print_answers.Goals as goal

pub print_response-requires : goal.print_response-requires
print_response-requires c = search (answered_inside, rules)
