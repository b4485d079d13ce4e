-- What the parts of a question that was read say, as the rules write it.
use Rattle.rules.specs.Questions.{Question}
use Rattle.addresses.specs.Address.{address_bytes}
use Rattle.questions.specs.Questions.{Asker, Asked, Four}
use Rattle.questions.specs.declared.texts.Texts.{Texts}
use Rattle.questions.specs.declared.askers.Asker.{Asker as AskerHeld}
use Rattle.questions.specs.declared.asked.Asked.{Asked as AskedHeld}
use Rattle.questions.specs.declared.questions.Question.{Question as QuestionHeld}

abbrev pub four_texts : Texts → Four
four_texts t = record { moment = t.moment.now; client = t.client.now; type = t.qtype.now; name = t.name.now }

abbrev pub asker_said : AskerHeld → Asker
asker_said a = record { moment = a.moment.0; client = address_bytes a.client }

abbrev pub asked_said : AskedHeld → Asked
asked_said a = record { type = a.qtype; name = a.name }

abbrev pub question_said : QuestionHeld → Question
question_said q = record { name = q.asked.name; type = q.asked.qtype; client = address_bytes q.asker.client; moment = q.asker.moment.0 }
