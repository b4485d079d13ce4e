use Rattle.buffer.proofs.Puts.{put_laws}
use Rattle.rules.specs.Records.{hostmaster, contact_of}
use Rattle.contacts.proofs.contacts.put_contact.Goals as goal

pub returns : goal.returns
unfolding contact_of hostmaster
returns c = search put_laws
