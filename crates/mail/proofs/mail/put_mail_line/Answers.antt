use mathlib.Core.Path.{refl}
use Rattle.mail.proofs.MailRecords.{mx_label, mail_room, mail_put}
use Rattle.mail.proofs.mail.put_mail_line.Goals as goal

pub read-line-requires : goal.read-line-requires
read-line-requires c = (c.requires.0, refl, mx_label)

pub put_exchanger-requires : goal.put_exchanger-requires
put_exchanger-requires c = mail_room _ _ _ c.read-line.ensures c.short_at-dist.ensures _ c.requires.1

pub returns : goal.returns
returns c = mail_put _ _ _ c.read-line.ensures c.short_at-dist.ensures _ _ _ c.put_exchanger.ensures
