use Rattle.view.proofs.Viewing.{here_laws, told}
use Rattle.view.proofs.is_here.Goals as goal

pub returns-in-Every : goal.returns-in-Every
returns-in-Every c = search here_laws

pub returns-in-Code : goal.returns-in-Code
returns-in-Code c = let h = c.eq.ensures in rw h (rw c.in-Code.is (told _ _ c.args.here))
