use Rattle.judge.proofs.Meanings.{owner_laws}
use Rattle.judge.proofs.fits_owner.Goals as goal

pub returns-then-wild : goal.returns-then-wild
returns-then-wild c = search owner_laws

pub returns : goal.returns
returns c = search owner_laws
