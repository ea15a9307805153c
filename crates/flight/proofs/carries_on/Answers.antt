use Rattle.flight.proofs.Flying.{carries_on}
use Rattle.flight.proofs.carries_on.Goals as goal

pub returns : goal.returns
returns c = carries_on
