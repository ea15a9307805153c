use Rattle.flight.proofs.Effected.{time_right}
use Rattle.flight.proofs.time_right.Goals as goal

pub returns : goal.returns
returns c = time_right
