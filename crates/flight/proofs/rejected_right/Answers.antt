use Rattle.flight.proofs.Effected.{rejected_right}
use Rattle.flight.proofs.rejected_right.Goals as goal

pub returns : goal.returns
returns c = rejected_right
