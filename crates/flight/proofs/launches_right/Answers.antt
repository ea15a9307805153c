use Rattle.flight.proofs.Effected.{launches_right}
use Rattle.flight.proofs.launches_right.Goals as goal

pub returns : goal.returns
returns c = launches_right
