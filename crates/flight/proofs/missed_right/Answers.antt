use Rattle.flight.proofs.Scheduled.{missed_right}
use Rattle.flight.proofs.missed_right.Goals as goal

pub returns : goal.returns
returns c = missed_right
