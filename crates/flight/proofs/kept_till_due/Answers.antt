use Rattle.flight.proofs.Scheduled.{kept_till_due}
use Rattle.flight.proofs.kept_till_due.Goals as goal

pub returns : goal.returns
returns c = kept_till_due
