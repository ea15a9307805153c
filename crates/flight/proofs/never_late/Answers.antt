use Rattle.flight.proofs.Scheduled.{never_late}
use Rattle.flight.proofs.never_late.Goals as goal

pub returns : goal.returns
returns c = never_late
