use Rattle.flight.proofs.Scheduled.{put_when_due}
use Rattle.flight.proofs.put_when_due.Goals as goal

pub returns : goal.returns
returns c = put_when_due
