use Rattle.flight.proofs.Fates.{each_activity}
use Rattle.flight.proofs.each_activity.Goals as goal

pub returns : goal.returns
returns c = each_activity
