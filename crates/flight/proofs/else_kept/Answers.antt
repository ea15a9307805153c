use Rattle.flight.proofs.Scheduled.{else_kept}
use Rattle.flight.proofs.else_kept.Goals as goal

pub returns : goal.returns
returns c = else_kept
