use Rattle.flight.proofs.Scheduled.{missed_in_safe_mode}
use Rattle.flight.proofs.missed_in_safe_mode.Goals as goal

pub returns : goal.returns
returns c = missed_in_safe_mode
