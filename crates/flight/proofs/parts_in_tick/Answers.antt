use Rattle.flight.proofs.Scheduled.{parts_in_tick}
use Rattle.flight.proofs.parts_in_tick.Goals as goal

pub returns : goal.returns
returns c = parts_in_tick
