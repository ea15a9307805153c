use Rattle.flight.proofs.Steps.{tick_keeps}
use Rattle.flight.proofs.tick_keeps.Goals as goal

pub returns : goal.returns
returns c = tick_keeps
