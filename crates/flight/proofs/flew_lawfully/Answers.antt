use Rattle.flight.proofs.EveryFlight.{flew_lawfully}
use Rattle.flight.proofs.flew_lawfully.Goals as goal

pub returns : goal.returns
returns c = flew_lawfully
