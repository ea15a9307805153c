use Rattle.flight.proofs.Commanded.{safe_at_once}
use Rattle.flight.proofs.safe_at_once.Goals as goal

pub returns : goal.returns
returns c = safe_at_once
