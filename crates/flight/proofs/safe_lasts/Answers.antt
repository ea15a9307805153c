use Rattle.flight.proofs.SafeMode.{safe_lasts}
use Rattle.flight.proofs.safe_lasts.Goals as goal

pub returns : goal.returns
returns c = safe_lasts
