use Rattle.flight.proofs.Protected.{safe_by_rules}
use Rattle.flight.proofs.safe_by_rules.Goals as goal

pub returns : goal.returns
returns c = safe_by_rules
