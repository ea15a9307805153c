use Rattle.flight.proofs.Protected.{counts_right}
use Rattle.flight.proofs.counts_right.Goals as goal

pub returns : goal.returns
returns c = counts_right
