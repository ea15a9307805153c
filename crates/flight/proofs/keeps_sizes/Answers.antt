use Rattle.flight.proofs.Effected.{keeps_sizes}
use Rattle.flight.proofs.keeps_sizes.Goals as goal

pub returns : goal.returns
returns c = keeps_sizes
