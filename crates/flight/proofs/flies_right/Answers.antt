use Rattle.flight.proofs.Flying.{flies_right}
use Rattle.flight.proofs.flies_right.Goals as goal

pub returns : goal.returns
returns c = flies_right
