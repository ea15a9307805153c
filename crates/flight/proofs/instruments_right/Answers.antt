use Rattle.flight.proofs.Protected.{instruments_right}
use Rattle.flight.proofs.instruments_right.Goals as goal

pub returns : goal.returns
returns c = instruments_right
