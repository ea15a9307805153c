use Rattle.flight.proofs.Protected.{looks_right}
use Rattle.flight.proofs.looks_right.Goals as goal

pub returns : goal.returns
returns c = looks_right
