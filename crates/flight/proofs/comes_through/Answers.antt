use Rattle.flight.proofs.Commanded.{comes_through}
use Rattle.flight.proofs.comes_through.Goals as goal

pub returns : goal.returns
returns c = comes_through
