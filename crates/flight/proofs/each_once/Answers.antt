use Rattle.flight.proofs.Commanded.{each_once}
use Rattle.flight.proofs.each_once.Goals as goal

pub returns : goal.returns
returns c = each_once
