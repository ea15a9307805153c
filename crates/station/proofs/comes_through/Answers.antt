use Rattle.station.proofs.Coming.{comes_through}
use Rattle.station.proofs.comes_through.Goals as goal

pub returns : goal.returns
returns c = comes_through
