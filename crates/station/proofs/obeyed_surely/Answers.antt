use Rattle.station.proofs.Knowing.{surely_obeyed}
use Rattle.station.proofs.obeyed_surely.Goals as goal

pub returns : goal.returns
returns c = surely_obeyed
