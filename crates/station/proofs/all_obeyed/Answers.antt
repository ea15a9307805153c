use Rattle.station.proofs.Coming.{all_obeyed}
use Rattle.station.proofs.all_obeyed.Goals as goal

pub returns : goal.returns
returns c = all_obeyed
