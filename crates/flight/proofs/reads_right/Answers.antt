use Rattle.flight.proofs.Effected.{reads_right}
use Rattle.flight.proofs.reads_right.Goals as goal

pub returns : goal.returns
returns c = reads_right
