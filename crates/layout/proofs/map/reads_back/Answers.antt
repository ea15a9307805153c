use Rattle.layout.proofs.Back.{reads_back}
use Rattle.layout.proofs.map.reads_back.Goals as goal

pub returns : goal.returns
returns c = reads_back
