use Rattle.memory.proofs.Mending.{upsets_happen}
use Rattle.memory.proofs.upsets_happen.Goals as goal

pub returns : goal.returns
returns c = upsets_happen
