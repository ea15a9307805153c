use Rattle.flight.proofs.Effected.{commands_act}
use Rattle.flight.proofs.commands_act.Goals as goal

pub returns : goal.returns
returns c = commands_act
