use Rattle.flight.proofs.Protected.{begins_anew}
use Rattle.flight.proofs.begins_anew.Goals as goal

pub returns : goal.returns
returns c = begins_anew
