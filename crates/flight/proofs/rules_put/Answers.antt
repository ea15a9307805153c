use Rattle.flight.proofs.Protected.{rules_put}
use Rattle.flight.proofs.rules_put.Goals as goal

pub returns : goal.returns
returns c = rules_put
