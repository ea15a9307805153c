use Rattle.flight.proofs.Fates.{one_is_last}
use Rattle.flight.proofs.one_is_last.Goals as goal

pub returns : goal.returns
returns c = one_is_last
