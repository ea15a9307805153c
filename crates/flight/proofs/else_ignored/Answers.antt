use Rattle.flight.proofs.Effected.{else_ignored}
use Rattle.flight.proofs.else_ignored.Goals as goal

pub returns : goal.returns
returns c = else_ignored
