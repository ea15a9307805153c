use Rattle.flight.proofs.Fitting.{never_refused}
use Rattle.flight.proofs.never_refused.Goals as goal

pub returns : goal.returns
returns c = never_refused
