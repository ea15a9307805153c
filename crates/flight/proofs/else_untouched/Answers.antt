use Rattle.flight.proofs.Protected.{else_untouched}
use Rattle.flight.proofs.else_untouched.Goals as goal

pub returns : goal.returns
returns c = else_untouched
