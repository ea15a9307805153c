use Rattle.flight.proofs.Releasing.{releases_right}
use Rattle.flight.proofs.releases_right.Goals as goal

pub returns : goal.returns
returns c = releases_right
