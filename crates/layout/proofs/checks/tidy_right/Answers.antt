use Rattle.layout.proofs.Tidiness.{tidy_right}
use Rattle.layout.proofs.checks.tidy_right.Goals as goal

pub returns : goal.returns
returns c = tidy_right
