use Rattle.layout.proofs.Sanity.{faults_right}
use Rattle.layout.proofs.checks.faults_right.Goals as goal

pub returns : goal.returns
returns c = faults_right
