use Rattle.bridge.proofs.Happening.{then_happens}
use Rattle.bridge.proofs.then_happens.Goals as goal

pub returns : goal.returns
returns c = then_happens
