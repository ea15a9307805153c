use Rattle.std.proofs.Common.{◌≡◌}
use Rattle.satellite.specs.Story.{watched}
use Rattle.satellite.specs.Model.{model}
use Rattle.satellite.proofs.state.Satellite.watch.Given as goal

abbrev pub invariant-loop-k : goal.invariant-loop-k
invariant-loop-k l = model l.self ≡ watched l.k (model l.initial.self)
