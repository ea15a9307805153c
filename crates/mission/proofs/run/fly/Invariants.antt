use Rattle.std.proofs.Common.{reverse, take, vec_items}
use Rattle.mission.specs.Steps.{Ran}
use Rattle.mission.proofs.run.fly.Given as goal

abbrev pub invariant-loop-event : goal.invariant-loop-event
invariant-loop-event l = Ran (reverse (take l.event-index l.events)) l.aloft (reverse (vec_items l.outputs))
