use Rattle.schedule.specs.Waiting.{waiting, fate_of}
use Rattle.schedule.proofs.Releasing.{Sofar}
use Rattle.schedule.proofs.schedule.Schedule.release.Given as goal

abbrev pub invariant-loop-activity : goal.invariant-loop-activity
invariant-loop-activity l = Sofar (λ a. fate_of a l.time l.safe_mode) l.initial.parameters.values (waiting l.fn.self) l.activity-index l.missed l.parameters.values
