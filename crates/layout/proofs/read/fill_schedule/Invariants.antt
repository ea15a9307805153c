use Rattle.std.proofs.Common.{◌≡◌, map}
use Rattle.std.specs.List.{range_with_len}
use Rattle.schedule.specs.Waiting.{waiting}
use Rattle.layout.specs.Map.{activity_at}
use Rattle.layout.proofs.read.fill_schedule.Given as goal

abbrev pub invariant-loop-k : goal.invariant-loop-k
invariant-loop-k l = waiting l.schedule ≡ map (activity_at l.words) (range_with_len 0 l.k)
