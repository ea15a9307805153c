use Rattle.std.proofs.Common.{◌≡◌, ℕ, ◌<◌, length, get_or}
use Rattle.rules.specs.Watching.{off}
use Rattle.layout.specs.Map.{monitor_at}
use Rattle.layout.proofs.read.fill_monitors.Given as goal

abbrev pub invariant-loop-k : goal.invariant-loop-k
invariant-loop-k l = (length l.monitors ≡ 16) × ((i : ℕ) → i < l.k → get_or l.monitors i (record { rule = off; count = 0 }) ≡ monitor_at l.words i)
