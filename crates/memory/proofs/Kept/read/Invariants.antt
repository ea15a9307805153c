use Rattle.std.proofs.Common.{◌≡◌, ℕ, ◌<◌, get_or}
use Rattle.memory.specs.Threefold.{voted}
use Rattle.memory.proofs.Kept.read.Given as goal

abbrev pub invariant-loop-k : goal.invariant-loop-k
invariant-loop-k g l = (i : ℕ) → i < l.k → get_or l.words i 0 ≡ voted g.row.N l.self.numbers.now i
