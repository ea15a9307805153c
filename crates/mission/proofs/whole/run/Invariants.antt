use Rattle.text.specs.Lines.{IsNumbered}
use Rattle.mission.proofs.Running.{Underway}
use Rattle.mission.proofs.whole.run.Given as goal

abbrev pub invariant-loop-read : goal.invariant-loop-read
invariant-loop-read g l = IsNumbered l.read-iterator × Underway g.W.Write.write_str_gives l.text l.read-iterator l.aloft l.initial.out l.out
