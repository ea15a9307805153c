use Rattle.std.proofs.Common.{◌≡◌, ◌*◌, ◌≤◌}
use Rattle.frame.specs.Frame.{weighed}
use Rattle.frame.proofs.check.Given as goal

abbrev pub invariant-loop-i : goal.invariant-loop-i
invariant-loop-i l = (l.sum ≡ weighed l.i l.frame) × (l.sum ≤ 47244640245 * l.i)
