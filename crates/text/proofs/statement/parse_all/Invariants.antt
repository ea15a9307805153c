use Rattle.std.proofs.Common.{vec_items}
use Rattle.text.specs.Lines.{rest, line_number, IsNumbered}
use Rattle.text.proofs.Telling.{Sofar}
use Rattle.text.proofs.statement.parse_all.Given as goal

abbrev pub invariant-loop-read : goal.invariant-loop-read
invariant-loop-read g l = IsNumbered l.read-iterator × Sofar g.S.Statement.language l.text (rest l.read-iterator) (line_number l.read-iterator) l.read-iterator.heard (vec_items l.all)
