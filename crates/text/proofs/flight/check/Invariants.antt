use Rattle.std.proofs.Common.{List}
use Rattle.text.specs.declared.event.Event.{Event}
use Rattle.text.specs.Lines.{rest, line_number, IsNumbered}
use Rattle.text.specs.Text.{flights}
use Rattle.text.proofs.Telling.{Sofar}
use Rattle.text.proofs.flight.check.Given as goal

abbrev pub invariant-loop-read : goal.invariant-loop-read
invariant-loop-read l = IsNumbered l.read-iterator × ((es : List Event) × Sofar flights l.text (rest l.read-iterator) (line_number l.read-iterator) l.read-iterator.heard es)
