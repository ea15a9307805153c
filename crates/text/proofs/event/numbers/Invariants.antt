use Rattle.std.proofs.Common.{◌≡◌, map, length, take}
use Rattle.text.specs.declared.words.Word.{Word}
use Rattle.text.proofs.event.numbers.Given as goal

abbrev pub invariant-loop-i : goal.invariant-loop-i
invariant-loop-i g l = (length l.numbers ≡ g.row.N) × (take l.i l.words ≡ map Word.Number (take l.i l.numbers))
