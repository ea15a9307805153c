use Rattle.std.proofs.Common.{◌≡◌, drop}
use Rattle.text.specs.Number.{read_digits}
use Rattle.text.proofs.words.number.Given as goal

abbrev pub invariant-loop-b : goal.invariant-loop-b
invariant-loop-b l = read_digits l.n (drop l.b-index l.word) ≡ read_digits 0 l.word
