use Rattle.std.proofs.Common.{◌≡◌, ◌++◌, drop, string_bytes}
use Rattle.text.specs.Render.{rendered}
use Rattle.text.proofs.write.lines_of.Given as goal

abbrev pub invariant-loop-one : goal.invariant-loop-one
invariant-loop-one g l = let words = g.S.Statement.language.words in string_bytes l.out ++ rendered words (drop l.one-index l.said) ≡ rendered words l.said
