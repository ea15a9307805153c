use Rattle.std.proofs.Common.{ℕ, List, ◌∷◌, ◌++◌, map, codes, sym, ap, ◌∙◌}
use Rattle.frame.specs.declared.Command.{Command}
use Rattle.text.specs.declared.words.Word.{Word}
use Rattle.text.specs.declared.words.Keyword.{Keyword}
use Rattle.text.specs.Table.{command_words}
use Rattle.text.specs.Words.{spelt}
use Rattle.text.proofs.Writing.{ok_is, put_more, put_is, spelt_listed}
use Rattle.text.proofs.write.OrderDisplay.fmt.Goals as goal

pub returns-in_ok-write-in-SetRule-clause-writes : goal.returns-in_ok-write-in-SetRule-clause-writes
returns-in_ok-write-in-SetRule-clause-writes g c = λ p k.
    let h = c.write-in-SetRule.ensures.writes p (ok_is _ _ c.in_ok-write-in-SetRule.was) in
    let n = c.in-SetRule.index in
    let xs = c.from-numbers.result in
    let eq = ap (λ (x : Command). spelt (command_words x)) c.in-SetRule.is ∙ ap (λ (l : List ℕ). spelt (Word.Keyword Keyword.Rule ∷ Word.Number n ∷ map Word.Number l)) (sym c.from-numbers.ensures) ∙ ap (λ (l : List ℕ). codes "rule " ++ l) (spelt_listed (Word.Number n) xs) in
    put_is g.W.Write.write_str_gives _ _ _ _ (sym eq) (put_more g.W.Write.write_str_gives _ _ _ _ _ h (c.list-in-SetRule.ensures h.plain k))
