use Rattle.std.proofs.Common.{sym, ap, ◌∙◌}
use Rattle.text.specs.declared.event.Event.{Event}
use Rattle.text.specs.declared.words.Word.{Word}
use Rattle.text.specs.declared.words.Keyword.{Keyword}
use Rattle.text.specs.Table.{event_words}
use Rattle.text.specs.Words.{spelt}
use Rattle.text.proofs.Writing.{ok_is, put_more, put_is, spelt_listed}
use Rattle.text.proofs.write.EventDisplay.fmt.Goals as goal

pub returns-in_ok-write-in-Frame-clause-writes : goal.returns-in_ok-write-in-Frame-clause-writes
returns-in_ok-write-in-Frame-clause-writes g c = λ p k.
    let h = c.write-in-Frame.ensures.writes p (ok_is _ _ c.in_ok-write-in-Frame.was) in
    put_is g.W.Write.write_str_gives _ _ _ _ (sym (ap (λ (e : Event). spelt (event_words e)) c.in-Frame.is ∙ spelt_listed (Word.Keyword Keyword.Frame) c.in-Frame.numbers))
    (put_more g.W.Write.write_str_gives _ _ _ _ _ h (c.list.ensures h.plain k))
