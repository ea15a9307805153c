use Rattle.std.proofs.Common.{◌++◌, sym, ap, ◌∙◌}
use Rattle.text.specs.Phrase.{phrase, shown, for_programs, explained, for_people}
use Rattle.text.proofs.Writing.{ok_is, put_more, put_is}
use Rattle.text.proofs.misread.MisreadDisplay.fmt.Goals as goal

pub returns-in-Unreadable-clause-writes : goal.returns-in-Unreadable-clause-writes
returns-in-Unreadable-clause-writes g c = λ p k.
    let took = g.W.Write.write_str_gives in
    let m = c.args.self.now in
    let h = c.announce.ensures p (ok_is _ _ c.in_ok-announce.was) in
    let line = (λ i. explained m.program.now m.of.now (c.saturating_add-number.ensures i) (phrase c.in-Unreadable.expected) ((c.show-found.ensures ∙ ap shown c.line_at.ensures) i)) ∙ sym (ap (for_people m.program.now m.of.now m.text.now) c.in-Unreadable.is) in
    put_is took _ _ _ _ (λ i. for_programs (c.refusal.ensures i) ++ line i) (put_more took _ _ _ _ _ h (c.write.ensures.writes h.plain k))

pub returns-in-Memory-clause-writes : goal.returns-in-Memory-clause-writes
returns-in-Memory-clause-writes g c = λ p k.
    let took = g.W.Write.write_str_gives in
    let m = c.args.self.now in
    let h = c.announce.ensures p (ok_is _ _ c.in_ok-announce.was) in
    let line = sym (ap (for_people m.program.now m.of.now m.text.now) c.in-Memory.is) in
    put_is took _ _ _ _ (λ i. for_programs (c.refusal.ensures i) ++ line i) (put_more took _ _ _ _ _ h (c.write-in-Memory.ensures.writes h.plain k))
