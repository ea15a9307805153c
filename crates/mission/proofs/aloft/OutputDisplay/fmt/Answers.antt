use Rattle.std.proofs.Common.{sym, ap}
use Rattle.text.proofs.Writing.{ok_is, put_more, put_is}
use Rattle.mission.specs.Lines.{line}
use Rattle.mission.proofs.aloft.OutputDisplay.fmt.Goals as goal

pub returns-in_ok-write-in-Ok-clause-writes : goal.returns-in_ok-write-in-Ok-clause-writes
returns-in_ok-write-in-Ok-clause-writes g c = λ p k.
    let h = c.write.ensures.writes p (ok_is _ _ c.in_ok-write-in-Ok.was) in
    put_is g.W.Write.write_str_gives _ _ _ _ (sym (ap line c.in-Ok.is)) (put_more g.W.Write.write_str_gives _ _ _ _ _ h (c.list.ensures h.plain k))
