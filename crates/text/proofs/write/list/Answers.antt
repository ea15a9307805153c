use Rattle.std.proofs.Common.{◌∷◌, get_or, take, decimal}
use Rattle.text.specs.Render.{listed}
use Rattle.text.proofs.Writing.{ok_is, put_more, put_is, listed_more, listed_all}
use Rattle.text.proofs.write.list.Goals as goal

pub loop-n-preserved : goal.loop-n-preserved
loop-n-preserved g c = λ p.
    let h = c.loop-n.invariant p in
    put_is g.W.Write.write_str_gives c.args.f.now _ _ c.write.new.self (listed_more c.args.numbers.now c.loop-n.n-index c.loop-n-test.true)
    (put_more g.W.Write.write_str_gives c.args.f.now (listed (take c.loop-n.n-index c.args.numbers.now)) c.loop-n.f (32 ∷ decimal (get_or c.args.numbers.now c.loop-n.n-index 0)) c.write.new.self
    h (c.write.ensures.writes h.plain (ok_is c.write.result tt c.in_ok-write.was)))

pub returns : goal.returns
returns g c = λ p k. put_is g.W.Write.write_str_gives _ _ _ _ (listed_all c.args.numbers.now c.loop-n.n-index c.loop-n-test.false) (c.loop-n.invariant p)
