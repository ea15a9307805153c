use Rattle.std.proofs.Common.{◌∙◌, arith}
use Rattle.std.proofs.lemmas.List.FromFn.{fill_by_all}
use Rattle.memory.specs.Threefold.{voted, voted_words}
use Rattle.memory.proofs.Kept.read.Goals as goal

pub returns : goal.returns
unfolding voted_words
returns g c =
    fill_by_all (voted g.row.N c.args.self.now.numbers.now) c.loop-k.words g.row.N 0 (c.loop-k.auto.words ∙ c.requires) (λ k h. c.loop-k.invariant k (omega arith))
