use Rattle.std.proofs.Common.{◌∙◌}
use Rattle.memory.proofs.Mending.{voted_at}
use Rattle.memory.proofs.Kept.word.Goals as goal

pub returns : goal.returns
returns g c = c.vote.ensures ∙ voted_at g.row.N c.args.k c.args.self.now.numbers.now
