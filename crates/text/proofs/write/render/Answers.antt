use Rattle.text.proofs.Once.{event_readable}
use Rattle.text.proofs.write.render.Goals as goal

pub lines_of-requires-clause-readable : goal.lines_of-requires-clause-readable
lines_of-requires-clause-readable c = event_readable
