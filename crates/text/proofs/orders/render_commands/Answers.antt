use Rattle.text.proofs.Once.{command_readable}
use Rattle.text.proofs.orders.render_commands.Goals as goal

pub lines_of-requires-clause-readable : goal.lines_of-requires-clause-readable
lines_of-requires-clause-readable c = command_readable
