use Rattle.text.proofs.Once.{event_readable}
use Rattle.text.proofs.flight.parse.Goals as goal

pub parse_all-requires : goal.parse_all-requires
parse_all-requires c = event_readable
