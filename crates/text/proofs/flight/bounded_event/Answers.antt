use Rattle.std.proofs.Common.{rules, tests}
use Rattle.text.specs.Law.{bounded}
use Rattle.text.specs.Table.{event_words}
use Rattle.text.proofs.Undoing.{event_back, event_undo, finds}
use Rattle.text.proofs.flight.bounded_event.Goals as goal

pub returns : goal.returns
returns c = finds event_words bounded event_back event_undo c.args.words.now c.event_of.result c.filter.result c.event_of.ensures (search (rules, tests))
