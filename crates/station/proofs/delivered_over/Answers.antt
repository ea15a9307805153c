use Rattle.station.proofs.Relaying.{delivered_over, can_deliver}
use Rattle.station.proofs.delivered_over.Goals as goal

pub returns : goal.returns
returns c = record { over = delivered_over; exists = can_deliver }
