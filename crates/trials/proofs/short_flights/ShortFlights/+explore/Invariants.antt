-- Each call has one tick fewer left.
use Rattle.trials.proofs.short_flights.ShortFlights.+explore.Given as goal

abbrev pub decreases-explore : goal.decreases-explore
decreases-explore l = l.left
