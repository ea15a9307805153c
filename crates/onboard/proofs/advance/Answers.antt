use Rattle.std.proofs.Common.{◌≡◌, sym, ap, ◌∙◌, subst}
use Rattle.satellite.specs.State.{State}
use Rattle.satellite.specs.Model.{model}
use Rattle.satellite.specs.Story.{ticked, came_up}
use Rattle.satellite.specs.Fit.{Fit}
use Rattle.layout.specs.Map.{words_of, state_of}
use Rattle.telemetry.specs.Reports.{report_of, numbers_of}
use Rattle.flight.specs.Flight.{keeper}
use Rattle.onboard.proofs.advance.Goals as goal

pub tick-satellite-requires : goal.tick-satellite-requires
tick-satellite-requires c = subst Fit (sym c.satellite.ensures) c.requires.fit

pub returns : goal.returns
returns c =
    let e : model c.tick-satellite.result ≡ ticked (record { readings = c.args.readings.now; frame = came_up c.args.frame }) (state_of c.args.words.now) =
    c.tick-satellite.ensures ∙ ap (ticked (record { readings = c.args.readings.now; frame = came_up c.args.frame })) c.satellite.ensures in
    record {
      kept = c.write_back.ensures ∙ ap (λ (s : State). keeper.stored (words_of s)) e;
      told = c.copy_from_slice.ensures.after ∙ c.numbers.ensures.value ∙ ap numbers_of c.from.ensures ∙ ap (λ (s : State). numbers_of (report_of s)) e;
    }
