use Rattle.std.proofs.Common.{◌≡◌, Err, refl, sym, ap, ◌∙◌, rules}
use Rattle.refusal.specs.declared.Refusal.{Refusal}
use Rattle.satellite.specs.State.{State}
use Rattle.satellite.specs.Story.{came_up, ticked}
use Rattle.layout.specs.Map.{words_of, state_of}
use Rattle.layout.specs.Fault.{lowest_fault}
use Rattle.telemetry.specs.Reports.{report_of, numbers_of}
use Rattle.flight.specs.Flight.{keeper}
use Rattle.onboard.proofs.Entering.{sane_words, fit_of, by_length, by_word, away_says, entered, ticked_says}
use Rattle.onboard.proofs.tick.Goals as goal

pub advance-requires-clause-few : goal.advance-requires-clause-few
advance-requires-clause-few c = (sane_words c.read.new.words c.in_default.ensures).few

pub advance-requires-clause-fit : goal.advance-requires-clause-fit
advance-requires-clause-fit c = fit_of c.read.new.words c.in_default.ensures

pub returns-in_err-readings : goal.returns-in_err-readings
returns-in_err-readings c =
    let refusal : Refusal = c.in_err-readings.field-0.0 in
    let d : c.from_residual.result ≡ Err refusal = search (rules, c.from_residual.ensures) in
    entered _ _ _ _ _ _ _ c.type_inv.readings (away_says _ refusal _ _ _ _ d (by_length _ _ _ _ refusal c.in_err-readings.ensures))

pub returns-in-Some : goal.returns-in-Some
returns-in-Some c =
    let e : c.read.new.words ≡ keeper.read c.args.memory.now = c.read.ensures ∙ ap keeper.read c.new.ensures in
    entered _ _ _ _ _ _ _ c.type_inv.readings (away_says _ (Refusal.Unfit c.in-Some.word) _ _ _ _ refl (by_word _ _ _ _ c.in-Some.word c.in_ok-readings.ensures.2 (ap lowest_fault (sym e) ∙ sym c.in-Some.ensures)))

pub returns : goal.returns
returns c =
    let after : State = ticked (record { readings = c.args.readings.now; frame = c.args.frame.now }) (state_of c.read.new.words) in
    let same : ticked (record { readings = c.in_ok-readings.readings.now; frame = came_up c.in_ok-readings.frame }) (state_of c.read.new.words) ≡ after =
    (λ j. ticked (record { readings = c.in_ok-readings.ensures.0 j; frame = c.in_ok-readings.ensures.1 j }) (state_of c.read.new.words)) in
    entered _ _ _ _ _ _ _ c.type_inv.readings
    (ticked_says _ _ _ _ _ _ c.read.new.words after (c.in_ok-readings.ensures.2)
    (c.read.ensures ∙ ap keeper.read c.new.ensures) c.in_default.ensures refl
    (c.advance.ensures.kept ∙ ap (λ (s : State). keeper.stored (words_of s)) same) (c.advance.ensures.told ∙ ap (λ (s : State). numbers_of (report_of s)) same))
