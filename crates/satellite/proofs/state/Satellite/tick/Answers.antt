use Rattle.std.proofs.Common.{◌∙◌}
use Rattle.satellite.specs.Story.{Inputs, came_up}
use Rattle.satellite.specs.Model.{model}
use Rattle.satellite.proofs.Ticking.{receiving, heeding, release_fit, obey_fit}
use Rattle.satellite.proofs.state.Satellite.tick.Goals as goal

pub release-requires : goal.release-requires
release-requires c =
    let p = release_fit (record { readings = c.args.readings.now; frame = came_up c.args.frame }) (model c.args.self) (model c.begin.result) (model c.watch.result) c.begin.ensures c.watch.ensures c.requires in
    record { placed = p.0; low_missed = p.1 }

pub hear-requires : goal.hear-requires
hear-requires c =
    let p = obey_fit (record { readings = c.args.readings.now; frame = came_up c.args.frame }) (model c.args.self) (model c.begin.result) (model c.watch.result) (model c.release.result)
    c.begin.ensures c.watch.ensures c.release.ensures c.requires in
    record { low_expected = p.0; low_rejected = p.1 }

pub returns : goal.returns
returns c =
    let i : Inputs = record { readings = c.args.readings.now; frame = came_up c.args.frame } in
    c.hear.ensures ∙ heeding i (model c.args.self) (model c.release.result)
    (receiving i (model c.args.self) (model c.begin.result) (model c.watch.result) (model c.release.result) c.begin.ensures c.watch.ensures c.release.ensures)
