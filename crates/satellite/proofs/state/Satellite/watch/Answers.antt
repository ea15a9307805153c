use Rattle.std.proofs.Common.{sym, ap, ◌∙◌}
use Rattle.satellite.specs.Story.{watched_one}
use Rattle.satellite.specs.Model.{model}
use Rattle.satellite.proofs.Watching.{watched_none, watched_more, its_rule, its_count}
use Rattle.satellite.proofs.state.Satellite.watch.Goals as goal

pub turn-self-requires : goal.turn-self-requires
turn-self-requires c = record {
  inside = c.loop-k-test.true;
  fits = its_rule c.loop-k.k (model c.args.self) (model c.loop-k.self) c.loop-k.invariant c.loop-k-test.true c.requires;
  counted = its_count c.loop-k.k (model c.args.self) (model c.loop-k.self) c.loop-k.invariant c.loop-k-test.true c.requires;
}

pub loop-k-init : goal.loop-k-init
loop-k-init c = watched_none (model c.args.self)

pub loop-k-preserved : goal.loop-k-preserved
loop-k-preserved c = c.turn-self.ensures ∙ ap (watched_one c.loop-k.k) c.loop-k.invariant ∙ sym (watched_more c.loop-k.k (model c.args.self))
