use Rattle.std.proofs.Common.{eqb, get_or}
use Rattle.layout.specs.Map.{state_of}
use Rattle.layout.proofs.read.fill.Goals as goal

pub returns : goal.returns
unfolding state_of
returns c =
    let w = c.args.words.now in
    λ i. record {
      time = get_or w 0 0;
      expected = get_or w 1 0;
      safe_mode = eqb (get_or w 2 0) 1;
      rejected = get_or w 3 0;
      missed = get_or w 4 0;
      parameters = c.replace.ensures i;
      schedule = c.fill_schedule.ensures i;
      rules = c.fill_monitors.ensures.rules i;
      counts = c.fill_monitors.ensures.counts i;
    }
