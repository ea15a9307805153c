use Rattle.mission.proofs.Running.{whole_run, whole_story}
use Rattle.mission.proofs.whole.fly_lines.Goals as goal

pub returns : goal.returns
returns g c =
    let checked = c.in_ok-check.ensures in
    record {
      flown = whole_run g.W.Write.write_str_gives c.args.text.now c.args.out.now c.run.new.out checked.0 checked.1 c.run.result c.run.ensures;
      flies = whole_story g.W.Write.write_str_gives c.args.text.now c.args.out.now c.run.new.out c.run.result c.run.ensures;
    }
