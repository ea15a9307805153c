use Rattle.std.proofs.Common.{◌≡◌, eqb, sym, ◌∙◌, rules, tests}
use Rattle.std.proofs.lemmas.Iterator.{YieldsList-from_slice}
use Rattle.std.proofs.lemmas.Iterator.Search.{any_from_yields_List}
use Rattle.std.specs.List.{list_any}
use Rattle.schedule.specs.declared.activity.Activity.{Activity}
use Rattle.schedule.specs.Waiting.{waiting}
use Rattle.schedule.proofs.Releasing.{none_due}
use Rattle.schedule.proofs.schedule.Schedule.is_due.Goals as goal

pub returns-clause-none : goal.returns-clause-none
returns-clause-none c =
    let any : c.any.result ≡ list_any (λ (a : Activity). eqb a.release c.args.time) (waiting c.args.self.now) =
    any_from_yields_List (λ (a : Activity). eqb a.release c.args.time) _ _ c.any.result c.any.ensures.ran (YieldsList-from_slice _ (cc)) (λ x b q k. search (rules, tests)) in
    λ e. none_due c.args.time (waiting c.args.self.now) (sym any ∙ e)
