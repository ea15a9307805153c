use Rattle.std.proofs.Common.{◌≡◌, ℕ, Bool, get_or, set, sym, ap, ◌∙◌}
use Rattle.rules.specs.Watching.{acts}
use Rattle.satellite.specs.State.{rule, with_counts}
use Rattle.satellite.specs.Story.{looked, counted, acted}
use Rattle.satellite.specs.declared.state.Satellite.{Satellite}
use Rattle.satellite.specs.Model.{model}
use Rattle.satellite.proofs.Watching.{unset, rule_here, recounted, recounted_is, acts_one, idle_one}
use Rattle.satellite.proofs.state.Satellite.take_turn.Goals as goal

-- the count is written, and whether the rule acts is told by the state
with_count : (s : Satellite) (k n : ℕ) → n ≡ looked k (model s) → model (recounted s k n) ≡ counted k (model s)
with_count s k n e = recounted_is s k n ∙ ap (λ x. with_counts (set (model s).counts k x) (model s)) e

whether : (s : Satellite) (k n : ℕ) (b : Bool) → n ≡ looked k (model s) → b ≡ acts (get_or s.rules.monitors k unset).rule n → b ≡ acts (rule (model s) k) (looked k (model s))
whether s k n b e d = d ∙ (λ i. acts (rule_here s k i) (e i))

pub returns-then-acts : goal.returns-then-acts
returns-then-acts c =
    let s : Satellite = c.args.self.now in
    acts_one c.args.k (model s) (model c.act.new.self)
    (c.act.ensures ∙ (λ i. acted (rule_here s c.args.k i) (with_count s c.args.k c.look-count.result c.look-count.ensures i)))
    (sym (whether s c.args.k c.look-count.result c.acts.result c.look-count.ensures c.acts.ensures) ∙ c.if-acts.true)

pub returns-else-acts : goal.returns-else-acts
returns-else-acts c =
    let s : Satellite = c.args.self.now in
    idle_one c.args.k (model s) (model (recounted s c.args.k c.look-count.result))
    (with_count s c.args.k c.look-count.result c.look-count.ensures)
    (sym (whether s c.args.k c.look-count.result c.acts.result c.look-count.ensures c.acts.ensures) ∙ c.if-acts.false)
