-- Rules looked at one after the other: what a rule needs of the state when its turn comes.
use Rattle.std.proofs.Common.{◌≡◌, ℕ, zero, suc, ◌+◌, ◌<◌, ◌≤◌, true, false, ◌≢◌, List, [], ◌∷◌, get_or, map, set, sym, refl, ap, ◌∙◌, subst, add-one, arith}
use Rattle.std.proofs.lemmas.Bool.{cond_both, cond-true, cond-false}
use Rattle.std.proofs.Math.Seq.{map-set_same}
use Rattle.std.proofs.lemmas.List.{get_or-set_other, map-set}
use Rattle.rules.specs.declared.rule.Rule.{Rule}
use Rattle.rules.specs.declared.rule.Monitor.{Monitor}
use Rattle.rules.specs.Monitors.{rule_of, count_of}
use Rattle.satellite.specs.declared.state.Satellite.{Satellite}
use Rattle.satellite.specs.Model.{model}
use Rattle.rules.specs.Watching.{off, acts}
use Rattle.satellite.specs.State.{State, with_safe_mode, with_parameters, with_counts, rule, count}
use Rattle.satellite.specs.Story.{looked, counted, acted, watched_one, watched}
use Rattle.satellite.specs.Fit.{RuleFit, RulesFit, most}

-- what stands where there is no rule
abbrev pub unset : Monitor
unset = record { rule = off; count = 0 }

rule_of_monitor : (ws : List Monitor) (k : ℕ) → (get_or ws k unset).rule ≡ get_or (map rule_of ws) k off
rule_of_monitor [] k = refl
rule_of_monitor (w ∷ ws) zero = refl
rule_of_monitor (w ∷ ws) (suc k) = rule_of_monitor ws k

-- a rule as the code keeps it, beside its count
pub rule_here : (s : Satellite) (k : ℕ) → (get_or s.rules.monitors k unset).rule ≡ rule (model s) k
rule_here s k = rule_of_monitor s.rules.monitors k

-- a rule has another count
abbrev pub recounted : Satellite → ℕ → ℕ → Satellite
recounted s k n = record s {
  rules = record { monitors = set s.rules.monitors k (record { rule = (get_or s.rules.monitors k unset).rule; count = n }) };
}

pub recounted_is : (s : Satellite) (k n : ℕ) → model (recounted s k n) ≡ with_counts (set (model s).counts k n) (model s)
recounted_is s k n =
    let w : Monitor = record { rule = (get_or s.rules.monitors k unset).rule; count = n } in
    let r : map rule_of (set s.rules.monitors k w) ≡ map rule_of s.rules.monitors = map-set_same rule_of s.rules.monitors k w unset refl in
    λ i. record (model s) { rules = r i; counts = map-set count_of s.rules.monitors k w i }

acted_rules : (r : Rule) (s : State) → ((acted r s).rules ≡ s.rules) × ((acted r s).counts ≡ s.counts)
acted_rules r s = cond_both r.safes _ _ (λ (u : State). (u.rules ≡ s.rules) × (u.counts ≡ s.counts)) (λ _. (refl, refl)) (λ _. (refl, refl))

pub one_rules : (k : ℕ) (s : State) → ((watched_one k s).rules ≡ s.rules) × ((watched_one k s).counts ≡ set s.counts k (looked k s))
one_rules k s =
    cond_both (acts (rule s k) (looked k s)) (acted (rule s k) (counted k s)) (counted k s) (λ (u : State). (u.rules ≡ s.rules) × (u.counts ≡ set s.counts k (looked k s)))
    (λ _. acted_rules (rule s k) (counted k s)) (λ _. (refl, refl))

pub watched_none : (s : State) → s ≡ watched 0 s
unfolding watched
watched_none s = refl

pub watched_more : (k : ℕ) (s : State) → watched (k + 1) s ≡ watched_one k (watched k s)
unfolding watched
watched_more k s = rw add-one

pub watched_rules : (k : ℕ) (s : State) → (watched k s).rules ≡ s.rules
unfolding watched
watched_rules zero s = refl
watched_rules (suc k) s = (one_rules k (watched k s)).0 ∙ watched_rules k s

-- a rule's count is as it was until its turn comes
pub count_before : (k j : ℕ) (s : State) → k ≤ j → count (watched k s) j ≡ count s j
unfolding watched
count_before zero j s l = refl
count_before (suc k) j s l =
    let ne : j ≢ k = omega arith in
    ap (λ (c : List ℕ). get_or c j 0) (one_rules k (watched k s)).1 ∙ get_or-set_other (watched k s).counts k j (looked k (watched k s)) 0 ne ∙ count_before k j s (omega arith)

pub its_rule : (k : ℕ) (s u : State) → u ≡ watched k s → k < 16 → RulesFit s → RuleFit (rule u k)
its_rule k s u e l f = subst (λ (rs : List Rule). RuleFit (get_or rs k off)) (sym (ap (λ (v : State). v.rules) e ∙ watched_rules k s)) (f.each k l)

pub its_count : (k : ℕ) (s u : State) → u ≡ watched k s → k < 16 → RulesFit s → count u k ≤ most
its_count k s u e l f = subst (λ n. n ≤ most) (sym (ap (λ (v : State). count v k) e ∙ count_before k k s (omega arith))) (f.counts k l)

-- a rule that acts, and one that does not
pub acts_one : (k : ℕ) (u v : State) → v ≡ acted (rule u k) (counted k u) → acts (rule u k) (looked k u) ≡ true → v ≡ watched_one k u
acts_one k u v d a = d ∙ sym (cond-true (acts (rule u k) (looked k u)) (acted (rule u k) (counted k u)) (counted k u) a)

pub idle_one : (k : ℕ) (u v : State) → v ≡ counted k u → acts (rule u k) (looked k u) ≡ false → v ≡ watched_one k u
idle_one k u v d a = d ∙ sym (cond-false (acts (rule u k) (looked k u)) (acted (rule u k) (counted k u)) (counted k u) a)

-- looking at rules changes safe mode, parameters and counts, and nothing else
acted_kept : (r : Rule) (s : State) → acted r s ≡ with_safe_mode (acted r s).safe_mode (with_parameters (acted r s).parameters s)
acted_kept r s = cond_both r.safes (with_safe_mode true s) (with_parameters (set s.parameters r.place r.number) s) (λ (u : State). u ≡ with_safe_mode u.safe_mode (with_parameters u.parameters s)) (λ _. refl) (λ _. refl)

pub one_kept : (k : ℕ) (s : State) → watched_one k s ≡ with_safe_mode (watched_one k s).safe_mode (with_parameters (watched_one k s).parameters (with_counts (watched_one k s).counts s))
one_kept k s =
    cond_both (acts (rule s k) (looked k s)) (acted (rule s k) (counted k s)) (counted k s) (λ (u : State). u ≡ with_safe_mode u.safe_mode (with_parameters u.parameters (with_counts u.counts s)))
    (λ _. acted_kept (rule s k) (counted k s) ∙ ap (λ (c : List ℕ). with_safe_mode (acted (rule s k) (counted k s)).safe_mode (with_parameters (acted (rule s k) (counted k s)).parameters (with_counts c s))) (sym (acted_rules (rule s k) (counted k s)).1))
    (λ _. refl)

pub watched_kept : (k : ℕ) (s : State) → watched k s ≡ with_safe_mode (watched k s).safe_mode (with_parameters (watched k s).parameters (with_counts (watched k s).counts s))
unfolding watched
watched_kept zero s = refl
watched_kept (suc k) s =
    let u = watched_one k (watched k s) in
    one_kept k (watched k s) ∙ ap (λ (v : State). with_safe_mode u.safe_mode (with_parameters u.parameters (with_counts u.counts v))) (watched_kept k s)
