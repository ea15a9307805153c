-- What was written is what is read.
use Rattle.std.proofs.Common.{◌≡◌, ℕ, ◌+◌, ◌*◌, ◌<◌, Bool, true, false, eqb, List, map, length, get_or, sym, refl, ap, ◌∙◌, arith}
use Rattle.std.specs.List.{range_with_len}
use Rattle.std.proofs.lemmas.List.FromFn.{fill_by_all}
use Rattle.schedule.specs.declared.activity.Activity.{Activity}
use Rattle.schedule.specs.Waiting.{no_activity}
use Rattle.rules.specs.declared.rule.Rule.{Rule}
use Rattle.rules.specs.Watching.{off}
use Rattle.satellite.specs.State.{State, rule}
use Rattle.rules.specs.Numbers.{bit}
use Rattle.layout.specs.Map.{words_of, activity_at, rule_at, schedule_in, rules_in, state_of, Sized, ReadsBack, activity_size, rule_size, activities_at, rules_at}
use Rattle.layout.proofs.Places.{length_words, parameter_words, waiting_word, activity_word, rule_word, count_words}

bit_back : (b : Bool) → eqb (bit b) 1 ≡ b
bit_back true = refl
bit_back false = refl

safe_mode_back : (s : State) → eqb (get_or (words_of s) 2 0) 1 ≡ s.safe_mode
unfolding words_of
safe_mode_back s = bit_back s.safe_mode

-- the place of a word, written in two ways
at : (ws : List ℕ) (a b v : ℕ) → a ≡ b → get_or ws a 0 ≡ v → get_or ws b 0 ≡ v
at ws a b v e d = ap (λ k. get_or ws k 0) (sym e) ∙ d

activity_back : (s : State) → Sized s → (k : ℕ) → k < length s.schedule → get_or s.schedule k no_activity ≡ activity_at (words_of s) k
activity_back s z k l =
    let w = words_of s in
    let a : Activity = get_or s.schedule k no_activity in
    let e : get_or w (activities_at + activity_size * k) 0 ≡ a.release = at w (activities_at + (activity_size * k + 0)) (activities_at + activity_size * k) a.release (omega arith) (activity_word s z k 0 l (omega arith)) in
    let f : get_or w (activities_at + 1 + activity_size * k) 0 ≡ a.place = at w (activities_at + (activity_size * k + 1)) (activities_at + 1 + activity_size * k) a.place (omega arith) (activity_word s z k 1 l (omega arith)) in
    let g : get_or w (activities_at + 2 + activity_size * k) 0 ≡ a.number = at w (activities_at + (activity_size * k + 2)) (activities_at + 2 + activity_size * k) a.number (omega arith) (activity_word s z k 2 l (omega arith)) in
    λ i. record { release = sym e i; place = sym f i; number = sym g i }

rule_back : (s : State) → Sized s → (k : ℕ) → k < 16 → get_or s.rules k off ≡ rule_at (words_of s) k
rule_back s z k l =
    let w = words_of s in
    let r : Rule = rule s k in
    let a : get_or w (rules_at + rule_size * k) 0 ≡ r.watches = at w (rules_at + (rule_size * k + 0)) (rules_at + rule_size * k) r.watches (omega arith) (rule_word s z k 0 l (omega arith)) in
    let b : get_or w (rules_at + 1 + rule_size * k) 0 ≡ r.limit = at w (rules_at + (rule_size * k + 1)) (rules_at + 1 + rule_size * k) r.limit (omega arith) (rule_word s z k 1 l (omega arith)) in
    let c : get_or w (rules_at + 2 + rule_size * k) 0 ≡ bit r.upward = at w (rules_at + (rule_size * k + 2)) (rules_at + 2 + rule_size * k) (bit r.upward) (omega arith) (rule_word s z k 2 l (omega arith)) in
    let d : get_or w (rules_at + 3 + rule_size * k) 0 ≡ r.needs = at w (rules_at + (rule_size * k + 3)) (rules_at + 3 + rule_size * k) r.needs (omega arith) (rule_word s z k 3 l (omega arith)) in
    let e : get_or w (rules_at + 4 + rule_size * k) 0 ≡ bit r.safes = at w (rules_at + (rule_size * k + 4)) (rules_at + 4 + rule_size * k) (bit r.safes) (omega arith) (rule_word s z k 4 l (omega arith)) in
    let f : get_or w (rules_at + 5 + rule_size * k) 0 ≡ r.place = at w (rules_at + (rule_size * k + 5)) (rules_at + 5 + rule_size * k) r.place (omega arith) (rule_word s z k 5 l (omega arith)) in
    let g : get_or w (rules_at + 6 + rule_size * k) 0 ≡ r.number = at w (rules_at + (rule_size * k + 6)) (rules_at + 6 + rule_size * k) r.number (omega arith) (rule_word s z k 6 l (omega arith)) in
    let u : eqb (get_or w (rules_at + 2 + rule_size * k) 0) 1 ≡ r.upward = ap (λ n. eqb n 1) c ∙ bit_back r.upward in
    let v : eqb (get_or w (rules_at + 4 + rule_size * k) 0) 1 ≡ r.safes = ap (λ n. eqb n 1) e ∙ bit_back r.safes in
    λ i. record { watches = sym a i; limit = sym b i; upward = sym u i; needs = sym d i; safes = sym v i; place = sym f i; number = sym g i }

pub schedule_back : (s : State) → Sized s → schedule_in (words_of s) ≡ s.schedule
unfolding schedule_in
schedule_back s z =
    ap (λ n. map (activity_at (words_of s)) (range_with_len 0 n)) (waiting_word s z) ∙ sym (fill_by_all (activity_at (words_of s)) s.schedule (length s.schedule) no_activity refl (activity_back s z))

pub rules_back : (s : State) → Sized s → rules_in (words_of s) ≡ s.rules
unfolding rules_in
rules_back s z = sym (fill_by_all (rule_at (words_of s)) s.rules 16 off z.rules (rule_back s z))

heads_back : (s : State) → (get_or (words_of s) 0 0 ≡ s.time) × (get_or (words_of s) 1 0 ≡ s.expected) × (get_or (words_of s) 3 0 ≡ s.rejected) × (get_or (words_of s) 4 0 ≡ s.missed)
unfolding words_of
heads_back s = (refl, refl, refl, refl)

pub state_back : (s : State) → Sized s → state_of (words_of s) ≡ s
unfolding state_of
state_back s z =
    let h = heads_back s in
    λ i. record {
      time = h.0 i;
      expected = h.1 i;
      safe_mode = safe_mode_back s i;
      rejected = h.2 i;
      missed = h.3 i;
      parameters = parameter_words s z i;
      schedule = schedule_back s z i;
      rules = rules_back s z i;
      counts = count_words s z i;
    }

pub reads_back : ReadsBack
reads_back s z = (length_words s z, state_back s z)
