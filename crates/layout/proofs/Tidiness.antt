-- Words that may be left for a state: what is written is such words, and they are at fault no more than those.
use Rattle.std.proofs.Common.{◌≡◌, ℕ, zero, suc, ◌+◌, ◌-◌, ◌*◌, ◌/◌, ◌%◌, ◌<◌, ◌≤◌, Bool, true, false, ◌⊎◌, List, length, get_or, sym, refl, ap, ◌∙◌, subst, ⊎_elim, arith}
use Rattle.std.proofs.lemmas.Bool.{cases_lt}
use Rattle.schedule.specs.declared.activity.Activity.{Activity}
use Rattle.schedule.specs.Waiting.{no_activity}
use Rattle.rules.specs.declared.rule.Rule.{Rule}
use Rattle.parameters.specs.Places.{may_put}
use Rattle.satellite.specs.State.{State, parameter, rule, count}
use Rattle.satellite.specs.Fit.{most}
use Rattle.rules.specs.Numbers.{bit}
use Rattle.layout.specs.Map.{words_of, activity_at, rule_at, state_of, Sized, Tidy, LeftFor, activity_size, rule_size, time_at, safe_mode_at, parameters_at, waiting_at, activities_at, rules_at, counts_at, word_count}
use Rattle.layout.specs.Fault.{Sane, TidyRight}
use Rattle.layout.proofs.Places.{waiting_word, rule_word, nought_word}
use Rattle.layout.proofs.Back.{state_back}
use Rattle.layout.proofs.Said.{heads_said, waiting_said, activity_said, rule_said, parameter_said, count_said}
use Rattle.layout.proofs.Sanity.{sane_of, faultless_of}

bit_most : (b : Bool) → bit b ≤ 1
bit_most true = omega arith
bit_most false = omega arith

safe_mode_word : (s : State) → get_or (words_of s) safe_mode_at 0 ≤ 1
unfolding words_of
safe_mode_word s = bit_most s.safe_mode

mark_word : (s : State) → Sized s → (i j : ℕ) (b : Bool) → i < 16 → j < rule_size → get_or (words_of s) (rules_at + (rule_size * i + j)) 0 ≡ bit b → get_or (words_of s) (rules_at + j + rule_size * i) 0 ≤ 1
mark_word s z i j b l m e =
    let at : rules_at + (rule_size * i + j) ≡ rules_at + j + rule_size * i = omega arith in
    subst (λ k. get_or (words_of s) k 0 ≤ 1) at (subst (λ n. n ≤ 1) (sym e) (bit_most b))

pub written : (s : State) → Sized s → LeftFor (words_of s) s
written s z = record {
  says = state_back s z;
  tidy = record {
    safe_mode = safe_mode_word s;
    upward = λ i l. mark_word s z i 2 (rule s i).upward l (omega arith) (rule_word s z i 2 l (omega arith));
    safes = λ i l. mark_word s z i 4 (rule s i).safes l (omega arith) (rule_word s z i 4 l (omega arith));
    beyond = λ j l m. (let e = nought_word s z j (let w = waiting_word s z in omega arith) m in omega arith);
  };
}

-- two rows of words that say one state: the first is tidy, and is then sane as the second is
time_same : (ws vs : List ℕ) → state_of ws ≡ state_of vs → get_or ws time_at 0 ≡ get_or vs time_at 0
time_same ws vs e = sym (heads_said ws).0 ∙ ap (λ (s : State). s.time) e ∙ (heads_said vs).0

waits_same : (ws vs : List ℕ) → state_of ws ≡ state_of vs → get_or ws waiting_at 0 ≡ get_or vs waiting_at 0
waits_same ws vs e = sym (waiting_said ws) ∙ ap (λ (s : State). length s.schedule) e ∙ waiting_said vs

activity_same : (ws vs : List ℕ) → state_of ws ≡ state_of vs → (i : ℕ) → i < get_or ws waiting_at 0 → activity_at ws i ≡ activity_at vs i
activity_same ws vs e i l =
    let w = waits_same ws vs e in
    sym (activity_said ws i l) ∙ ap (λ (s : State). get_or s.schedule i no_activity) e ∙ activity_said vs i (omega arith)

rule_same : (ws vs : List ℕ) → state_of ws ≡ state_of vs → (k : ℕ) → k < 16 → rule_at ws k ≡ rule_at vs k
rule_same ws vs e k l = sym (rule_said ws k l) ∙ ap (λ (s : State). rule s k) e ∙ rule_said vs k l

-- a word that both have, at its place
abbrev Most : List ℕ → ℕ → Type 0
Most ws k = get_or ws k 0 ≤ most

moved : (ws vs : List ℕ) (at k : ℕ) → at ≡ k → get_or ws at 0 ≡ get_or vs at 0 → Most vs k → Most ws k
moved ws vs at k e d h = subst (Most ws) e (subst (λ n. n ≤ most) (sym d) (subst (Most vs) (sym e) h))

head_most : (ws vs : List ℕ) → state_of ws ≡ state_of vs → Tidy ws → (k : ℕ) → k < parameters_at → Most vs k → Most ws k
head_most ws vs e t zero l h = let d = time_same ws vs e in omega arith
head_most ws vs e t (suc zero) l h = moved ws vs 1 1 refl (sym (heads_said ws).1 ∙ ap (λ (s : State). s.expected) e ∙ (heads_said vs).1) h
head_most ws vs e t (suc (suc zero)) l h = let d = t.safe_mode in omega arith
head_most ws vs e t (suc (suc (suc zero))) l h = moved ws vs 3 3 refl (sym (heads_said ws).2 ∙ ap (λ (s : State). s.rejected) e ∙ (heads_said vs).2) h
head_most ws vs e t (suc (suc (suc (suc zero)))) l h = moved ws vs 4 4 refl (sym (heads_said ws).3 ∙ ap (λ (s : State). s.missed) e ∙ (heads_said vs).3) h
head_most ws vs e t (suc (suc (suc (suc (suc k))))) l h = absurd (omega arith)

-- word j of activity i, and of rule i
activity_most : (ws vs : List ℕ) → state_of ws ≡ state_of vs → (i j k : ℕ) → i < get_or ws waiting_at 0 → j < activity_size → activities_at + j + activity_size * i ≡ k → Most vs k → Most ws k
activity_most ws vs e i zero k l m d h = moved ws vs (activities_at + activity_size * i) k d (ap (λ (a : Activity). a.release) (activity_same ws vs e i l)) h
activity_most ws vs e i (suc zero) k l m d h = moved ws vs (activities_at + 1 + activity_size * i) k d (ap (λ (a : Activity). a.place) (activity_same ws vs e i l)) h
activity_most ws vs e i (suc (suc zero)) k l m d h = moved ws vs (activities_at + 2 + activity_size * i) k d (ap (λ (a : Activity). a.number) (activity_same ws vs e i l)) h
activity_most ws vs e i (suc (suc (suc j))) k l m d h = absurd (omega arith)

rule_most : (ws vs : List ℕ) → state_of ws ≡ state_of vs → Tidy ws → (i j k : ℕ) → i < 16 → j < rule_size → rules_at + j + rule_size * i ≡ k → Most vs k → Most ws k
rule_most ws vs e t i zero k l m d h = moved ws vs (rules_at + rule_size * i) k d (ap (λ (r : Rule). r.watches) (rule_same ws vs e i l)) h
rule_most ws vs e t i (suc zero) k l m d h = moved ws vs (rules_at + 1 + rule_size * i) k d (ap (λ (r : Rule). r.limit) (rule_same ws vs e i l)) h
rule_most ws vs e t i (suc (suc zero)) k l m d h = subst (Most ws) d (let u = t.upward i l in omega arith)
rule_most ws vs e t i (suc (suc (suc zero))) k l m d h = moved ws vs (rules_at + 3 + rule_size * i) k d (ap (λ (r : Rule). r.needs) (rule_same ws vs e i l)) h
rule_most ws vs e t i (suc (suc (suc (suc zero)))) k l m d h = subst (Most ws) d (let u = t.safes i l in omega arith)
rule_most ws vs e t i (suc (suc (suc (suc (suc zero))))) k l m d h = moved ws vs (rules_at + 5 + rule_size * i) k d (ap (λ (r : Rule). r.place) (rule_same ws vs e i l)) h
rule_most ws vs e t i (suc (suc (suc (suc (suc (suc zero)))))) k l m d h = moved ws vs (rules_at + 6 + rule_size * i) k d (ap (λ (r : Rule). r.number) (rule_same ws vs e i l)) h
rule_most ws vs e t i (suc (suc (suc (suc (suc (suc (suc j))))))) k l m d h = absurd (omega arith)

schedule_most : (ws vs : List ℕ) → state_of ws ≡ state_of vs → Tidy ws → (k : ℕ) → activities_at ≤ k → k < rules_at → Most vs k → Most ws k
schedule_most ws vs e t k a b h =
    ⊎_elim
    (λ (l : k < activities_at + activity_size * get_or ws waiting_at 0). activity_most ws vs e ((k - activities_at) / activity_size) ((k - activities_at) % activity_size) k (omega arith) (omega arith) (omega arith) h)
    (λ (l : activities_at + activity_size * get_or ws waiting_at 0 ≤ k).
    let at : activities_at + (k - activities_at) ≡ k = omega arith in
    subst (Most ws) at (let u = t.beyond (k - activities_at) (omega arith) (omega arith) in omega arith)) (cases_lt k (activities_at + activity_size * get_or ws waiting_at 0))

each_most : (ws vs : List ℕ) → state_of ws ≡ state_of vs → Tidy ws → (k : ℕ) → k < word_count → Most vs k → Most ws k
each_most ws vs e t k l h =
    ⊎_elim (λ (a : k < parameters_at). head_most ws vs e t k a h) (λ (a : parameters_at ≤ k). ⊎_elim
    (λ (b : k < waiting_at). moved ws vs (parameters_at + (k - parameters_at)) k (omega arith) (sym (parameter_said ws (k - parameters_at) (omega arith)) ∙ ap (λ (s : State). parameter s (k - parameters_at)) e ∙ parameter_said vs (k - parameters_at) (omega arith)) h)
    (λ (b : waiting_at ≤ k). ⊎_elim (λ (c : k < activities_at). moved ws vs waiting_at k (omega arith) (waits_same ws vs e) h)
    (λ (c : activities_at ≤ k). ⊎_elim (λ (d : k < rules_at). schedule_most ws vs e t k c d h)
    (λ (d : rules_at ≤ k). ⊎_elim (λ (f : k < counts_at). rule_most ws vs e t ((k - rules_at) / rule_size) ((k - rules_at) % rule_size) k (omega arith) (omega arith) (omega arith) h)
    (λ (f : counts_at ≤ k). moved ws vs (counts_at + (k - counts_at)) k (omega arith) (sym (count_said ws (k - counts_at) (omega arith)) ∙ ap (λ (s : State). count s (k - counts_at)) e ∙ count_said vs (k - counts_at) (omega arith)) h)
    (cases_lt k counts_at)) (cases_lt k rules_at)) (cases_lt k activities_at)) (cases_lt k waiting_at)) (cases_lt k parameters_at)

-- what `Sane` says of an activity and of a rule
abbrev LaterThan : ℕ → Activity → Type 0
LaterThan t a = t < a.release

abbrev PutsWell : Rule → Type 0
PutsWell r = (r.needs ≡ 0) ⊎ ((r.safes ≡ true) ⊎ (may_put r.place ≡ true))

same_sane : (ws vs : List ℕ) → state_of ws ≡ state_of vs → Tidy ws → Sane vs → Sane ws
same_sane ws vs e t h =
    let w = waits_same ws vs e in
    record {
      small = λ k l. each_most ws vs e t k l (h.small k l);
      few = subst (λ n. n ≤ 32) (sym w) h.few;
      later = λ i l. subst (λ u. LaterThan u (activity_at ws i)) (sym (time_same ws vs e)) (subst (LaterThan (get_or vs time_at 0)) (sym (activity_same ws vs e i l)) (h.later i (omega arith)));
      placed = λ i l. subst (λ (a : Activity). may_put a.place ≡ true) (sym (activity_same ws vs e i l)) (h.placed i (omega arith));
      watches = λ i l. subst (λ (r : Rule). r.watches < 64) (sym (rule_same ws vs e i l)) (h.watches i l);
      puts = λ i l. subst PutsWell (sym (rule_same ws vs e i l)) (h.puts i l);
    }

pub tidy_right : TidyRight
tidy_right = record {
  written = written;
  faultless = λ ws s z t h. faultless_of ws (same_sane ws (words_of s) (t.says ∙ sym (state_back s z)) t.tidy (sane_of (words_of s) h));
}
