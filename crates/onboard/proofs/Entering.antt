-- A call that does what the entry says keeps the state that it made, and goes on with the flight.
use Rattle.std.proofs.Common.{◌≡◌, ℕ, ◌+◌, ◌<◌, ◌≤◌, ◌⊎◌, List, [], ◌∷◌, length, get_or, Some, None, Ok, Err, Option, Result, sym, refl, ap, ◌∙◌, subst, arith, Fits, w16}
use Rattle.std.specs.Prelude.{option_map, IfErr}
use Rattle.std.specs.Option.{option_or}
use Rattle.std.proofs.lemmas.Bool.Decides.{nat_tests}
use Rattle.std.proofs.lemmas.Bool.{eq-eqb, ne_eqb}
use Rattle.schedule.specs.declared.activity.Activity.{Activity}
use Rattle.schedule.specs.Waiting.{Placed}
use Rattle.refusal.specs.declared.Lent.{Lent}
use Rattle.refusal.specs.declared.Refusal.{Refusal}
use Rattle.refusal.specs.Turned.{Turned, turned}
use Rattle.satellite.specs.State.{State, at_launch}
use Rattle.satellite.specs.Story.{Inputs, ticked}
use Rattle.satellite.specs.Fit.{Fit, RuleFit, most}
use Rattle.layout.specs.Map.{word_count, words_of, rule_at, state_of, time_at, expected_at, rejected_at, missed_at, counts_at}
use Rattle.layout.specs.Fault.{Lowest, Sane, lowest_fault}
use Rattle.layout.proofs.Sanity.{sane_of, lowest_is, lowest_right}
use Rattle.layout.proofs.Said.{heads_said, waiting_said, activity_said, rule_said, count_said}
use Rattle.telemetry.specs.Reports.{report_of, numbers_of}
use Rattle.flight.specs.Flight.{keeper, after, Flew}
use Rattle.flight.proofs.Flying.{keeps, flies_right, carries_on, launch_flies}
use Rattle.flight.proofs.Fitting.{never_refused}
use Rattle.flight.proofs.Keeping.{tick_kept}
use Rattle.flight.proofs.EveryFlight.{every_flight}
use Rattle.onboard.specs.Entry.{wrong_length, turned_away, answered, tick_of, Leaves, Says, KeepsState, GoesOn, Launches}

-- memory without fault says a state that can tick
rule_fit : (ws : List ℕ) (k : ℕ) → Sane ws → k < 16 → RuleFit (rule_at ws k)
rule_fit ws k s l = record { watches = s.watches k l; puts = λ n e. grind (arith, nat_tests, s.puts k l) }

placed_fit : (ws : List ℕ) → Sane ws → Placed (state_of ws).schedule
placed_fit ws s k l =
    let n = waiting_said ws in
    subst (λ (a : Activity). a.place < 64) (sym (activity_said ws k (omega arith))) (grind (arith, nat_tests, s.placed k (omega arith)))

pub sane_words : (ws : List ℕ) → None ≡ lowest_fault ws → Sane ws
sane_words ws e = sane_of ws (subst (Lowest ws) (sym e) (lowest_right ws))

pub fit_of : (ws : List ℕ) → None ≡ lowest_fault ws → Fit (state_of ws)
fit_of ws e =
    let s = sane_words ws e in
    let h = heads_said ws in
    record {
      time = (let a = s.small time_at (omega arith) in omega arith);
      expected = (let a = s.small expected_at (omega arith) in omega arith);
      rejected = (let a = s.small rejected_at (omega arith) in omega arith);
      missed = (let a = s.small missed_at (omega arith) in omega arith);
      placed = placed_fit ws s;
      rules = record {
        each = λ k l. subst RuleFit (sym (rule_said ws k l)) (rule_fit ws k s l);
        counts = λ k l. subst (λ n. n ≤ most) (sym (count_said ws k l)) (s.small (counts_at + k) (omega arith));
      };
    }

-- the first of two reasons
or_none : {A B C : Type 0} (f : A → C) (g : B → C) (a : Option A) (b : Option B) → option_or (option_map f a) (option_map g b) ≡ None → (a ≡ None) × (b ≡ None)
or_none f g None None e = (refl, refl)
or_none f g None (Some y) e = cc
or_none f g (Some x) b e = cc

pub no_reason : (m r f t : List ℕ) → wrong_length (length m) (length r) (length f) (length t) ≡ None → lowest_fault (keeper.read m) ≡ None → turned_away m r f t ≡ None
unfolding turned_away
no_reason m r f t e d = λ i. option_or (option_map (λ lent. turned (Refusal.Length lent)) (e i)) (option_map (λ word. turned (Refusal.Unfit word)) (d i))

pub by_length : (m r f t : List ℕ) (e : Refusal) → option_map Refusal.Length (wrong_length (length m) (length r) (length f) (length t)) ≡ Some e → turned_away m r f t ≡ Some (turned e)
unfolding turned_away
by_length m r f t e h = go (wrong_length (length m) (length r) (length f) (length t)) h
  where
    go : (o : Option Lent) → option_map Refusal.Length o ≡ Some e
        → option_or (option_map (λ lent. turned (Refusal.Length lent)) o) (option_map (λ word. turned (Refusal.Unfit word)) (lowest_fault (keeper.read m))) ≡ Some (turned e)
    go None h = cc
    go (Some lent) h = ap (option_map turned) h

pub by_word : (m r f t : List ℕ) (word : ℕ) → wrong_length (length m) (length r) (length f) (length t) ≡ None → lowest_fault (keeper.read m) ≡ Some word → turned_away m r f t ≡ Some (turned (Refusal.Unfit word))
unfolding turned_away
by_word m r f t word e d = λ i. option_or (option_map (λ lent. turned (Refusal.Length lent)) (e i)) (option_map (λ word. turned (Refusal.Unfit word)) (d i))

-- where a call is turned away: one of the four that it is lent, or a word
small_reason : (a : Option Lent) (b : Option ℕ) (ws : List ℕ) (x : Turned) → Lowest ws b → option_or (option_map (λ lent. turned (Refusal.Length lent)) a) (option_map (λ word. turned (Refusal.Unfit word)) b) ≡ Some x → x.place < word_count
small_reason (Some Lent.Memory) b ws x h e = grind arith
small_reason (Some Lent.Readings) b ws x h e = grind arith
small_reason (Some Lent.Frame) b ws x h e = grind arith
small_reason (Some Lent.Report) b ws x h e = grind arith
small_reason None (Some k) ws x h e = grind (arith, h.0)
small_reason None None ws x h e = cc

small_place : (d : Result (Unit {0}) Refusal) (m r f t m₁ t₁ : List ℕ) → Says d m r f t m₁ t₁ → IfErr d (λ e. (turned e).place < word_count)
unfolding turned_away
small_place (Ok u) m r f t m₁ t₁ h = tt
small_place (Err e) m r f t m₁ t₁ h =
    small_reason (wrong_length (length m) (length r) (length f) (length t)) (lowest_fault (keeper.read m)) (keeper.read m) (turned e) (lowest_right (keeper.read m)) (sym h.0)

-- what is said where a call is done, and where it is turned away
pub done_says : (m r f t m₁ t₁ : List ℕ) → turned_away m r f t ≡ None → m₁ ≡ keeper.stored (words_of (tick_of m r f)) → t₁ ≡ numbers_of (report_of (tick_of m r f)) → Says (Ok tt) m r f t m₁ t₁
done_says m r f t m₁ t₁ e a b = (sym e, subst (λ (o : Option Turned). Leaves o m r f t m₁ t₁) (sym e) (a, b))

pub away_says : (d : Result (Unit {0}) Refusal) (e : Refusal) (m r f t : List ℕ) → d ≡ Err e → turned_away m r f t ≡ Some (turned e) → Says d m r f t m t
away_says d e m r f t is h = (ap answered is ∙ sym h, subst (λ (o : Option Turned). Leaves o m r f t m t) (sym h) (refl, refl))

is_done : (d : Result (Unit {0}) Refusal) → answered d ≡ None → d ≡ Ok tt
is_done (Ok u) e = refl
is_done (Err x) e = cc

right_lengths : (m r f t : ℕ) → m ≡ keeper.size → r ≡ 16 → (f ≡ 0) ⊎ (f ≡ 12) → t ≡ 8 → wrong_length m r f t ≡ None
right_lengths m r f t em er ef et = grind (arith, nat_tests)

lengths_right : (m r f t : ℕ) → wrong_length m r f t ≡ None → (r ≡ 16) × ((f ≡ 0) ⊎ (f ≡ 12))
lengths_right m r f t e = grind (arith, nat_tests)

keeps_state : (d : Result (Unit {0}) Refusal) (m r f t m₁ t₁ : List ℕ) → ((k : ℕ) → get_or r k 0 ≤ 65535) → Says d m r f t m₁ t₁ → KeepsState d m r f m₁
unfolding turned_away
keeps_state d m r f t m₁ t₁ small says done found upset =
    let none : turned_away m r f t ≡ None = sym says.0 ∙ ap answered done in
    let why = or_none (λ lent. turned (Refusal.Length lent)) (λ word. turned (Refusal.Unfit word)) (wrong_length (length m) (length r) (length f) (length t)) (lowest_fault (keeper.read m)) none in
    let long = lengths_right (length m) (length r) (length f) (length t) why.0 in
    let left = subst (λ (o : Option Turned). Leaves o m r f t m₁ t₁) none says.1 in
    tick_kept (record { readings = r; frame = f }) m found (record { readings = long.0; small = small; frame = long.1 }) (subst (Lowest (keeper.read m)) why.1 (lowest_right (keeper.read m)))
    (subst (λ (l : List ℕ). keeper.Upset l found) left.0 upset)

goes_on : (d : Result (Unit {0}) Refusal) (m r f t m₁ t₁ : List ℕ) → ((k : ℕ) → get_or r k 0 ≤ 65535) → Says d m r f t m₁ t₁ → GoesOn d m r f t m₁ t₁
goes_on d m r f t m₁ t₁ small says is kept flown upset short lr lf lt =
    let i : Inputs = record { readings = r; frame = f } in
    let held = flies_right.holds is kept flown in
    let long = right_lengths (length m) (length r) (length f) (length t) (keeps.long kept m held.words held.holds upset) lr lf lt in
    let fit = sym (lowest_is (keeper.read m) None (never_refused is kept m flown upset short)) in
    let none : turned_away m r f t ≡ None = no_reason m r f t long fit in
    let left = subst (λ (o : Option Turned). Leaves o m r f t m₁ t₁) none says.1 in
    let next = carries_on i is kept m flown upset (record { readings = lr; small = small; frame = lf }) in
    let e : tick_of m r f ≡ after (i ∷ is) = next.0 in
    let flew : Flew (i ∷ is) m₁ = subst (Flew (i ∷ is)) (sym (left.0 ∙ ap (λ (s : State). keeper.stored (words_of s)) e)) next.1 in
    (is_done d (says.0 ∙ none), flew, left.1 ∙ ap (λ (s : State). numbers_of (report_of s)) e, every_flight i is m₁ flew)

-- so all clauses of the entry follow from the first
pub entered : (d : Result (Unit {0}) Refusal) (m r f t m₁ t₁ : List ℕ) → ((k : ℕ) → Fits w16 (get_or r k 0)) → Says d m r f t m₁ t₁
    → record { says : Says d m r f t m₁ t₁; place : IfErr d (λ e. (turned e).place < word_count); keeps : KeepsState d m r f m₁; flies : GoesOn d m r f t m₁ t₁ }
entered d m r f t m₁ t₁ small says =
    let most : (k : ℕ) → get_or r k 0 ≤ 65535 = λ k. let h = small k in omega arith in
    record { says = says; place = small_place d m r f t m₁ t₁ says; keeps = keeps_state d m r f t m₁ t₁ most says; flies = goes_on d m r f t m₁ t₁ most says }

-- the steps of the entry, one after the other
pub ticked_says : (m r f t m₁ t₁ ws : List ℕ) (s : State) → wrong_length (length m) (length r) (length f) (length t) ≡ None → ws ≡ keeper.read m → None ≡ lowest_fault ws
    → s ≡ ticked (record { readings = r; frame = f }) (state_of ws) → m₁ ≡ keeper.stored (words_of s) → t₁ ≡ numbers_of (report_of s) → Says (Ok tt) m r f t m₁ t₁
ticked_says m r f t m₁ t₁ ws s lengths read faultless tick left told =
    let e : s ≡ tick_of m r f = tick ∙ ap (λ (us : List ℕ). ticked (record { readings = r; frame = f }) (state_of us)) read in
    done_says m r f t m₁ t₁ (no_reason m r f t lengths (ap lowest_fault (sym read) ∙ sym faultless)) (left ∙ ap (λ (u : State). keeper.stored (words_of u)) e) (told ∙ ap (λ (u : State). numbers_of (report_of u)) e)

pub launched_right : (m m₁ : List ℕ) → length m ≡ keeper.size → m₁ ≡ keeper.stored (words_of at_launch) → Launches (Ok tt) m m₁
launched_right m m₁ e left = rw (eq-eqb (length m) keeper.size e) (refl, (left, subst (Flew []) (sym left) launch_flies))

pub not_launched : (m : List ℕ) → (length m ≡ keeper.size → ⊥) → Launches (Err (Refusal.Length Lent.Memory)) m m
not_launched m n = rw (ne_eqb (length m) keeper.size n) (refl, refl)
