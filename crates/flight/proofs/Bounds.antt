-- How large what the satellite holds can be after so many ticks.
use Rattle.std.proofs.Common.{◌≡◌, ℕ, zero, suc, ◌+◌, ◌<◌, ◌≤◌, cond, List, [], ◌∷◌, length, get_or, set, replicate, sym, ap, subst, ⊎_elim, arith, length-append}
use Rattle.std.proofs.lemmas.Bool.{cases_lt, cases_eq, cond_both}
use Rattle.std.proofs.lemmas.List.{get_or-set_other}
use Rattle.schedule.specs.declared.activity.Activity.{Activity}
use Rattle.schedule.specs.Waiting.{due, put_all}
use Rattle.rules.specs.declared.rule.Rule.{Rule}
use Rattle.rules.specs.Watching.{off, is_past}
use Rattle.frame.specs.declared.Command.{Command}
use Rattle.frame.specs.declared.Telecommand.{Telecommand}
use Rattle.satellite.specs.State.{State, parameter, rule, count, at_launch}
use Rattle.satellite.specs.Story.{Inputs, begun, looked, watched_one, watched, parameters_by, schedule_by, rules_by, counts_by, done, expecting_next, obeyed, at_release, at_reception}
use Rattle.satellite.proofs.Watching.{one_rules, watched_rules, count_before}
use Rattle.flight.specs.Machine.{AllLawful, more}
use Rattle.flight.specs.Flight.{Lawful, machine, after}
use Rattle.flight.specs.Scheduling.{Among}
use Rattle.flight.proofs.Steps.{obeyed_cases, ticked_cases, one_cases, watched_zero, watched_suc, begun_low, begun_high, release_is, reception}
use Rattle.flight.proofs.Waits.{among_append, parts, among_due, among_still, parts_length, put_both, set_both}
use Rattle.flight.proofs.Received.{Small, SmallRule, SmallActivity, SmallCommand, decoded_small}

-- counters count ticks or commands at most, and other numbers are numbers of a frame at most
abbrev pub Bounded : (ticks commands : ℕ) → State → Type 0
Bounded ticks commands s = record {
  time : s.time ≤ ticks;
  expected : s.expected ≤ commands;
  rejected : s.rejected ≤ commands;
  missed : s.missed + length s.schedule ≤ commands;
  parameters : (k : ℕ) → Small (parameter s k);
  schedule : (a : Activity) → Among a s.schedule → SmallActivity a;
  rules : (k : ℕ) → SmallRule (rule s k);
  counts : (k : ℕ) → count s k ≤ ticks;
}

all_same : {A : Type 0} (P : A → Type 0) (n k : ℕ) (d : A) → P d → P (get_or (replicate n d) k d)
all_same P zero k d p = p
all_same P (suc n) zero d p = p
all_same P (suc n) (suc k) d p = all_same P n k d p

launch_bounded : Bounded 0 0 at_launch
launch_bounded = record {
  time = omega arith;
  expected = omega arith;
  rejected = omega arith;
  missed = omega arith;
  parameters = λ k. all_same Small 64 k 0 (omega arith);
  schedule = λ a m. elim m [ ];
  rules = λ k. all_same SmallRule 16 k off (record { watches = omega arith; limit = omega arith; needs = omega arith; place = omega arith; number = omega arith });
  counts = λ k. all_same (λ n. n ≤ 0) 16 k 0 (omega arith);
}

-- rules put small numbers
one_parameter : (k : ℕ) (s : State) → SmallRule (rule s k) → ((j : ℕ) → Small (parameter s j)) → (j : ℕ) → Small (parameter (watched_one k s) j)
one_parameter k s h g j =
    one_cases k s (λ (u : State). Small (parameter u j)) (λ _ _. g j) (λ _ _. set_both Small s.parameters (rule s k).place (rule s k).number 0 j h.number (g j)) (λ _. g j)

watched_parameter : (k : ℕ) (s : State) → ((j : ℕ) → SmallRule (rule s j)) → ((j : ℕ) → Small (parameter s j)) → (j : ℕ) → Small (parameter (watched k s) j)
watched_parameter zero s h g j = subst (λ (u : State). Small (parameter u j)) (sym (watched_zero s)) (g j)
watched_parameter (suc k) s h g j =
    subst (λ (u : State). Small (parameter u j)) (sym (watched_suc k s))
    (one_parameter k (watched k s) (subst (λ (rs : List Rule). SmallRule (get_or rs k off)) (sym (watched_rules k s)) (h k)) (watched_parameter k s h g) j)

-- a count grows by one at most
looked_most : (k : ℕ) (s : State) → looked k s ≤ suc (count s k)
looked_most k s = cond_both (is_past (rule s k) (parameter s (rule s k).watches)) (suc (count s k)) 0 (λ n. n ≤ suc (count s k)) (λ _. omega arith) (λ _. omega arith)

watched_count : (k : ℕ) (s : State) (j : ℕ) → count (watched k s) j ≤ suc (count s j)
watched_count zero s j = subst (λ (u : State). count u j ≤ suc (count s j)) (sym (watched_zero s)) (omega arith)
watched_count (suc k) s j =
    let u = watched k s in
    subst (λ (v : State). count v j ≤ suc (count s j)) (sym (watched_suc k s))
    (subst (λ (c : List ℕ). get_or c j 0 ≤ suc (count s j)) (sym (one_rules k u).1)
    (⊎_elim
    (λ (e : j ≡ k). subst (λ n. get_or (set u.counts k (looked k u)) n 0 ≤ suc (count s n)) (sym e)
    (set_both (λ n. n ≤ suc (count s k)) u.counts k (looked k u) 0 k (let a = looked_most k u in let b = count_before k k s (omega arith) in omega arith) (let b = count_before k k s (omega arith) in omega arith)))
    (λ (n : j ≡ k → ⊥). subst (λ x. x ≤ suc (count s j)) (sym (get_or-set_other u.counts k j (looked k u) 0 n)) (watched_count k s j)) (cases_eq j k)))

begun_small : (i : Inputs) (s : State) → Lawful i → ((k : ℕ) → Small (parameter s k)) → (k : ℕ) → Small (parameter (begun i.readings s) k)
begun_small i s l h k =
    ⊎_elim (λ (a : k < 16). subst Small (sym (begun_low i s k l a)) (let z = l.small k in omega arith)) (λ (a : 16 ≤ k). subst Small (sym (begun_high i s k l a)) (h k)) (cases_lt k 16)

release_small : (i : Inputs) (s : State) → Lawful i → ((j : ℕ) → SmallRule (rule s j)) → ((k : ℕ) → Small (parameter s k)) → (k : ℕ) → Small (parameter (at_release i s) k)
release_small i s l h g k = subst (λ (u : State). Small (parameter u k)) (sym (release_is i s)) (watched_parameter 16 (begun i.readings s) h (begun_small i s l g) k)

release_count : (i : Inputs) (s : State) (k : ℕ) → count (at_release i s) k ≤ suc (count s k)
release_count i s k = subst (λ (u : State). count u k ≤ suc (count s k)) (sym (release_is i s)) (watched_count 16 (begun i.readings s) k)

reception_bounded : (n : ℕ) (i : Inputs) (s : State) → Lawful i → Bounded n n s → Bounded (suc n) n (at_reception i s)
reception_bounded n i s l b =
    let r = reception i s in
    let w = at_release i s in
    let p = parts (suc s.time) s.schedule in
    let v : (k : ℕ) → Small (parameter w k) = release_small i s l b.rules b.parameters in
    record {
      time = (let e = r.time in let h = b.time in omega arith);
      expected = subst (λ x. x ≤ n) (sym r.expected) b.expected;
      rejected = subst (λ x. x ≤ n) (sym r.rejected) b.rejected;
      missed = (let e = r.missed in let f = ap length r.schedule in let g = parts_length (suc s.time) s.schedule _ _ p in let h = b.missed in
          let c : cond w.safe_mode (length (due (suc s.time) s.schedule)) 0 ≤ length (due (suc s.time) s.schedule) = cond_both w.safe_mode (length (due (suc s.time) s.schedule)) 0 (λ x. x ≤ length (due (suc s.time) s.schedule)) (λ _. omega arith) (λ _. omega arith) in omega arith);
      parameters = λ k. subst (λ (x : List ℕ). Small (get_or x k 0)) (sym r.parameters)
          (cond_both w.safe_mode w.parameters (put_all (due (suc s.time) s.schedule) w.parameters) (λ x. Small (get_or x k 0)) (λ _. v k)
          (λ _. put_both Small (due (suc s.time) s.schedule) w.parameters k (λ a m. (b.schedule a (among_due (suc s.time) s.schedule _ _ a p m).0).number) (v k)));
      schedule = λ a m. b.schedule a (among_still (suc s.time) s.schedule _ _ a p (subst (Among a) r.schedule m)).0;
      rules = λ k. subst (λ (rs : List Rule). SmallRule (get_or rs k off)) (sym r.rules) (b.rules k);
      counts = λ k. subst (λ (c : List ℕ). get_or c k 0 ≤ suc n) (sym r.counts) (let e = release_count i s k in let h = b.counts k in omega arith);
    }

-- what holds with fewer commands holds with one more
looser : (t n : ℕ) (s : State) → Bounded t n s → Bounded t (suc n) s
looser t n s h = record { time = h.time; expected = omega arith; rejected = omega arith; missed = omega arith; parameters = h.parameters; schedule = h.schedule; rules = h.rules; counts = h.counts }

-- what a command makes of each part: one activity more at most, and small numbers
schedule_length : (c : Command) (xs : List Activity) → length (schedule_by c xs) ≤ suc (length xs)
schedule_length (Command.Later a) xs = omega (arith, length-append xs (a ∷ []))
schedule_length Command.Forget xs = omega arith
schedule_length _ xs = omega arith

schedule_small : (c : Command) (xs : List Activity) → SmallCommand c → ((a : Activity) → Among a xs → SmallActivity a) → (a : Activity) → Among a (schedule_by c xs) → SmallActivity a
schedule_small (Command.Later b) xs q h a m = ⊎_elim (h a) (λ e. subst SmallActivity (sym e) q) (among_append a b xs m)
schedule_small Command.Forget xs q h a m = elim m [ ]
schedule_small _ xs q h a m = h a m

parameters_small : (c : Command) (xs : List ℕ) (k : ℕ) → SmallCommand c → Small (get_or xs k 0) → Small (get_or (parameters_by c xs) k 0)
parameters_small (Command.Put a b) xs k q h = set_both Small xs a b 0 k q h
parameters_small _ xs k q h = h

rules_small : (c : Command) (rs : List Rule) (k : ℕ) → SmallCommand c → SmallRule (get_or rs k off) → SmallRule (get_or (rules_by c rs) k off)
rules_small (Command.SetRule j r) rs k q h = set_both SmallRule rs j r off k q h
rules_small _ rs k q h = h

counts_most : (t : ℕ) (c : Command) (ns : List ℕ) (k : ℕ) → get_or ns k 0 ≤ t → get_or (counts_by c ns) k 0 ≤ t
counts_most t (Command.SetRule j r) ns k h = set_both (λ x. x ≤ t) ns j 0 0 k (omega arith) h
counts_most t _ ns k h = h

-- a command done, and the next is expected
done_bounded : (t n : ℕ) (s : State) (c : Command) → SmallCommand c → Bounded t n s → Bounded t (suc n) (expecting_next (done s c))
done_bounded t n s c q h = record {
  time = h.time;
  expected = omega arith;
  rejected = omega arith;
  missed = (let l = schedule_length c s.schedule in omega arith);
  parameters = λ k. parameters_small c s.parameters k q (h.parameters k);
  schedule = schedule_small c s.schedule q h.schedule;
  rules = λ k. rules_small c s.rules k q (h.rules k);
  counts = λ k. counts_most t c s.counts k (h.counts k);
}

obeyed_bounded : (ticks n : ℕ) (t : Telecommand) (s : State) → SmallCommand t.command → Bounded ticks n s → Bounded ticks (suc n) (obeyed t s)
obeyed_bounded ticks n t s q h =
    obeyed_cases t s (Bounded ticks (suc n)) (λ _ _. done_bounded ticks n s t.command q h)
    (λ _ _. record { time = h.time; expected = omega arith; rejected = omega arith; missed = omega arith; parameters = h.parameters; schedule = h.schedule; rules = h.rules; counts = h.counts })
    (λ _. looser ticks n s h)

pub after_bounded : (is : List Inputs) → AllLawful machine is → Bounded (length is) (length is) (after is)
after_bounded [] l = launch_bounded
after_bounded (i ∷ is) (more j js l ls) =
    let b = reception_bounded (length is) i (after is) l (after_bounded is ls) in
    ticked_cases (Bounded (suc (length is)) (suc (length is))) i (after is) (λ _. looser (suc (length is)) (length is) (at_reception i (after is)) b)
    (λ t e. obeyed_bounded (suc (length is)) (length is) t (at_reception i (after is)) (decoded_small i.frame t e) b)
