-- The cases of each step of a tick, so that no later proof looks into a step.
use Rattle.std.proofs.Common.{◌≡◌, ℕ, suc, ◌+◌, ◌-◌, ◌<◌, ◌≤◌, Bool, true, false, cond, eqb, List, [], ◌∷◌, length, get_or, drop, set, Some, None, Option, sym, refl, ap, ◌∙◌, subst, arith}
use Rattle.std.proofs.lemmas.Bool.{eqb-true, eqb-false, cond_both}
use Rattle.std.proofs.lemmas.List.{get_or_append_left, get_or-append_right, get_or-drop}
use Rattle.schedule.specs.declared.activity.Activity.{Activity}
use Rattle.schedule.specs.declared.activity.Fate.{Fate}
use Rattle.schedule.specs.Waiting.{due, still_waiting, fate_of, fated, is_waiting, is_missed, is_done, put_all}
use Rattle.rules.specs.Watching.{acts}
use Rattle.frame.specs.declared.Telecommand.{Telecommand}
use Rattle.satellite.specs.State.{State, with_time, with_safe_mode, with_parameters, with_counts, parameter, rule}
use Rattle.satellite.specs.Story.{Inputs, begun, looked, counted, acted, watched_one, watched, can, done, rejecting, expecting_next, obeyed, received, heeded, released, at_release, at_reception, ticked}
use Rattle.satellite.proofs.Watching.{watched_kept}
use Rattle.flight.specs.Flight.{Lawful}
use Rattle.flight.specs.Effects.{TickKeeps}

-- a telecommand is done, rejected, or not expected
pub obeyed_cases : (t : Telecommand) (s : State) (P : State → Type 0)
    → (t.number ≡ s.expected → can s t.command ≡ true → P (expecting_next (done s t.command)))
    → (t.number ≡ s.expected → can s t.command ≡ false → P (expecting_next (rejecting s)))
    → ((t.number ≡ s.expected → ⊥) → P s)
    → P (obeyed t s)
obeyed_cases t s P did rejected other =
    cond_both (eqb t.number s.expected) (expecting_next (cond (can s t.command) (done s t.command) (rejecting s))) s P
    (λ e. cond_both (can s t.command) (done s t.command) (rejecting s) (λ u. P (expecting_next u)) (did (eqb-true t.number s.expected e)) (rejected (eqb-true t.number s.expected e)))
    (λ e. other (eqb-false t.number s.expected e))

-- a tick is what it heeds in the state at reception
pub ticked_is : (i : Inputs) (s : State) → ticked i s ≡ heeded (received i (at_reception i s)) (at_reception i s)
unfolding ticked
ticked_is i s = refl

pub ticked_heard : (i : Inputs) (s : State) (o : Option Telecommand) → received i (at_reception i s) ≡ o → ticked i s ≡ heeded o (at_reception i s)
ticked_heard i s o e = ticked_is i s ∙ ap (λ x. heeded x (at_reception i s)) e

-- a tick in which nothing is received, and one in which a telecommand is
pub ticked_cases : (P : State → Type 0) (i : Inputs) (s : State)
    → (received i (at_reception i s) ≡ None → P (at_reception i s))
    → ((t : Telecommand) → received i (at_reception i s) ≡ Some t → P (obeyed t (at_reception i s)))
    → P (ticked i s)
ticked_cases P i s nothing some = subst P (sym (ticked_is i s)) (go (received i (at_reception i s)) nothing some)
  where
    go : (o : Option Telecommand) → (o ≡ None → P (at_reception i s)) → ((t : Telecommand) → o ≡ Some t → P (obeyed t (at_reception i s))) → P (heeded o (at_reception i s))
    go None n m = n refl
    go (Some t) n m = m t refl

-- a rule that puts to safe mode, one that puts a number, and one that does not act
pub one_cases : (k : ℕ) (s : State) (P : State → Type 0)
    → (acts (rule s k) (looked k s) ≡ true → (rule s k).safes ≡ true → P (with_safe_mode true (counted k s)))
    → (acts (rule s k) (looked k s) ≡ true → (rule s k).safes ≡ false → P (with_parameters (set s.parameters (rule s k).place (rule s k).number) (counted k s)))
    → (acts (rule s k) (looked k s) ≡ false → P (counted k s))
    → P (watched_one k s)
one_cases k s P safes puts idle =
    cond_both (acts (rule s k) (looked k s)) (acted (rule s k) (counted k s)) (counted k s) P
    (λ a. cond_both (rule s k).safes (with_safe_mode true (counted k s)) (with_parameters (set s.parameters (rule s k).place (rule s k).number) (counted k s)) P (safes a) (puts a)) idle

pub watched_zero : (s : State) → watched 0 s ≡ s
unfolding watched
watched_zero s = refl

pub watched_suc : (k : ℕ) (s : State) → watched (suc k) s ≡ watched_one k (watched k s)
unfolding watched
watched_suc k s = refl

-- the first sixteen parameters are read
pub begun_low : (i : Inputs) (s : State) (k : ℕ) → Lawful i → k < 16 → parameter (begun i.readings s) k ≡ get_or i.readings k 0
begun_low i s k l h = get_or_append_left i.readings (drop 16 s.parameters) 0 k (let e = l.readings in omega arith)

pub begun_high : (i : Inputs) (s : State) (k : ℕ) → Lawful i → 16 ≤ k → parameter (begun i.readings s) k ≡ parameter s k
begun_high i s k l h =
    get_or-append_right i.readings (drop 16 s.parameters) 16 k 0 l.readings h ∙ get_or-drop 16 s.parameters (k - 16) 0 ∙ ap (λ j. get_or s.parameters j 0) (omega arith)

-- the state at release, and at reception
pub release_is : (i : Inputs) (s : State) → at_release i s ≡ watched 16 (begun i.readings s)
unfolding at_release
release_is i s = refl

pub reception_is : (i : Inputs) (s : State) → at_reception i s ≡ released (at_release i s)
unfolding at_reception
reception_is i s = refl

pub release_kept : (i : Inputs) (s : State)
    → at_release i s ≡ with_safe_mode (at_release i s).safe_mode (with_parameters (at_release i s).parameters (with_counts (at_release i s).counts (with_time (suc s.time) s)))
unfolding at_release
release_kept i s = watched_kept 16 (begun i.readings s)

-- what is released in a tick
abbrev pub due_now : State → List Activity
due_now s = due (suc s.time) s.schedule

-- those that wait on, are missed and are done, by their time and safe mode
pub waiting_are : (t : ℕ) (safe : Bool) (xs : List Activity) → fated is_waiting (λ a. fate_of a t safe) xs ≡ still_waiting t xs
waiting_are t safe [] = refl
waiting_are t safe (a ∷ xs) = go (eqb a.release t) safe (waiting_are t safe xs)
  where
    go : (b c : Bool) → fated is_waiting (λ a. fate_of a t safe) xs ≡ still_waiting t xs
        → cond (is_waiting (cond b (cond c Fate.Missed Fate.Done) Fate.Waits)) (a ∷ fated is_waiting (λ a. fate_of a t safe) xs) (fated is_waiting (λ a. fate_of a t safe) xs) ≡ cond b (still_waiting t xs) (a ∷ still_waiting t xs)
    go true true e = e
    go true false e = e
    go false c e = ap (λ (l : List Activity). a ∷ l) e

pub missed_are : (t : ℕ) (safe : Bool) (xs : List Activity) → fated is_missed (λ a. fate_of a t safe) xs ≡ cond safe (due t xs) []
missed_are t true [] = refl
missed_are t false [] = refl
missed_are t true (a ∷ xs) = go (eqb a.release t) (missed_are t true xs)
  where
    go : (b : Bool) → fated is_missed (λ a. fate_of a t true) xs ≡ due t xs → cond (is_missed (cond b Fate.Missed Fate.Waits)) (a ∷ fated is_missed (λ a. fate_of a t true) xs) (fated is_missed (λ a. fate_of a t true) xs) ≡ cond b (a ∷ due t xs) (due t xs)
    go true e = ap (λ (l : List Activity). a ∷ l) e
    go false e = e
missed_are t false (a ∷ xs) = go (eqb a.release t) (missed_are t false xs)
  where
    go : (b : Bool) → fated is_missed (λ a. fate_of a t false) xs ≡ [] → cond (is_missed (cond b Fate.Done Fate.Waits)) (a ∷ fated is_missed (λ a. fate_of a t false) xs) (fated is_missed (λ a. fate_of a t false) xs) ≡ []
    go true e = e
    go false e = e

pub done_are : (t : ℕ) (safe : Bool) (xs : List Activity) → fated is_done (λ a. fate_of a t safe) xs ≡ cond safe [] (due t xs)
done_are t true [] = refl
done_are t false [] = refl
done_are t false (a ∷ xs) = go (eqb a.release t) (done_are t false xs)
  where
    go : (b : Bool) → fated is_done (λ a. fate_of a t false) xs ≡ due t xs → cond (is_done (cond b Fate.Done Fate.Waits)) (a ∷ fated is_done (λ a. fate_of a t false) xs) (fated is_done (λ a. fate_of a t false) xs) ≡ cond b (a ∷ due t xs) (due t xs)
    go true e = ap (λ (l : List Activity). a ∷ l) e
    go false e = e
done_are t true (a ∷ xs) = go (eqb a.release t) (done_are t true xs)
  where
    go : (b : Bool) → fated is_done (λ a. fate_of a t true) xs ≡ [] → cond (is_done (cond b Fate.Missed Fate.Waits)) (a ∷ fated is_done (λ a. fate_of a t true) xs) (fated is_done (λ a. fate_of a t true) xs) ≡ []
    go true e = e
    go false e = e

pub cond_length : (b : Bool) (xs : List Activity) → length (cond b xs []) ≡ cond b (length xs) 0
cond_length true xs = refl
cond_length false xs = refl

pub put_cond : (b : Bool) (xs : List Activity) (values : List ℕ) → put_all (cond b [] xs) values ≡ cond b values (put_all xs values)
put_cond true xs values = refl
put_cond false xs values = refl

-- what the release of activities leaves of any state
pub released_missed : (s : State) → (released s).missed ≡ s.missed + cond s.safe_mode (length (due s.time s.schedule)) 0
released_missed s = ap (λ n. s.missed + n) (ap length (missed_are s.time s.safe_mode s.schedule) ∙ cond_length s.safe_mode _)

pub released_parameters : (s : State) → (released s).parameters ≡ cond s.safe_mode s.parameters (put_all (due s.time s.schedule) s.parameters)
released_parameters s = ap (λ (x : List Activity). put_all x s.parameters) (done_are s.time s.safe_mode s.schedule) ∙ put_cond s.safe_mode _ s.parameters

pub released_schedule : (s : State) → (released s).schedule ≡ still_waiting s.time s.schedule
released_schedule s = waiting_are s.time s.safe_mode s.schedule

pub record Reception (i : Inputs) (s : State) : Type 0 where
  pub time : (at_reception i s).time ≡ suc s.time
  pub expected : (at_reception i s).expected ≡ s.expected
  pub rejected : (at_reception i s).rejected ≡ s.rejected
  pub rules : (at_reception i s).rules ≡ s.rules
  pub safe_mode : (at_reception i s).safe_mode ≡ (at_release i s).safe_mode
  pub counts : (at_reception i s).counts ≡ (at_release i s).counts
  pub schedule : (at_reception i s).schedule ≡ still_waiting (suc s.time) s.schedule
  pub missed : (at_reception i s).missed ≡ s.missed + cond (at_release i s).safe_mode (length (due_now s)) 0
  pub parameters : (at_reception i s).parameters ≡ cond (at_release i s).safe_mode (at_release i s).parameters (put_all (due_now s) (at_release i s).parameters)

pub reception : (i : Inputs) (s : State) → Reception i s
unfolding at_reception
reception i s =
    let k = release_kept i s in
    let w = at_release i s in
    record {
      time = ap (λ (u : State). u.time) k;
      expected = ap (λ (u : State). u.expected) k;
      rejected = ap (λ (u : State). u.rejected) k;
      rules = ap (λ (u : State). u.rules) k;
      safe_mode = refl;
      counts = refl;
      schedule = released_schedule w ∙ ap (λ (u : State). still_waiting u.time u.schedule) k;
      missed = released_missed w ∙ ap (λ (u : State). u.missed + cond w.safe_mode (length (due u.time u.schedule)) 0) k;
      parameters = released_parameters w ∙ ap (λ (u : State). cond w.safe_mode w.parameters (put_all (due u.time u.schedule) w.parameters)) k;
    }

pub tick_keeps : TickKeeps
tick_keeps i s =
    let r = reception i s in
    let u = at_reception i s in
    λ j. record {
      time = r.time j;
      expected = r.expected j;
      safe_mode = u.safe_mode;
      rejected = r.rejected j;
      missed = u.missed;
      parameters = u.parameters;
      schedule = u.schedule;
      rules = r.rules j;
      counts = u.counts;
    }
