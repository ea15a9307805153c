-- The promises of then follow from the theorems of today, over histories of readings and frames of then.
use Rattle.std.proofs.Common.{◌≡◌, ℕ, zero, suc, ◌+◌, ◌<◌, ◌≤◌, Bool, true, false, cond, eqb, ◌⊎◌, List, [], ◌∷◌, ◌++◌, map, length, get_or, Some, None, Option, sym, refl, ap, ◌∙◌, subst, inl, inr, ⊎_elim, arith}
use Rattle.std.proofs.lemmas.List.{length-map, map-append}
use Rattle.std.proofs.lemmas.Bool.{leb-true, and_parts}
use Rattle.origin.specs.Sat.{Wait, Rule, Command, put, later, forget, sleep, wake, set_rule, other, is_past, begins, how_many, due_done}
use Rattle.origin.specs.Flight.{Heard, nothing, command, Round}
use Rattle.origin.specs.Flight as origin
use Rattle.origin.specs.Promise.{Among, here, there, FromGround, obeyed_with, obeyed, first_sent, LastOf, last, further, past_for, Unset}
use Rattle.origin.proofs.Steps.{all_ruled_waits, all_ruled_time}
use Rattle.origin.specs.Entry.{Input, round_of, all_at_most}
use Rattle.origin.specs.Entry as raw
use Rattle.schedule.specs.declared.activity.Activity.{Activity}
use Rattle.schedule.specs.Waiting.{due}
use Rattle.frame.specs.declared.Command as today
use Rattle.frame.specs.Frame.{kind_of}
use Rattle.frame.specs.declared.Telecommand.{Telecommand}
use Rattle.satellite.specs.State.{State}
use Rattle.satellite.specs.Story.{Inputs, at_release, at_reception}
use Rattle.flight.specs.Machine.{AllLawful}
use Rattle.flight.specs.Machine as lawful
use Rattle.flight.specs.Flight.{Lawful, machine, after}
use Rattle.flight.specs.Commanding.{heard, Turn, obeyed_in}
use Rattle.flight.specs.Commanding as commanding
use Rattle.flight.specs.Scheduling as scheduling
use Rattle.flight.specs.Scheduling.{LastForPlace}
use Rattle.flight.specs.Protecting as protecting
use Rattle.flight.proofs.Waits.{among_cons}
use Rattle.flight.proofs.Commanded.{each_once, comes_through, safe_at_once}
use Rattle.flight.proofs.Effected.{keeps_sizes, reads_right}
use Rattle.flight.proofs.Scheduled.{never_late, put_when_due, missed_in_safe_mode}
use Rattle.flight.proofs.Fates.{each_activity}
use Rattle.flight.proofs.Steps.{release_kept}
use Rattle.flight.proofs.Protected.{instruments_right}
use Rattle.bridge.specs.Bridge.{now_wait, now_rule, now_command, now_heard, now_input, now_inputs}
use Rattle.bridge.specs.Same.{Same, AllThen, more_then}
use Rattle.bridge.specs.Derived.{rounds, at_waits, Derived}
use Rattle.bridge.proofs.Stepping.{due_of, due_same, due_many, all_coming, release_same, reception_same}
use Rattle.bridge.proofs.Being.{after_orderly, after_plain, as_it_was}
use Rattle.bridge.proofs.Hearing.{heard_same, raw_as_it_was}

same : (is : List Input) → AllThen is → Same (after (now_inputs is)) (origin.after (rounds is))
same is l = as_it_was (now_inputs is) (rounds is) (raw_as_it_was is l)

-- what is lent is lawful
small : (xs : List ℕ) → all_at_most 65535 xs ≡ true → (k : ℕ) → get_or xs k 0 ≤ 65535
small [] e k = omega arith
small (x ∷ xs) e zero = leb-true x 65535 (and_parts _ (all_at_most 65535 xs) e).0
small (x ∷ xs) e (suc k) = small xs (and_parts _ (all_at_most 65535 xs) e).1 k

lent_lawful : (i : Input) → raw.Lent i → Lawful (now_input i)
lent_lawful i l = record { readings = l.readings; small = small i.readings l.small; frame = l.frame }

all_lawful : (is : List Input) → AllThen is → AllLawful machine (now_inputs is)
all_lawful [] l = lawful.none
all_lawful (i ∷ is) (more_then j js l o ls) = lawful.more (now_input i) (now_inputs is) (lent_lawful i l) (all_lawful is ls)

rest_of : (i : Input) (is : List Input) → AllThen (i ∷ is) → AllThen is
rest_of i is (more_then j js l o ls) = ls

-- its turn then is its turn now, and the other way round
turn : (i : Input) (is : List Input) (c : Command) → AllThen (i ∷ is) → (round_of i).heard ≡ command (origin.after (rounds is)).next c → Turn (now_input i) (now_inputs is) (now_command c)
turn i is c l e = heard_same i is l ∙ ap now_heard e ∙ (λ j. Some (record { number = sym (same is (rest_of i is l)).next j; command = now_command c }))

-- what is of today was of then: a later kind was of none
then_command : today.Command → Command
then_command (today.Command.Put i v) = put i v
then_command (today.Command.Later a) = later a.release a.place a.number
then_command today.Command.Forget = forget
then_command today.Command.Sleep = sleep
then_command today.Command.Wake = wake
then_command (today.Command.SetRule k r) = set_rule k (record { value = r.watches; limit = r.limit; upward = r.upward; needs = r.needs; rests = r.safes; place = r.place; number = r.number })
then_command c = other (kind_of c)

then_back : (c : Command) → then_command (now_command c) ≡ c
unfolding then_command
then_back (put i v) = refl
then_back (later t i v) = refl
then_back forget = refl
then_back sleep = refl
then_back wake = refl
then_back (set_rule k r) = refl
then_back (other n) = refl

then_heard : Option Telecommand → Heard
then_heard None = nothing
then_heard (Some t) = command t.number (then_command t.command)

heard_back : (h : Heard) → then_heard (now_heard h) ≡ h
unfolding then_heard
heard_back nothing = refl
heard_back (command n c) = ap (command n) (then_back c)

-- heard then, if it is heard now
heard_then : (i : Input) (n : ℕ) (c : Command) → now_heard (round_of i).heard ≡ Some (record { number = n; command = now_command c }) → (round_of i).heard ≡ command n c
heard_then i n c e = sym (heard_back (round_of i).heard) ∙ ap then_heard e ∙ heard_back (command n c)

turn_then : (i : Input) (is : List Input) (c : Command) → AllThen (i ∷ is) → Turn (now_input i) (now_inputs is) (now_command c) → (round_of i).heard ≡ command (origin.after (rounds is)).next c
turn_then i is c l t = heard_then i _ c (sym (heard_same i is l) ∙ t ∙ (λ j. Some (record { number = (same is (rest_of i is l)).next j; command = now_command c })))

-- each once
backs : (cs : List Command) → map then_command (map now_command cs) ≡ cs
backs [] = refl
backs (c ∷ cs) = λ j. then_back c j ∷ backs cs j

with_same : (h : Heard) (n : ℕ) (cs : List Command) → commanding.obeyed_with (now_heard h) n (map now_command cs) ≡ map now_command (obeyed_with h n cs)
with_same nothing n cs = refl
with_same (command m c) n cs = go (eqb m n)
  where
    go : (b : Bool) → cond b (now_command c ∷ map now_command cs) (map now_command cs) ≡ map now_command (cond b (c ∷ cs) cs)
    go true = refl
    go false = refl

obeyed_same : (is : List Input) → AllThen is → obeyed_in (now_inputs is) ≡ map now_command (obeyed (rounds is))
obeyed_same [] l = refl
obeyed_same (i ∷ is) (more_then j js l o ls) =
    (λ k. commanding.obeyed_with (heard_same i is (more_then i is l o ls) k) ((same is ls).next k) (obeyed_same is ls k)) ∙ with_same (round_of i).heard (origin.after (rounds is)).next (obeyed (rounds is))

first_same : (sent : ℕ → Command) (n : ℕ) → commanding.first_sent (λ m. now_command (sent m)) n ≡ map now_command (first_sent sent n)
first_same sent zero = refl
first_same sent (suc n) = ap (λ (cs : List today.Command). now_command (sent n) ∷ cs) (first_same sent n)

from_heard : (sent : ℕ → Command) (h : Heard) → ((n : ℕ) (c : Command) → h ≡ command n c → c ≡ sent n) → (t : Telecommand) → now_heard h ≡ Some t → t.command ≡ now_command (sent t.number)
from_heard sent nothing g t e = cc
from_heard sent (command n c) g t e =
    let d : record { number = n; command = now_command c } ≡ t = cc in
    subst (λ (x : Telecommand). x.command ≡ now_command (sent x.number)) d (ap now_command (g n c refl))

from_ground : (sent : ℕ → Command) (is : List Input) → AllThen is → ((r : Round) → Among r (rounds is) → FromGround sent r) → commanding.FromGround (λ m. now_command (sent m)) (now_inputs is)
from_ground sent [] l g = tt
from_ground sent (i ∷ is) (more_then j js l o ls) g =
    (λ t e. from_heard sent (round_of i).heard (g (round_of i) (here (rounds is))) t (sym (heard_same i is (more_then i is l o ls)) ∙ e), from_ground sent is ls (λ r a. g r (there (round_of i) (rounds is) a)))

-- among waits
abbrev wait_of : Activity → Wait
wait_of a = record { at = a.release; place = a.place; number = a.number }

among_now : (w : Wait) (ws : List Wait) → Among w ws → scheduling.Among (now_wait w) (map now_wait ws)
among_now w ws (here vs) = scheduling.here (map now_wait vs)
among_now w ws (there v vs a) = scheduling.there (now_wait v) (map now_wait vs) (among_now w vs a)

among_then : (w : Wait) (ws : List Wait) → scheduling.Among (now_wait w) (map now_wait ws) → Among w ws
among_then w [] a = elim a [ ]
among_then w (v ∷ ws) a =
    ⊎_elim (λ (e : now_wait w ≡ now_wait v). subst (λ x. Among x (v ∷ ws)) (sym (ap (λ (x : Activity). wait_of x) e)) (here ws)) (λ b. there v ws (among_then w ws b)) (among_cons (now_wait w) (now_wait v) (map now_wait ws) a)

derived_each_once : (sent : ℕ → Command) (is : List Input) → AllThen is → ((r : Round) → Among r (rounds is) → FromGround sent r) → obeyed (rounds is) ≡ first_sent sent (origin.after (rounds is)).next
derived_each_once sent is l g =
    let e : map now_command (obeyed (rounds is)) ≡ map now_command (first_sent sent (origin.after (rounds is)).next) =
    sym (obeyed_same is l) ∙ each_once (λ m. now_command (sent m)) (now_inputs is) (from_ground sent is l g) ∙ ap (commanding.first_sent (λ m. now_command (sent m))) (same is l).next
    ∙ first_same sent (origin.after (rounds is)).next in
    sym (backs (obeyed (rounds is))) ∙ ap (map then_command) e ∙ backs (first_sent sent (origin.after (rounds is)).next)

derived_kept : (i : Input) (is : List Input) (w : Wait) → AllThen (i ∷ is) → Among w (origin.after (rounds is)).waits → ((round_of i).heard ≡ command (origin.after (rounds is)).next forget → ⊥)
    → Among w (origin.after (rounds (i ∷ is))).waits ⊎ (w.at ≡ (origin.after (rounds (i ∷ is))).time)
derived_kept i is w l a f =
    let ls = rest_of i is l in
    let now = now_input i in
    let before = now_inputs is in
    let b = same is ls in
    let n = same (i ∷ is) l in
    let waits = subst (scheduling.Among (now_wait w)) (sym b.waits) (among_now w (origin.after (rounds is)).waits a) in
    ⊎_elim (λ e. inr (e ∙ n.time)) (λ m. inl (among_then w (origin.after (rounds (i ∷ is))).waits (subst (scheduling.Among (now_wait w)) n.waits m)))
    (each_activity.stays now before (now_wait w) waits (λ t. f (turn_then i is forget l t)))

unset : (k : ℕ) (late early : List Input) → AllThen (late ++ early) → Unset k (rounds late) (rounds early) → protecting.Unset k (now_inputs late) (now_inputs early)
unset k [] early l u = tt
unset k (i ∷ late) early (more_then j js l o ls) u = (
  λ r t. u.1 _ (record { value = r.watches; limit = r.limit; upward = r.upward; needs = r.needs; rests = r.safes; place = r.place; number = r.number })
      (heard_then i _ (set_rule k (record { value = r.watches; limit = r.limit; upward = r.upward; needs = r.needs; rests = r.safes; place = r.place; number = r.number })) (sym (subst (λ js. heard (now_input i) js ≡ now_heard (round_of i).heard) (map-append now_input late early) (heard_same i (late ++ early) (more_then i (late ++ early) l o ls))) ∙ t)),
  unset k late early ls u.0,
)

past_same : (u : Rule) (late : List Input) → protecting.read_past_for (now_rule u) (now_inputs late) ≡ past_for u (rounds late)
past_same u [] = refl
past_same u (i ∷ late) = ap (λ x. cond (is_past u (get_or i.readings u.value 0)) (suc x) 0) (past_same u late)

lent_back : (late early : List Input) → AllThen (late ++ early) → AllThen early
lent_back [] early l = l
lent_back (i ∷ late) early l = lent_back late early (rest_of i (late ++ early) l)

derived_counts : (k : ℕ) (u : Rule) (late early : List Input) → AllThen (late ++ early) → k < 16 → u.value < 16 → (origin.after (rounds early)).rule k ≡ u → (origin.after (rounds early)).past k ≡ 0
    → Unset k (rounds late) (rounds early) → (origin.after (rounds (late ++ early))).past k ≡ past_for u (rounds late)
derived_counts k u late early l lt low e z n =
    let b = same early (lent_back late early l) in
    let all = same (late ++ early) l in
    let m = map-append now_input late early in
    sym (all.counts.each k lt) ∙ ap (λ (is : List Inputs). get_or (after is).counts k 0) m
    ∙ instruments_right k (now_rule u) (now_inputs late) (now_inputs early) (subst (AllLawful machine) m (all_lawful (late ++ early) l)) lt low (b.rules.each k lt ∙ ap now_rule e) (b.counts.each k lt ∙ z) (unset k late early l n)
    ∙ past_same u late

-- the states of a tick, now and then
abbrev s_of : List Input → State
s_of is = after (now_inputs is)

at_release_same : (i : Input) (is : List Input) → AllThen (i ∷ is) → Same (at_release (now_input i) (s_of is)) (at_waits i is)
at_release_same i is (more_then j js l o ls) =
    release_same (now_input i) (round_of i).reading (s_of is) (origin.after (rounds is)) (record { long = l.readings; each = λ k h. refl }) (after_orderly (rounds is)) (after_plain (now_inputs is) (rounds is) (raw_as_it_was is ls)) (same is ls)

before_same : (i : Input) (is : List Input) → AllThen (i ∷ is) → Same (at_reception (now_input i) (after (now_inputs is))) (due_done (at_waits i is))
before_same i is (more_then j js l o ls) =
    reception_same (now_input i) (round_of i).reading (s_of is) (origin.after (rounds is)) (record { long = l.readings; each = λ k h. refl }) (after_orderly (rounds is)) (after_plain (now_inputs is) (rounds is) (raw_as_it_was is ls)) (same is ls)

-- what waits at the release, and its time, of today and of then
waits_then : (i : Input) (is : List Input) → AllThen (i ∷ is) → (s_of is).schedule ≡ map now_wait (at_waits i is).waits
waits_then i is l = (same is (rest_of i is l)).waits ∙ ap (map now_wait) (sym (all_ruled_waits 16 (begins (round_of i).reading (origin.after (rounds is)))))

time_then : (i : Input) (is : List Input) → AllThen (i ∷ is) → suc (s_of is).time ≡ (at_waits i is).time
time_then i is l = ap suc (same is (rest_of i is l)).time ∙ sym (all_ruled_time 16 (begins (round_of i).reading (origin.after (rounds is))))

-- those that are due, of today and of then
dues : (i : Input) (is : List Input) → AllThen (i ∷ is) → due (suc (s_of is).time) (s_of is).schedule ≡ map now_wait (due_of (at_waits i is).time (at_waits i is).waits)
dues i is l = (λ k. due (time_then i is l k) (waits_then i is l k)) ∙ due_same (at_waits i is).time (at_waits i is).waits (all_coming (round_of i).reading (origin.after (rounds is)) (after_orderly (rounds is)))

derived_rest : (i : Input) (is : List Input) (k : ℕ) → AllThen (i ∷ is) → k < 64 → (at_waits i is).rest ≡ true → (due_done (at_waits i is)).value k ≡ (at_waits i is).value k
derived_rest i is k l lt e =
    let a = at_release_same i is l in
    let m = missed_in_safe_mode (now_input i) (now_inputs is) (a.rest ∙ e) in
    sym ((before_same i is l).values.each k lt) ∙ ap (λ (xs : List ℕ). get_or xs k 0) m.0 ∙ a.values.each k lt

derived_missed : (i : Input) (is : List Input) → AllThen (i ∷ is) → (at_waits i is).rest ≡ true → (due_done (at_waits i is)).missed ≡ (at_waits i is).missed + how_many (at_waits i is).time (at_waits i is).waits
derived_missed i is l e =
    let a = at_release_same i is l in
    let m = missed_in_safe_mode (now_input i) (now_inputs is) (a.rest ∙ e) in
    let n : length (due (suc (s_of is).time) (s_of is).schedule) ≡ how_many (at_waits i is).time (at_waits i is).waits = ap length (dues i is l) ∙ due_many (at_waits i is).time (at_waits i is).waits in
    let c : (s_of is).missed ≡ (at_waits i is).missed = ap (λ (u : State). u.missed) (sym (release_kept (now_input i) (s_of is))) ∙ a.missed in
    sym (before_same i is l).missed ∙ m.1 ∙ (λ k. c k + n k)

-- the last of its place and time then is the last for its place now
among_mapped : (b : Activity) (ws : List Wait) → scheduling.Among b (map now_wait ws) → (v : Wait) × Among v ws × (b ≡ now_wait v)
among_mapped b [] m = elim m [ ]
among_mapped b (v ∷ ws) m = ⊎_elim (λ e. (v, here ws, e)) (λ n. let x = among_mapped b ws n in (x.0, there v ws x.1, x.2)) (among_cons b (now_wait v) (map now_wait ws) m)

last_now : (p t : ℕ) (w : Wait) (ws : List Wait) → LastOf p t w ws → LastForPlace (now_wait w) (map now_wait ws)
last_now p t w us (last v ws ep et alone) = record {
  front = [];
  back = map now_wait ws;
  stands = refl;
  last = λ b m r d. (let x = among_mapped b ws m in alone x.0 x.1 (sym (ap (λ (y : Activity). y.place) x.2) ∙ d ∙ ep) (sym (ap (λ (y : Activity). y.release) x.2) ∙ r ∙ et));
}
last_now p t w us (further x v ws m) =
    let s = last_now p t w ws m in
    record { front = now_wait v ∷ s.front; back = s.back; stands = ap (λ (xs : List Activity). now_wait v ∷ xs) s.stands; last = s.last }

last_waits : (p t : ℕ) (w : Wait) (ws : List Wait) → LastOf p t w ws → Among w ws × (w.at ≡ t)
last_waits p t w us (last v ws ep et alone) = (here ws, et)
last_waits p t w us (further x v ws m) = let q = last_waits p t w ws m in (there v ws q.0, q.1)

derived_put : (i : Input) (is : List Input) (w : Wait) → AllThen (i ∷ is) → (at_waits i is).rest ≡ false → LastOf w.place (at_waits i is).time w (at_waits i is).waits → (due_done (at_waits i is)).value w.place ≡ w.number
derived_put i is w l e h =
    let a = at_release_same i is l in
    let m = last_waits w.place (at_waits i is).time w (at_waits i is).waits h in
    let low = (after_orderly (rounds is)).waits.places w (subst (Among w) (all_ruled_waits 16 (begins (round_of i).reading (origin.after (rounds is)))) m.0) in
    let last = subst (LastForPlace (now_wait w)) (sym (waits_then i is l)) (last_now w.place (at_waits i is).time w (at_waits i is).waits h) in
    sym ((before_same i is l).values.each w.place low.1)
    ∙ put_when_due (now_input i) (now_inputs is) (now_wait w) (all_lawful (i ∷ is) l) (a.rest ∙ e) last (m.1 ∙ sym (time_then i is l))

pub derived : Derived
derived = record {
  each_once = derived_each_once;
  comes_through = λ i is c l e. let ls = rest_of i is l in sym (same (i ∷ is) l).next ∙ (comes_through (now_input i) (now_inputs is) (now_command c) (turn i is c l e)).1 ∙ ap suc (same is ls).next;
  rest_at_once = λ i is l e. let ls = rest_of i is l in sym (same (i ∷ is) l).rest ∙ safe_at_once (now_input i) (now_inputs is) (turn i is sleep l e);
  never_late = λ is l w a. (let b = same is l in subst (λ t. t < w.at) b.time (never_late (now_inputs is) (now_wait w) (all_lawful is l) (subst (scheduling.Among (now_wait w)) (sym b.waits) (among_now w (origin.after (rounds is)).waits a))));
  kept_till_due = derived_kept;
  counts_right = derived_counts;
  reads_right = λ i is k l lt. (let ls = rest_of i is l in sym ((same (i ∷ is) l).values.each k (omega arith)) ∙ reads_right (now_input i) (now_inputs is) k (first_lawful i is l) (all_lawful is ls) lt);
  rest_is_rest = derived_rest;
  missed_at_rest = derived_missed;
  put_when_due = derived_put;
  few_waits = λ is l. (let b = same is l in let z = (keeps_sizes (now_inputs is) (all_lawful is l)).schedule in let e = ap length b.waits ∙ length-map (origin.after (rounds is)).waits now_wait in omega arith);
}
  where
    first_lawful : (i : Input) (is : List Input) → AllThen (i ∷ is) → Lawful (now_input i)
    first_lawful i is (more_then j js l o ls) = lent_lawful i l
