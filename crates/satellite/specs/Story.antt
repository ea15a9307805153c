-- What the satellite does in a tick, as steps from state to state.
use Rattle.std.specs.Prelude.{ℕ, zero, suc, ◌+◌, Bool, true, false, cond, ◌&&◌, List, [], ◌∷◌, ◌++◌, length, Some, None, Option, ◌==◌, nat_lt, slice_set}
use denote.Ref.{Bor}
use Rattle.schedule.specs.declared.activity.Activity.{Activity}
use Rattle.schedule.specs.declared.activity.Fate.{Fate}
use Rattle.schedule.specs.Waiting.{fate_of, fated, is_waiting, is_missed, is_done, put_all}
use Rattle.rules.specs.declared.rule.Rule.{Rule}
use Rattle.rules.specs.Watching.{next_count, acts, may_set}
use Rattle.frame.specs.declared.Command.{Command}
use Rattle.frame.specs.declared.Telecommand.{Telecommand}
use Rattle.frame.specs.Frame.{decoded}
use Rattle.parameters.specs.Places.{may_put, read_in}
use Rattle.satellite.specs.State.{State, with_time, with_expected, with_safe_mode, with_rejected, with_missed, with_parameters, with_schedule, with_counts, parameter, rule, count}

-- what a tick is given: sixteen readings, and the numbers of a frame, none if no frame came up
pub record Inputs : Type 0 where
  pub readings : List ℕ
  pub frame : List ℕ

-- the numbers of the frame that came up: none if none did
abbrev pub came_up : Option (Bor (List ℕ)) → List ℕ
came_up None = []
came_up (Some frame) = frame.now

-- time goes on by one and the instruments are read
abbrev pub begun : List ℕ → State → State
begun readings s = with_time (suc s.time) (with_parameters (read_in readings s.parameters) s)

-- a rule is looked at: its count is one more if its parameter is past, else 0
abbrev pub looked : ℕ → State → ℕ
looked k s = next_count (rule s k) (parameter s (rule s k).watches) (count s k)

abbrev pub counted : ℕ → State → State
counted k s = with_counts (slice_set s.counts k (looked k s)) s

-- what a rule does when it acts
abbrev pub acted : Rule → State → State
acted r s =
    cond r.safes (with_safe_mode true s)
    (with_parameters (slice_set s.parameters r.place r.number) s)

abbrev pub watched_one : ℕ → State → State
watched_one k s =
    cond (acts (rule s k) (looked k s)) (acted (rule s k) (counted k s)) (counted k s)

-- the first n rules are looked at, each after what the ones before it did
unfoldable pub watched : ℕ → State → State
watched zero s = s
watched (suc k) s = watched_one k (watched k s)

-- what becomes of an activity in a state
abbrev pub fate_in : State → Activity → Fate
fate_in s a = fate_of a s.time s.safe_mode

-- activities whose time it is put their numbers in their order, or in safe mode are counted as
-- missed; either way they are gone
abbrev pub released : State → State
released s =
    with_schedule (fated is_waiting (fate_in s) s.schedule)
    (with_parameters (put_all (fated is_done (fate_in s) s.schedule) s.parameters)
    (with_missed (s.missed + length (fated is_missed (fate_in s) s.schedule)) s))

-- whether a command can be done now; each is named, so that none is permitted by default
abbrev pub can : State → Command → Bool
can s (Command.Put place number) = may_put place
can s (Command.Later activity) =
    may_put activity.place && (nat_lt s.time activity.release && nat_lt (length s.schedule) 32)
can s Command.Forget = true
can s Command.Sleep = true
can s Command.Wake = true
can s (Command.SetRule index new) = nat_lt index 16 && may_set new
can s (Command.Unknown kind) = false

-- what a command makes of each part of the state: what is not named leaves it
abbrev pub parameters_by : Command → List ℕ → List ℕ
parameters_by (Command.Put place number) xs = slice_set xs place number
parameters_by _ xs = xs

abbrev pub schedule_by : Command → List Activity → List Activity
schedule_by (Command.Later activity) xs = xs ++ (activity ∷ [])
schedule_by Command.Forget xs = []
schedule_by _ xs = xs

abbrev pub safe_mode_by : Command → Bool → Bool
safe_mode_by Command.Sleep b = true
safe_mode_by Command.Wake b = false
safe_mode_by _ b = b

-- a rule that is set begins from 0
abbrev pub rules_by : Command → List Rule → List Rule
rules_by (Command.SetRule index new) rs = slice_set rs index new
rules_by _ rs = rs

abbrev pub counts_by : Command → List ℕ → List ℕ
counts_by (Command.SetRule index new) ns = slice_set ns index 0
counts_by _ ns = ns

-- what a command does that can be done; time and the counters it leaves
abbrev pub done : State → Command → State
done s c = record s {
  parameters = parameters_by c s.parameters;
  schedule = schedule_by c s.schedule;
  safe_mode = safe_mode_by c s.safe_mode;
  rules = rules_by c s.rules;
  counts = counts_by c s.counts;
}

abbrev pub rejecting : State → State
rejecting s = with_rejected (suc s.rejected) s

abbrev pub expecting_next : State → State
expecting_next s = with_expected (suc s.expected) s

-- the expected command is done, or counted as rejected, and then the next one is expected; any
-- other is as if it had not come
abbrev pub obeyed : Telecommand → State → State
obeyed t s =
    cond (t.number == s.expected)
    (expecting_next (cond (can s t.command) (done s t.command) (rejecting s)))
    s

-- what is received of the inputs, in the state in which it comes up: nothing, or a telecommand
abbrev pub received : Inputs → State → Option Telecommand
received i s = decoded i.frame

abbrev pub heeded : Option Telecommand → State → State
heeded None s = s
heeded (Some t) s = obeyed t s

-- the state in which activities are released, and the state in which a frame is looked at
unfoldable pub at_release : Inputs → State → State
at_release i s = watched 16 (begun i.readings s)

unfoldable pub at_reception : Inputs → State → State
at_reception i s = released (at_release i s)

-- a tick
unfoldable pub ticked : Inputs → State → State
ticked i s = heeded (received i (at_reception i s)) (at_reception i s)
