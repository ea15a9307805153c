-- What a command changes, that nothing else changes with it, and what the counters count.
use Rattle.std.specs.Prelude.{◌≡◌, ℕ, suc, ◌+◌, ◌<◌, ◌≤◌, true, false, cond, not, ◌&&◌, ◌⊎◌, List, [], ◌∷◌, ◌++◌, length, Some, None, Option, ◌==◌, ◌≢◌, slice_index, slice_set}
use Rattle.schedule.specs.declared.activity.Activity.{Activity}
use Rattle.rules.specs.declared.rule.Rule.{Rule}
use Rattle.rules.specs.Watching.{off}
use Rattle.frame.specs.declared.Command.{Command}
use Rattle.frame.specs.declared.Telecommand.{Telecommand}
use Rattle.satellite.specs.State.{State, with_time, with_expected, with_safe_mode, with_rejected, with_missed, with_parameters, with_schedule, with_rules, with_counts, parameter, rule, count}
use Rattle.satellite.specs.Story.{Inputs, can, at_reception}
use Rattle.layout.specs.Map.{Sized}
use Rattle.flight.specs.Flight.{Lawful, machine, after}
use Rattle.flight.specs.Machine.{AllLawful}
use Rattle.flight.specs.Commanding.{heard, Turn}

-- that state with the next command expected
abbrev pub next_expected : Inputs → List Inputs → State
next_expected i is = with_expected (suc (after is).expected) (at_reception i (after is))

-- numbers may be put at places 16 to 63
abbrev pub PutPlace : ℕ → Type 0
PutPlace a = (16 ≤ a) × (a ≤ 63)

-- a command that has its turn in a tick, and can be done, has its effect, and only that
pub record CommandActs (i : Inputs) (is : List Inputs) : Type 0 where
  pub put : (a b : ℕ) → Turn i is (Command.Put a b) → PutPlace a
      → after (i ∷ is)
      ≡ with_parameters (slice_set (at_reception i (after is)).parameters a b)
      (next_expected i is)
  pub later : (a : Activity) → Turn i is (Command.Later a)
      → PutPlace a.place → (at_reception i (after is)).time < a.release
      → length (at_reception i (after is)).schedule < 32
      → after (i ∷ is)
      ≡ with_schedule ((at_reception i (after is)).schedule ++ (a ∷ [])) (next_expected i is)
  pub forget : Turn i is Command.Forget
      → after (i ∷ is) ≡ with_schedule [] (next_expected i is)
  pub sleep : Turn i is Command.Sleep
      → after (i ∷ is) ≡ with_safe_mode true (next_expected i is)
  pub wake : Turn i is Command.Wake
      → after (i ∷ is) ≡ with_safe_mode false (next_expected i is)
  pub set_rule : (k : ℕ) (r : Rule)
      → Turn i is (Command.SetRule k r) → k < 16 → r.watches ≤ 63
      → (r.safes ≡ true) ⊎ PutPlace r.place
      → after (i ∷ is)
      ≡ with_rules (slice_set (at_reception i (after is)).rules k r)
      (with_counts (slice_set (at_reception i (after is)).counts k 0) (next_expected i is))

abbrev pub CommandsAct : Type 0
CommandsAct = (i : Inputs) (is : List Inputs) → CommandActs i is

-- what cannot be done in a state
pub data Undoable (s : State) : Command → Type 0 where
  put_low : (a b : ℕ) → a < 16 → Undoable s (Command.Put a b)
  put_high : (a b : ℕ) → 63 < a → Undoable s (Command.Put a b)
  later_low : (a : Activity) → a.place < 16 → Undoable s (Command.Later a)
  later_high : (a : Activity) → 63 < a.place → Undoable s (Command.Later a)
  later_past : (a : Activity) → a.release ≤ s.time → Undoable s (Command.Later a)
  later_full : (a : Activity) → 32 ≤ length s.schedule → Undoable s (Command.Later a)
  rule_none : (k : ℕ) (r : Rule) → 16 ≤ k → Undoable s (Command.SetRule k r)
  rule_blind : (k : ℕ) (r : Rule) → 63 < r.watches → Undoable s (Command.SetRule k r)
  rule_low : (k : ℕ) (r : Rule) → r.safes ≡ false → r.place < 16 → Undoable s (Command.SetRule k r)
  rule_high : (k : ℕ) (r : Rule) → r.safes ≡ false → 63 < r.place → Undoable s (Command.SetRule k r)
  no_kind : (kind : ℕ) → Undoable s (Command.Unknown kind)

-- what is not its turn, or is not whole, is as if it had not come; what cannot be done changes the
-- two counters and nothing else
pub record IgnoresElse (i : Inputs) (is : List Inputs) : Type 0 where
  pub nothing_came : heard i is ≡ None
      → after (i ∷ is) ≡ at_reception i (after is)
  pub not_its_turn : (t : Telecommand) → heard i is ≡ Some t
      → (t.number ≢ (after is).expected) → after (i ∷ is) ≡ at_reception i (after is)
  pub undoable : (c : Command) → Turn i is c
      → Undoable (at_reception i (after is)) c
      → after (i ∷ is)
      ≡ with_rejected (suc (at_reception i (after is)).rejected) (next_expected i is)

abbrev pub ElseIgnored : Type 0
ElseIgnored = (i : Inputs) (is : List Inputs) → IgnoresElse i is

-- until its command a tick leaves the expected number, the rejected ones and the rules as they
-- were, and time goes on by one
abbrev pub TickKeeps : Type 0
TickKeeps =
    (i : Inputs) (s : State)
    → at_reception i s ≡
    with_time (suc s.time)
    (with_safe_mode (at_reception i s).safe_mode (with_missed (at_reception i s).missed
    (with_parameters (at_reception i s).parameters
    (with_schedule (at_reception i s).schedule (with_counts (at_reception i s).counts s)))))

-- after a tick the first sixteen parameters are what was read in it
abbrev pub ReadsRight : Type 0
ReadsRight =
    (i : Inputs) (is : List Inputs) (k : ℕ) → Lawful i → AllLawful machine is → k < 16
    → parameter (after (i ∷ is)) k ≡ slice_index i.readings k

-- there are always 64 parameters, at most 32 activities, 16 rules and 16 counts
abbrev pub KeepsSizes : Type 0
KeepsSizes = (is : List Inputs) → AllLawful machine is → Sized (after is)

-- time is the number of ticks
abbrev pub TimeRight : Type 0
TimeRight = (is : List Inputs) → (after is).time ≡ length is

-- how many of the commands whose turn came could not be done
abbrev pub turned_down : Option Telecommand → State → ℕ
turned_down None s = 0
turned_down (Some t) s = cond (t.number == s.expected && not (can s t.command)) 1 0

abbrev pub rejections : List Inputs → ℕ
rejections [] = 0
rejections (i ∷ is) = rejections is + turned_down (heard i is) (at_reception i (after is))

abbrev pub RejectedRight : Type 0
RejectedRight = (is : List Inputs) → (after is).rejected ≡ rejections is

-- at launch
pub record LaunchesRight : Type 0 where
  pub time : (after []).time ≡ 0
  pub expected : (after []).expected ≡ 0
  pub safe_mode : (after []).safe_mode ≡ true
  pub rejected : (after []).rejected ≡ 0
  pub missed : (after []).missed ≡ 0
  pub parameters : (k : ℕ) → parameter (after []) k ≡ 0
  pub schedule : (after []).schedule ≡ []
  pub rules : (k : ℕ) → rule (after []) k ≡ off
  pub counts : (k : ℕ) → count (after []) k ≡ 0
