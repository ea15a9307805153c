-- Commands over a line that loses, doubles and delays: each is obeyed once, in order, none left
-- out.
use Rattle.std.specs.Prelude.{◌≡◌, ℕ, zero, suc, true, cond, List, [], ◌∷◌, Some, None, Option, ◌==◌}
use Rattle.frame.specs.declared.Command.{Command}
use Rattle.frame.specs.declared.Telecommand.{Telecommand}
use Rattle.satellite.specs.Story.{Inputs, received, at_reception}
use Rattle.flight.specs.Flight.{after}

-- what is received in a tick after a history
abbrev pub heard : Inputs → List Inputs → Option Telecommand
heard i is = received i (at_reception i (after is))

-- the command with the expected number comes up in a tick
abbrev pub Turn : Inputs → List Inputs → Command → Type 0
Turn i is c = heard i is ≡ Some (record { number = (after is).expected; command = c })

-- the ground numbers its commands from 0; whatever comes up is one of them under its number, as
-- often, as late and in whatever order it likes
abbrev pub FromGround : (sent : ℕ → Command) → List Inputs → Type 0
FromGround sent [] = Unit {0}
FromGround sent (i ∷ is) =
    ((t : Telecommand) → heard i is ≡ Some t → t.command ≡ sent t.number) × FromGround sent is

-- the commands obeyed in a history, the latest first: those that came up when their number was
-- expected
abbrev pub obeyed_with : Option Telecommand → ℕ → List Command → List Command
obeyed_with None n cs = cs
obeyed_with (Some t) n cs = cond (t.number == n) (t.command ∷ cs) cs

abbrev pub obeyed_in : List Inputs → List Command
obeyed_in [] = []
obeyed_in (i ∷ is) = obeyed_with (heard i is) (after is).expected (obeyed_in is)

-- the first n commands that the ground numbered, the latest first
abbrev pub first_sent : (sent : ℕ → Command) → ℕ → List Command
first_sent sent zero = []
first_sent sent (suc n) = sent n ∷ first_sent sent n

-- each is obeyed once, in order, none left out
abbrev pub EachOnce : Type 0
EachOnce =
    (sent : ℕ → Command) (is : List Inputs) → FromGround sent is
    → obeyed_in is ≡ first_sent sent (after is).expected

-- a command that has the expected number comes through
abbrev pub ComesThrough : Type 0
ComesThrough =
    (i : Inputs) (is : List Inputs) (c : Command) → Turn i is c
    → (obeyed_in (i ∷ is) ≡ c ∷ obeyed_in is)
    × ((after (i ∷ is)).expected ≡ suc (after is).expected)

-- safe mode is had in the tick in which it is commanded
abbrev pub SafeAtOnce : Type 0
SafeAtOnce =
    (i : Inputs) (is : List Inputs) → Turn i is Command.Sleep → (after (i ∷ is)).safe_mode ≡ true
