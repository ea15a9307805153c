-- What each event of a flight text does to the satellite's memory and to what its next tick gets.
use Rattle.std.specs.Prelude.{◌≡◌, ℕ, ◌+◌, ◌*◌, cond, ◌&&◌, ◌⊎◌, List, [], ◌∷◌, length, replicate, Some, None, Ok, Err, Option, Result, nat_lt, slice_set}
use Rattle.frame.specs.declared.Command.{Command}
use Rattle.frame.specs.Frame.{encoding, come_up}
use Rattle.satellite.specs.State.{at_launch}
use Rattle.layout.specs.Map.{word_count, words_of}
use Rattle.text.specs.declared.event.Event.{Event}
use Rattle.refusal.specs.declared.Refusal.{Refusal}
use Rattle.onboard.specs.Entry.{Says, GoesOn}
use Rattle.flight.specs.Flight.{keeper}
use Rattle.mission.specs.declared.aloft.Aloft.{Aloft}
use Rattle.mission.specs.declared.aloft.Output.{Output}

-- an instrument reads a value in the next tick
abbrev pub with_reading : ℕ → ℕ → List ℕ → List ℕ
with_reading i v rs = cond (nat_lt i 16 && nat_lt v 65536) (slice_set rs i v) rs

-- a frame comes up in the next tick; of a telecommand that no frame can carry nothing comes
abbrev pub with_frame : Option (List ℕ) → Option (List ℕ) → Option (List ℕ)
with_frame None before = before
with_frame (Some f) before = Some f

abbrev pub up_frame : ℕ → Command → Option (List ℕ)
up_frame n c = encoding (record { number = n; command = c })

-- radiation changes a copy of a word
abbrev pub with_hit : (c w v : ℕ) → List ℕ → List ℕ
with_hit c w v m = cond (nat_lt c 3 && nat_lt w word_count) (slice_set m (c * word_count + w) v) m

-- the report, unless the call was refused
abbrev pub output_of : Result (Unit {0}) Refusal → List ℕ → Output
output_of (Ok u) report = record { 0 = Ok report }
output_of (Err r) report = record { 0 = Err r }

-- a call of the entry does what its contract says, both that of any memory and that of flights
pub record Calls (a : Aloft) (done : Result (Unit {0}) Refusal) (memory report : List ℕ)
    : Type 0 where
  pub readings : length a.readings ≡ 16
  pub frame : (length (come_up a.frame) ≡ 0) ⊎ (length (come_up a.frame) ≡ 12)
  pub says : Says done a.memory a.readings (come_up a.frame) (replicate 8 0) memory report
  pub flies : GoesOn done a.memory a.readings (come_up a.frame) (replicate 8 0) memory report

-- a tick is such a call, after which nothing is said of the next tick yet
pub record Ticks (a b : Aloft) (o : Output) : Type 0 where
  pub done : Result (Unit {0}) Refusal
  pub report : List ℕ
  pub calls : Calls a done b.memory report
  pub told : o ≡ output_of done report
  pub readings : b.readings ≡ replicate 16 0
  pub frame : b.frame ≡ None

abbrev pub Steps : Aloft → Event → Aloft → Option Output → Type 0
Steps a (Event.Read i v) b o =
    (o ≡ None) × (b ≡ record a { readings = with_reading i v a.readings })
Steps a (Event.Up n c) b o =
    (o ≡ None) × (b ≡ record a { frame = with_frame (up_frame n c) a.frame })
Steps a (Event.Frame f) b o = (o ≡ None) × (b ≡ record a { frame = Some f })
Steps a (Event.Hit c w v) b o = (o ≡ None) × (b ≡ record a { memory = with_hit c w v a.memory })
Steps a Event.Tick b o = (x : Output) × (o ≡ Some x) × Ticks a b x

abbrev pub and_then : Option Output → List Output → List Output
and_then None os = os
and_then (Some o) os = o ∷ os

-- from launch, after these events, the latest first, it is aloft like this and gave these outputs,
-- the latest first. All of memory at launch is known, and so all outputs are, whatever the hits
pub data Ran : List Event → Aloft → List Output → Type 0 where
  launched : (a : Aloft) → a.memory ≡ keeper.stored (words_of at_launch)
      → a.readings ≡ replicate 16 0 → a.frame ≡ None → Ran [] a []
  stepped : (e : Event) (es : List Event) (a b : Aloft) (o : Option Output)
      (os : List Output) → Ran es a os → Steps a e b o → Ran (e ∷ es) b (and_then o os)
