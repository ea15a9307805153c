-- Telecommand frames: when twelve numbers are a whole frame, which command a frame carries,
-- and the frame of a command.
use Rattle.std.specs.Prelude.{ℕ, zero, suc, ◌+◌, ◌*◌, ◌%◌, Bool, true, cond, ◌&&◌, List, [], ◌∷◌, ◌++◌, length, Some, None, Option, ◌==◌, nat_le, slice_index, slice_set}
use Rattle.std.specs.List.{list_all}
use Rattle.rules.specs.Numbers.{rule_numbers, rule_from}
use Rattle.schedule.specs.Numbers.{activity_numbers, activity_from}
use Rattle.frame.specs.declared.Command.{Command}
use Rattle.frame.specs.declared.Telecommand.{Telecommand}

-- every number is below 2^32
abbrev pub all_small : List ℕ → Bool
all_small xs = list_all (λ x. nat_le x 4294967295) xs

-- the first n numbers, each times one more than its place, added
unfoldable pub weighed : ℕ → List ℕ → ℕ
weighed zero f = 0
weighed (suc n) f = weighed n f + suc n * slice_index f n

unfoldable pub check_of : List ℕ → ℕ
check_of f = weighed 11 f % 65521

abbrev pub is_whole : List ℕ → Bool
is_whole f = length f == 12 && (all_small f && slice_index f 11 == check_of f)

-- the second number is the kind, the nine after it are arguments
abbrev pub command_of : List ℕ → Command
command_of f =
    cond (slice_index f 1 == 0) (Command.Put (slice_index f 2) (slice_index f 3))
    (cond (slice_index f 1 == 1) (Command.Later (activity_from (λ j. slice_index f (2 + j))))
    (cond (slice_index f 1 == 2) Command.Forget
    (cond (slice_index f 1 == 3) Command.Sleep
    (cond (slice_index f 1 == 4) Command.Wake
    (cond (slice_index f 1 == 5)
    (Command.SetRule (slice_index f 2) (rule_from (λ j. slice_index f (3 + j))))
    (Command.Unknown (slice_index f 1)))))))

-- what a frame carries: nothing if it is not whole
abbrev pub decoded : List ℕ → Option Telecommand
decoded f =
    cond (is_whole f) (Some (record { number = slice_index f 0; command = command_of f })) None

-- the number by which a frame says what it commands
abbrev pub kind_of : Command → ℕ
kind_of (Command.Put a b) = 0
kind_of (Command.Later a) = 1
kind_of Command.Forget = 2
kind_of Command.Sleep = 3
kind_of Command.Wake = 4
kind_of (Command.SetRule k r) = 5
kind_of (Command.Unknown k) = k

-- so many kinds there are, counted from 0: a larger number is of none
abbrev pub kinds : ℕ
kinds = 6

-- whether a command is what its kind is read as
abbrev pub is_kind : Command → Bool
is_kind (Command.Unknown k) = nat_le kinds k
is_kind _ = true

-- what a frame says of a command besides its kind
abbrev pub arguments_of : Command → List ℕ
arguments_of (Command.Put a b) = a ∷ (b ∷ [])
arguments_of (Command.Later a) = activity_numbers a
arguments_of (Command.SetRule k r) = k ∷ rule_numbers r
arguments_of _ = []

-- nine numbers, with noughts behind those that there are
abbrev pub padded : List ℕ → List ℕ
padded xs =
    slice_index xs 0 ∷ (slice_index xs 1 ∷ (slice_index xs 2 ∷ (slice_index xs 3 ∷
    (slice_index xs 4 ∷ (slice_index xs 5 ∷ (slice_index xs 6 ∷ (slice_index xs 7 ∷
    (slice_index xs 8 ∷ []))))))))

-- the frame of a telecommand before its check is worked out
abbrev pub body : Telecommand → List ℕ
body t = t.number ∷ (kind_of t.command ∷ (padded (arguments_of t.command) ++ (0 ∷ [])))

abbrev pub encoded : Telecommand → List ℕ
encoded t = slice_set (body t) 11 (check_of (body t))

-- its numbers are below 2^32 and its kind is its own
abbrev pub encodable : Telecommand → Bool
encodable t = all_small (body t) && is_kind t.command

abbrev pub encoding : Telecommand → Option (List ℕ)
encoding t = cond (encodable t) (Some (encoded t)) None

-- the numbers that come up in a tick: none if no frame does
abbrev pub come_up : Option (List ℕ) → List ℕ
come_up None = []
come_up (Some f) = f
