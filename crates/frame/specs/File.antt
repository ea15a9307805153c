-- A file of commands: they are numbered from 0, in their order.
use Rattle.std.specs.Prelude.{◌≡◌, ℕ, ◌<◌, true, List, length, slice_index_or}
use Rattle.frame.specs.declared.Command.{Command}
use Rattle.frame.specs.declared.Telecommand.{Telecommand}
use Rattle.frame.specs.Frame.{encodable}

-- command n of a file, with its number
abbrev pub telecommand_of : List Command → ℕ → Telecommand
telecommand_of cs n = record { number = n; command = slice_index_or cs n Command.Sleep }

-- a file whose commands can all be sent
abbrev pub Sendable : List Command → Type 0
Sendable cs = (n : ℕ) → n < length cs → encodable (telecommand_of cs n) ≡ true
