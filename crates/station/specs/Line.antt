-- The ground's end of the line: which frame it sends next, and what it knows.
use Rattle.std.specs.Prelude.{ℕ, cond, List, length, Some, None, Option, nat_lt}
use Rattle.frame.specs.declared.Command.{Command}
use Rattle.frame.specs.File.{telecommand_of}
use Rattle.frame.specs.Frame.{encoding}
use Rattle.telemetry.specs.declared.Report.{Report}

-- the frame of command n, none if the file ends before it
abbrev pub frame_for : List Command → ℕ → Option (List ℕ)
frame_for cs n = cond (nat_lt n (length cs)) (encoding (telecommand_of cs n)) None

-- the number that the latest report expects; 0 before any was heard
abbrev pub expected_of : Option Report → ℕ
expected_of None = 0
expected_of (Some r) = r.expected

abbrev pub rejected_of : Option Report → ℕ
rejected_of None = 0
rejected_of (Some r) = r.rejected

-- of two reports the one of the later tick: reports may come late and double too
abbrev pub later_of : Option Report → Report → Report
later_of None r = r
later_of (Some l) r = cond (nat_lt r.time l.time) l r
