-- What a report says of the satellite, and its eight numbers.
use Rattle.std.specs.Prelude.{ℕ, cond, ◌&&◌, List, [], ◌∷◌, length, Some, None, Option, ◌==◌, nat_le, slice_index}
use Rattle.satellite.specs.State.{State, parameter}
use Rattle.telemetry.specs.declared.Report.{Report}

abbrev pub report_of : State → Report
report_of s = record {
  time = s.time;
  expected = s.expected;
  safe_mode = s.safe_mode;
  rejected = s.rejected;
  missed = s.missed;
  waiting = length s.schedule;
  first = parameter s 0;
  second = parameter s 1;
}

-- in safe mode the third number is 1, else 0
abbrev pub numbers_of : Report → List ℕ
numbers_of r =
    r.time
    ∷ (r.expected
    ∷ (cond r.safe_mode 1 0
    ∷ (r.rejected ∷ (r.missed ∷ (r.waiting ∷ (r.first ∷ (r.second ∷ [])))))))

-- what eight numbers report: nothing if they are not eight, or if the mark is neither 0 nor 1
abbrev pub reported : List ℕ → Option Report
reported xs =
    cond (length xs == 8 && nat_le (slice_index xs 2) 1)
    (Some (record {
      time = slice_index xs 0;
      expected = slice_index xs 1;
      safe_mode = (slice_index xs 2 == 1);
      rejected = slice_index xs 3;
      missed = slice_index xs 4;
      waiting = slice_index xs 5;
      first = slice_index xs 6;
      second = slice_index xs 7;
    }))
    None
