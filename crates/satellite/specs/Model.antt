-- The state that a satellite of the code is.
use Rattle.schedule.specs.Waiting.{waiting}
use Rattle.rules.specs.Monitors.{rules_of, counts_of}
use Rattle.satellite.specs.State.{State}
use Rattle.satellite.specs.declared.state.Satellite.{Satellite}

abbrev pub model : Satellite → State
model s = record {
  time = s.time;
  expected = s.expected;
  safe_mode = s.safe_mode;
  rejected = s.rejected;
  missed = s.missed;
  parameters = s.parameters.values;
  schedule = waiting s.schedule;
  rules = rules_of s.rules;
  counts = counts_of s.rules;
}
