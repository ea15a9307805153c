use Rattle.std.proofs.Common.{ap, ◌∙◌, arith}
use Rattle.satellite.specs.State.{State}
use Rattle.layout.specs.Map.{words_of}
use Rattle.flight.specs.Flight.{keeper}
use Rattle.onboard.proofs.Entering.{launched_right, not_launched}
use Rattle.onboard.proofs.launch.Goals as goal

pub returns-then-memory-ne-MEMORY_LENGTH : goal.returns-then-memory-ne-MEMORY_LENGTH
returns-then-memory-ne-MEMORY_LENGTH c = not_launched c.args.memory.now c.if-memory-ne-MEMORY_LENGTH.true

pub returns : goal.returns
returns c =
    launched_right c.args.memory.now c.write_back.new.memory (omega arith) (c.write_back.ensures ∙ ap (λ (s : State). keeper.stored (words_of s)) c.at_launch.ensures)
