use Rattle.std.proofs.Common.{length, take, drop, ap, ◌∙◌, arith, length-append}
use Rattle.std.proofs.lemmas.List.{take_at, length-drop}
use Rattle.flight.specs.Flight.{keeper}
use Rattle.onboard.proofs.write_back.Goals as goal
use Rattle.layout.specs.Map.{word_count}
use Rattle.onboard.proofs.write_back.Goals.{in-Some, in_default}

pub returns : goal.returns
returns c =
    elim c.match-first_chunk_mut.branch [
      | in-Some w ↦ let first = w.write_words.new.words in let rest = drop word_count c.args.memory.now in
          c.keep.ensures ∙ ap keeper.stored (ap (take word_count) w.memory-is ∙ take_at first rest word_count (omega (arith, ap length w.memory-is, length-append first rest, length-drop word_count c.args.memory.now)) ∙ w.write_words.ensures)
      | in_default w ↦ let e = w.in_default.ensures in absurd (omega arith)
    ]
