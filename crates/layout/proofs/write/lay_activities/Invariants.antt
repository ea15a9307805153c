use Rattle.std.proofs.Common.{◌≡◌, ◌+◌, ◌*◌, ◌++◌, take, drop}
use Rattle.std.specs.List.{flat_map}
use Rattle.layout.specs.Map.{activity_words, activity_size, activities_at}
use Rattle.layout.proofs.write.lay_activities.Given as goal

abbrev pub invariant-loop-k : goal.invariant-loop-k
invariant-loop-k l = l.words ≡ take activities_at l.initial.words ++ (flat_map activity_words (take l.k l.waiting) ++ drop (activities_at + activity_size * l.k) l.initial.words)
