use Rattle.std.proofs.Common.{◌+◌, get_or, take, sym, refl, arith, take-append-drop}
use Rattle.std.proofs.lemmas.List.{take_more, length-take-le}
use Rattle.schedule.specs.Waiting.{no_activity}
use Rattle.layout.specs.Map.{activity_words, activity_size, activities_at}
use Rattle.layout.proofs.Units.{laid_one}
use Rattle.layout.proofs.write.lay_activities.Goals as goal

pub loop-k-init : goal.loop-k-init
loop-k-init c = sym (take-append-drop activities_at c.args.words.now)

pub loop-k-preserved : goal.loop-k-preserved
loop-k-preserved c =
    let a = c.args.waiting.now in
    laid_one activity_size activity_words (λ x. refl) activities_at c.loop-k.k c.args.words.now c.from-numbers.result c.loop-k.words c.lay.new.words
    (take c.loop-k.k a) (take (c.loop-k.k + 1) a) (get_or a c.loop-k.k no_activity) (length-take-le c.loop-k.k a (omega arith)) (take_more a c.loop-k.k no_activity (omega arith))
    c.from-numbers.ensures (omega arith) c.loop-k.invariant c.lay.ensures.laid
