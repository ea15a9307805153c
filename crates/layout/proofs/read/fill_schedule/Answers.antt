use Rattle.std.proofs.Common.{◌++◌, [], ◌∷◌, length, map, sym, ap, ◌∙◌, arith}
use Rattle.std.specs.List.{range_with_len}
use Rattle.std.proofs.lemmas.List.FromFn.{length-map-range_with_len, map-range_with_len_more}
use Rattle.layout.specs.Map.{activity_at, schedule_in}
use Rattle.layout.proofs.read.fill_schedule.Goals as goal

pub add-requires : goal.add-requires
add-requires c = omega (arith, ap length c.loop-k.invariant, length-map-range_with_len (activity_at c.args.words.now) 0 c.loop-k.k)

pub loop-k-preserved : goal.loop-k-preserved
loop-k-preserved c =
    c.add.ensures ∙ (λ i. c.loop-k.invariant i ++ (c.activity.ensures i ∷ [])) ∙ sym (map-range_with_len_more (activity_at c.args.words.now) 0 c.loop-k.k c.loop-k.k (omega arith))

pub returns : goal.returns
unfolding schedule_in
returns c = c.loop-k.invariant ∙ ap (λ n. map (activity_at c.args.words.now) (range_with_len 0 n)) (omega arith)
