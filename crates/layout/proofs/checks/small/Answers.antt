use Rattle.std.proofs.Common.{ℕ, List, arith, rules, tests}
use Rattle.std.proofs.lemmas.Bool.{leb-true}
use Rattle.std.proofs.lemmas.Fn.{fold_over, fronts}
use Rattle.std.proofs.lemmas.Iterator.{YieldsList-from_slice}
use Rattle.layout.proofs.Sanity.{Within, within_more}
use Rattle.layout.proofs.checks.small.Goals as goal

pub returns : goal.returns
returns c =
    let ws : List ℕ = c.args.words.now in
    let all : Within ws c.fold.result =
    fold_over fronts (λ w. w.now) _ Within _ (λ ys a x b q h e. let m = within_more ys a x.now h in (search (rules, tests), search (rules, tests))) c.iter.result ws 0 c.fold.result (YieldsList-from_slice {s = c.iter.result} ws (cc)).runs (λ k l. absurd (omega arith)) c.fold.ensures.ran in
    λ e k lt. omega (arith, all k (omega arith), leb-true c.fold.result 4611686018427387904 e)
