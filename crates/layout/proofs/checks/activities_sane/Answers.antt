use Rattle.std.proofs.Common.{ℕ, get_or, refl, arith, rules, tests}
use Rattle.std.proofs.lemmas.Iterator.{YieldsList-from_range, cases_from_all}
use Rattle.layout.specs.Fault.{Later, MayPut}
use Rattle.layout.proofs.Sanity.{each_of}
use Rattle.layout.specs.Map.{waiting_at}
use Rattle.layout.proofs.checks.activities_sane.Goals as goal

pub returns : goal.returns
returns c =
    each_of (get_or c.args.words.now waiting_at 0) (λ i. Later c.args.words.now i × MayPut c.args.words.now i) c.all.result _
    (cases_from_all _ _ c.all.result (λ i. Later c.args.words.now i × MayPut c.args.words.now i) (λ i. ℕ) c.all.ensures.ran (YieldsList-from_range 0 (get_or c.args.words.now waiting_at 0) (get_or c.args.words.now waiting_at 0) refl (omega arith)) (λ x q k. search (rules, tests)) (λ x q k. 0))
