use Rattle.std.proofs.Common.{ℕ, refl, rules, tests}
use Rattle.std.proofs.lemmas.Iterator.{YieldsList-from_range, cases_from_all}
use Rattle.layout.specs.Fault.{Watches, Puts}
use Rattle.layout.proofs.Sanity.{each_of}
use Rattle.layout.proofs.checks.rules_sane.Goals as goal

pub returns : goal.returns
returns c =
    each_of 16 (λ i. Watches c.args.words.now i × Puts c.args.words.now i) c.all.result _
    (cases_from_all _ _ c.all.result (λ i. Watches c.args.words.now i × Puts c.args.words.now i) (λ i. ℕ) c.all.ensures.ran (YieldsList-from_range 0 16 16 refl refl) (λ x q k. search (rules, tests)) (λ x q k. 0))
