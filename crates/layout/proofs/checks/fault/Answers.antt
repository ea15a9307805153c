use Rattle.std.proofs.Common.{◌≡◌, true, false, None, rules, tests}
use Rattle.std.proofs.lemmas.Iterator.{first_from_Range}
use Rattle.layout.specs.Fault.{at_fault}
use Rattle.layout.proofs.Sanity.{faultless_of, lowest_of, lowest_is}
use Rattle.layout.proofs.checks.fault.Goals as goal

pub returns-then-sane : goal.returns-then-sane
returns-then-sane c = lowest_is c.args.words.now None (faultless_of c.args.words.now (c.sane.ensures c.if-sane.true))

pub returns : goal.returns
returns c =
    lowest_is c.args.words.now c.find.result
    (lowest_of c.args.words.now c.find.result (first_from_Range _ _ _ c.find.result (λ k. at_fault c.args.words.now k ≡ true) (λ k. at_fault c.args.words.now k ≡ false) c.find.ensures.ran
    (λ x q k. search (rules, tests)) (λ x q k. search (rules, tests))))
