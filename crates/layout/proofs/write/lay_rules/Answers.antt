use Rattle.std.proofs.Common.{◌≡◌, ◌+◌, ◌*◌, ◌++◌, get_or, length, map, take, drop, sym, refl, ap, ◌∙◌, arith, take-append-drop}
use Rattle.std.specs.List.{flat_map}
use Rattle.std.proofs.lemmas.List.{take_more, take_all, length-take-le, length-map, get_or-map}
use Rattle.rules.specs.Watching.{off}
use Rattle.rules.specs.Monitors.{rule_of}
use Rattle.layout.specs.Map.{rule_words, rule_size, rules_at, counts_at}
use Rattle.layout.proofs.Units.{laid_one}
use Rattle.layout.proofs.write.lay_rules.Goals as goal

pub loop-k-init : goal.loop-k-init
loop-k-init c = sym (take-append-drop rules_at c.args.words.now)

pub loop-k-preserved : goal.loop-k-preserved
loop-k-preserved c =
    let r = map rule_of c.args.monitors.now in
    let n : length r ≡ 16 = length-map c.args.monitors.now rule_of ∙ c.told-monitors in
    let part : c.from-numbers.result ≡ rule_words (get_or r c.loop-k.k off) =
    c.from-numbers.ensures ∙ ap rule_words (sym (get_or-map rule_of c.args.monitors.now c.loop-k.k (record { rule = off; count = 0 }) off (omega arith))) in
    laid_one rule_size rule_words (λ x. refl) rules_at c.loop-k.k c.args.words.now c.from-numbers.result c.loop-k.words c.lay.new.words
    (take c.loop-k.k r) (take (c.loop-k.k + 1) r) (get_or r c.loop-k.k off) (length-take-le c.loop-k.k r (omega (arith, n))) (take_more r c.loop-k.k off (omega (arith, n)))
    part (omega arith) c.loop-k.invariant c.lay.ensures.laid

pub returns-clause-laid : goal.returns-clause-laid
returns-clause-laid c =
    let r = map rule_of c.args.monitors.now in
    let n : length r ≡ 16 = length-map c.args.monitors.now rule_of ∙ c.told-monitors in
    let k : c.loop-k.k ≡ 16 = omega arith in
    c.loop-k.invariant ∙ (λ i. take rules_at c.args.words.now ++ (flat_map rule_words (take (k i) r) ++ drop (rules_at + rule_size * k i) c.args.words.now))
    ∙ ap (λ (x : _). take rules_at c.args.words.now ++ (flat_map rule_words x ++ drop counts_at c.args.words.now)) (take_all 16 r (omega (arith, n)))
