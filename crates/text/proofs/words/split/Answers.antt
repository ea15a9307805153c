use Rattle.std.proofs.Common.{rules, tests}
use Rattle.std.proofs.lemmas.Iterator.{items_from_collect, YieldsList-from_map}
use Rattle.std.proofs.lemmas.Iterator.Consumers.{YieldsList-from_first, YieldsList-from_filter, YieldsList-at}
use Rattle.text.specs.declared.cut.Stop.{Stop}
use Rattle.text.specs.Cut.{stops, cut, left}
use Rattle.text.specs.Words.{worded}
use Rattle.text.proofs.words.split.Goals as goal

pub returns : goal.returns
returns c =
    items_from_collect _ c.collect.ensures.ran
    (YieldsList-from_map _ worded
    (YieldsList-at c.map.ensures.source (YieldsList-from_filter _ _ (YieldsList-from_first (λ x. x.now) left (cut (stops Stop.Blank) c.args.line.now) (cc)) c.filter.ensures.closure (λ x r q k. search (rules, tests)))) c.map.ensures.closure
    (λ x r q k. search (rules, tests)))
