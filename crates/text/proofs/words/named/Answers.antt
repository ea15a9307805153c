use Rattle.std.proofs.Common.{codes, sym, ap, arith, rules}
use Rattle.std.proofs.lemmas.Slice.Eq.{text_from_reads}
use Rattle.text.specs.Words.{named as naming}
use Rattle.text.proofs.words.named.Goals as goal

pub returns-in-forget : goal.returns-in-forget
returns-in-forget c = sym (ap naming (text_from_reads c.args.word.now (codes "forget") (omega arith) (search rules)))
