use Rattle.std.proofs.Common.{◌∙◌, arith}
use Rattle.std.proofs.lemmas.List.{ext_get_or}
use Rattle.layout.proofs.write.replace.Goals as goal

pub returns : goal.returns
returns c = ext_get_or 0 c.loop-k.room c.args.part.now (c.loop-k.auto.room ∙ c.requires) (λ k h. c.loop-k.invariant k (omega arith))
