use Rattle.memory.proofs.Mending.{keeps_words}
use Rattle.memory.proofs.keeps_words.Goals as goal

pub returns : goal.returns
returns c = keeps_words
