use Rattle.std.proofs.Common.{Some, None, Option, MatchResult, sym, refl, subst, rules, tests, Bool, List}
use Rattle.std.specs.Option.{ok_or}
use Rattle.frame.specs.declared.Command.{Command}
use Rattle.text.specs.declared.fault.Expected.{Expected}
use Rattle.text.specs.declared.words.Word.{Word}
use Rattle.text.specs.Law.{command_bounded}
use Rattle.text.specs.Table.{command_words, Finds}
use Rattle.text.specs.Text.{orders, IsSaid, Unsaid}
use Rattle.text.proofs.Undoing.{command_back, command_undo, finds}
use Rattle.text.proofs.orders.CommandStatement.of_words.Goals as goal

said_or : (heard : Bool) (ws : List Word) (o : Option Command) → Finds command_words command_bounded ws o → MatchResult (ok_or o Expected.Command) (IsSaid orders heard ws) (Unsaid orders heard ws)
said_or heard ws None f = (f, refl)
said_or heard ws (Some c) f = f

pub returns : goal.returns
returns c =
    let h = c.args._heard in
    let ws = c.args.words.now in
    let found = finds command_words command_bounded command_back command_undo ws c.command_of.result c.filter.result c.command_of.ensures (search (rules, tests)) in
    subst (λ r. MatchResult r (IsSaid orders h ws) (Unsaid orders h ws)) (sym c.ok_or.ensures.value) (said_or h ws c.filter.result found)
