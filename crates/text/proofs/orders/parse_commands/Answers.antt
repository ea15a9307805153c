use Rattle.text.specs.Text.{orders, Fails}
use Rattle.text.proofs.Once.{command_readable}
use Rattle.text.proofs.Sending.{all_sendable}
use Rattle.text.proofs.orders.parse_commands.Goals as goal

pub parse_all-requires : goal.parse_all-requires
parse_all-requires c = command_readable

pub returns-clause-sendable : goal.returns-clause-sendable
returns-clause-sendable c =
    let text = c.args.text.now in
    all_sendable (λ v. v.items) text c.parse_all.result (Fails orders text) c.parse_all.ensures
