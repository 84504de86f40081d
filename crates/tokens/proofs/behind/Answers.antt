-- `behind` meets its contract.
use Rattle.tokens.proofs.Properties.{behind_item, behind_stop}
use Rattle.tokens.proofs.behind.Goals as goal

pub returns-in-Item : goal.returns-in-Item
returns-in-Item c = behind_item c.args.structure.now c.args.at c.token_at.result c.token_at.ensures c.in-Item.kind c.in-Item.next c.in-Item.is

pub returns-in-End : goal.returns-in-End
returns-in-End c = behind_stop c.args.structure.now c.args.at c.token_at.result c.token_at.ensures c.in-End.is
