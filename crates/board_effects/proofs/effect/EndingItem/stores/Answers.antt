use Rattle.board_effects.proofs.Stores.{stores_ends}
use Rattle.board_effects.proofs.effect.EndingItem.stores.Goals as goal

pub returns : goal.returns
returns c = λ w g. stores_ends c.args.self w c.target.result c.args.value c.target.ensures g
