use Rattle.std.proofs.Common.{rules, ◌≡◌, length}
use Rattle.data_store.specs.Stores.{array_at}
use Rattle.board_data.proofs.Compared.{content_told}
use Rattle.board_data.proofs.answers.is_content.Goals as goal

pub returns-then-len-size : goal.returns-then-len-size
returns-then-len-size c =
    let as_many : length c.args.map.now ≡ length (array_at c.args.store.now c.args.d).elements = search rules in
    λ rises. content_told (array_at c.args.store.now c.args.d).elements c.args.map.now c.elements.result.now c.has_all.result c.has_all.ensures c.elements.ensures.elements as_many c.elements.ensures.rising rises
