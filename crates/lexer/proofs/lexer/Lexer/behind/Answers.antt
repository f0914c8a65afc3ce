use Rattle.std.proofs.Common.{ℕ, List, drop, sym, ap, ◌∙◌}
use Rattle.lexer.specs.Items.{Item}
use Rattle.lexer.specs.Reading.{items_from}
use Rattle.lexer.proofs.Items.{items_behind}
use Rattle.lexer.proofs.lexer.Lexer.behind.Goals as goal

pub returns : goal.returns
returns c ts items tokens ends =
    let rest : ℕ → List Item = λ to. items_from to (drop to c.args.source.now) in
    items_behind c.args.source.now ts items tokens ∙ ap rest ends ∙ ap (items_from c.args.to) (sym c.split_at.ensures.back)
