use Rattle.std.proofs.Common.{◌≡◌, ◌∷◌, [], List, ap, sym, ◌∙◌, arith}
use Rattle.std.specs.Prelude.{Some, None}
use Rattle.std.proofs.lemmas.Grind.{common_steps}
use Rattle.lexer.specs.Items.{Item}
use Rattle.lexer.specs.Given.{item_of}
use Rattle.syntax.proofs.combining.Collected.{ends_as, fault_in}
use Rattle.syntax.proofs.grammar.tokens.fault_of.Goals as goal

pub loop-item-preserved : goal.loop-item-preserved
loop-item-preserved c =
    sym (ap fault_in (c.in-Some.ensures.item ∙ ap (λ x. item_of x ∷ c.next.new.self) c.in-Ok.is)) ∙ c.loop-item.invariant

pub returns-in-Err : goal.returns-in-Err
returns-in-Err c =
    ends_as c.args.source.now c.new-lexer.result c.loop-item.lexer (Some c.in-Err.fault) c.new-lexer.ensures.only c.loop-item.invariant
    (ap fault_in (c.in-Some.ensures.item ∙ ap (λ x. item_of x ∷ c.next.new.self) c.in-Err.is))

pub returns : goal.returns
returns c =
    let none : ◌≡◌ {A = List Item} c.loop-item.lexer [] = grind (arith, common_steps) in
    ends_as c.args.source.now c.new-lexer.result c.loop-item.lexer None c.new-lexer.ensures.only c.loop-item.invariant (ap fault_in none)
