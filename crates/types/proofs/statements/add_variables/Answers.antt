use Rattle.std.proofs.Common.{ap, sym, refl, ◌∙◌, Option, option_map}
use Rattle.syntax_trees.specs.declared.tree.Name.{Name}
use Rattle.syntax_trees.specs.View.{word_of}
use Rattle.types.specs.Known.{Around, around_of}
use Rattle.types.specs.Names.{seen}
use Rattle.types.specs.Statements.{fresh_variables}
use Rattle.types.proofs.lists.ByText.{unseen_value, unseen_key}
use Rattle.types.proofs.statements.add_variables.Goals as goal

pub add-requires : goal.add-requires
add-requires g c = unseen_value (around_of c.args.scope.now) (word_of c.args.value.now) (option_map word_of c.args.key.now) c.requires

pub add-requires-in-Some : goal.add-requires-in-Some
add-requires-in-Some g c =
    ap (λ (h : Around). seen h.names c.in-Some.key.text.items) c.in_ok-add.ensures
    ∙ unseen_key (around_of c.args.scope.now) (word_of c.args.value.now) (word_of c.in-Some.key) _
    (λ s. sym (ap (λ (o : Option (Name g.row.A.Denot)). fresh_variables (around_of c.args.scope.now) (word_of c.args.value.now) (option_map word_of o) s) c.in-Some.is) ∙ c.requires s) refl
