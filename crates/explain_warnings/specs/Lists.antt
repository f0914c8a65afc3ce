-- Mistakes of a list of statements as a whole, which stand before the occurrences in its statements.
use Rattle.std.specs.Prelude.{List, [], ◌++◌}
use Rattle.language.specs.Tree.{Statements, Tree}
use Rattle.explain_warnings.specs.declared.name_use.NameUse.{NameUse}
use Rattle.explain_warnings.specs.Cycles.{cycles, plain, tree_plain}
use Rattle.explain_warnings.specs.Repeats.{repeats, tree_repeats}

-- the keys that two statements of a list write, then the cycles of statements
abbrev pub list_mistakes : Statements → List NameUse
list_mistakes ss = repeats [] ss ++ cycles (plain [] ss)

-- the same of the statements outside of all functions
abbrev pub tree_mistakes : Tree → List NameUse
tree_mistakes tree = tree_repeats [] tree ++ cycles (tree_plain [] tree)
