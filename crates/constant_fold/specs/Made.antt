-- Results of the folding functions, in terms of the fold.
use Rattle.std.specs.Prelude.{List, map, Option, Some, None, Result, Ok}
use Rattle.values.specs.declared.fault.OpFault.{OpFault}
use Rattle.values.specs.declared.value.Scalar.{Scalar}
use Rattle.values.specs.declared.value.Value.{Value}
use Rattle.values.specs.declared.value.Value.TheVariants.{One}
use Rattle.language.specs.Resolved.{chain_operation, prefix_operation}
use Rattle.language.specs.Tree.{Form, number, text, truth, variable, element, call, prefixed, chain, no_expressions, and_expression}
use Rattle.syntax_trees.specs.View.{form_view}
use Rattle.syntax_trees.specs.declared.tree.ExprKind.{ExprKind}
use Rattle.constant_fold.specs.Folded.{called, called_operation, collapsed, folded, folded_all, scalars_of}

-- scalars as operands without faults
abbrev pub operands : List Scalar → List (Result Value OpFault)
operands vs = map (λ v. Ok (One v)) vs

-- a form with its nested expressions folded, but not yet itself
abbrev pub with_folded_parts : Form → Form
with_folded_parts (number z) = number z
with_folded_parts (text bytes) = text bytes
with_folded_parts (truth b) = truth b
with_folded_parts (variable w) = variable w
with_folded_parts (element w i) = element w (folded i)
with_folded_parts (call w es) = call w (folded_all es)
with_folded_parts (prefixed p e) = prefixed p (folded e)
with_folded_parts (chain os es) = chain os (folded_all es)

-- the literal result of a form of literals, otherwise the unchanged form
abbrev pub settled : Form → Form
settled (number z) = number z
settled (text bytes) = text bytes
settled (truth b) = truth b
settled (variable w) = variable w
settled (element w i) = element w i
settled (call w es) = called (called_operation w.text) (scalars_of es) (call w es)
settled (prefixed p e) = collapsed (prefix_operation p) (scalars_of (and_expression e no_expressions)) (prefixed p e)
settled (chain os es) = collapsed (chain_operation os) (scalars_of es) (chain os es)
