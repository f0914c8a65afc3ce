-- The scope during a check, and the signatures of a script.
use Rattle.std.specs.Prelude.{ℕ, List, [], map, vec_len}
use Rattle.types.specs.declared.typed.Binding.{Binding}
use Rattle.types.specs.declared.typed.VariableType.{VariableType}
use Rattle.types.specs.declared.scope.VisibleVariable.{VisibleVariable}
use Rattle.types.specs.declared.scope.Scope as scopes
use Rattle.types.specs.declared.signatures.Signature as signatures
use Rattle.language.specs.Scopes.{Typ, Signature}

abbrev pub type_of : VariableType → Typ
type_of t = record { base = t.base; shape = t.shape }

-- a visible variable: its name, the number of blocks that were open at its declaration, its binding, and its type
pub record Seen : Type 0 where
  pub text : List ℕ
  pub depth : ℕ
  pub what : Binding
  pub of : Typ

-- a scope: the number of open blocks, and the visible variables in the order of their declarations
pub record Around : Type 0 where
  pub depth : ℕ
  pub names : List Seen

abbrev pub seen_at : List ℕ → VisibleVariable → Seen
seen_at text k = record { text = text; depth = k.depth; what = k.what; of = type_of k.of }

abbrev pub around_of : scopes.Scope → Around
around_of s = record { depth = vec_len s.blocks; names = map (λ e. seen_at e.0.items e.1) s.names.entries }

abbrev pub signature_of : signatures.Signature → Signature
signature_of s = record { text = s.text.items; inputs = map type_of s.inputs.items; outputs = map type_of s.outputs.items }

abbrev pub nowhere : Around
nowhere = record { depth = 0; names = [] }
