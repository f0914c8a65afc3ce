-- Properties of a typed core beyond WellFormed: a function's body uses only its own inputs, and a call has an argument
-- for each input.
use Rattle.std.specs.Prelude.{◌≡◌, ℕ, ◌<◌, List, length, Option, Some, slice_get}
use Rattle.language.specs.Core.{input, Name, Expr, Exprs, literal, name, whole, operator, none, also, Form, compute, read, Cell, Call, Awaited, scalar, array, Stmt, stmt, Action, each, wait, Block, Function, Core}
use Rattle.language.specs.Members.{◌∈◌}
use Rattle.language.specs.Parts.{cells, stmt_calls, stmt_action, block_list, script_stmts, by_name, by_element}
use Rattle.language.specs.WellFormed.{header_blocks}

-- an input that is named has an index below k
abbrev pub IsIn : ℕ → Name → Type 0
IsIn k x = (i : ℕ) → x.what ≡ input i → i < k

abbrev mutual
  pub AreIn : ℕ → Expr → Type 0
  AreIn k (literal v) = Unit {0}
  AreIn k (name x) = IsIn k x
  AreIn k (whole a) = IsIn k a
  AreIn k (operator o es) = AllAreIn k es

  pub AllAreIn : ℕ → Exprs → Type 0
  AllAreIn k none = Unit {0}
  AllAreIn k (also e es) = AreIn k e × AllAreIn k es

abbrev pub FormIn : ℕ → Form → Type 0
FormIn k (compute e) = AreIn k e
FormIn k (read a i) = IsIn k a

abbrev pub AwaitedIn : ℕ → Awaited → Type 0
AwaitedIn k (scalar x) = IsIn k x
AwaitedIn k (array x) = IsIn k x

-- the inputs that a statement names have indexes below k
pub record IsScoped (k : ℕ) (st : Stmt) : Type 0 where
  pub in_cells : (c : Cell) → c ∈ cells st → FormIn k c.form
  pub in_inputs : (c : Call) (x : Name) → c ∈ stmt_calls st → x ∈ c.inputs → IsIn k x
  pub in_outputs : (c : Call) (x : Name) → c ∈ stmt_calls st → x ∈ c.outputs → IsIn k x
  pub in_targets : (x : Name) → x ∈ by_name (stmt_action st) → IsIn k x
  pub in_elements : (x : Name) → x ∈ by_element (stmt_action st) → IsIn k x

-- a block with the number of inputs of its function
pub data InScope (s : Core) : ℕ → Block → Type 0 where
  of_script : InScope s 0 s.body
  of_function : (i : ℕ) {f : Function} → slice_get s.functions i ≡ Some f → InScope s f.inputs f.body
  inside : {k : ℕ} {b c : Block} {at n : ℕ} {a : Action} → InScope s k b → stmt at n a ∈ block_list b → c ∈ header_blocks a → InScope s k c
  in_wait : {k : ℕ} {b c : Block} {at n : ℕ} {ns : List Awaited} → InScope s k b → stmt at n (wait ns c) ∈ block_list b → InScope s k c

pub record Scoped (s : Core) : Type 0 where
  pub statements : (k : ℕ) (b : Block) (st : Stmt) → InScope s k b → st ∈ block_list b → IsScoped k st
  pub loops : (k : ℕ) (b : Block) (at n x : ℕ) (a : Name) (t : Option ℕ) (c : Block) → InScope s k b → stmt at n (each a x t c) ∈ block_list b → IsIn k a
  pub waits : (k : ℕ) (b : Block) (at n : ℕ) (ns : List Awaited) (c : Block) (x : Awaited) → InScope s k b → stmt at n (wait ns c) ∈ block_list b → x ∈ ns → AwaitedIn k x
  -- a called function exists, and the call has an argument for each of its inputs
  pub calls : (st : Stmt) (c : Call) → st ∈ script_stmts s → c ∈ stmt_calls st → (f : Function) × (slice_get s.functions c.function ≡ Some f) × (length c.inputs ≡ f.inputs)
