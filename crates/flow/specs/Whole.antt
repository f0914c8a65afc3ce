-- When a core is whole: each name is declared once where it refers to, and each called function exists.
use Rattle.std.specs.Prelude.{◌≡◌, ℕ, suc, ◌<◌, List, [], ◌∷◌, ◌++◌, length, Some, slice_get, cond, nat_eq}
use Rattle.language.specs.Core.{Owned, local, input, output, Name, Call, stmt, Action, Awaited, wait, Block, Function, Core}
use Rattle.language.specs.Members.{◌∈◌}
use Rattle.language.specs.Parts.{block_list, parts, part_calls}
use Rattle.flow.specs.Names.{block_nodes, names_used, opens, Opened}

-- how often a number occurs in a list
abbrev pub times : ℕ → List ℕ → ℕ
times n [] = 0
times n (x ∷ xs) = cond (nat_eq n x) (suc (times n xs)) (times n xs)

-- an owner of names: the numbers of inputs and outputs of the function whose body it is, and the nodes of variables and
-- cells
pub record Owner : Type 0 where
  pub inputs : ℕ
  pub outputs : ℕ
  pub nodes : List ℕ

abbrev pub opened_owner : Opened → Owner
opened_owner o = record { inputs = 0; outputs = 0; nodes = o.variables ++ block_nodes o.block }

abbrev pub script_owner : Core → Owner
script_owner s = opened_owner (record { variables = []; block = s.body })

abbrev pub function_owner : Function → Owner
function_owner f = record { inputs = f.inputs; outputs = f.outputs; nodes = block_nodes f.body }

abbrev pub Declares : Owner → Owned → Type 0
Declares o (local n) = times n o.nodes ≡ 1
Declares o (input i) = i < o.inputs
Declares o (output i) = i < o.outputs

-- the owners of names in the content of a `wait`, given those around the `wait`. A name counts no step for a `wait`, so
-- what the content declares joins the innermost owner, for the content alone
abbrev pub in_content : Block → List Owner → List Owner
in_content c [] = []
in_content c (o ∷ os) = record { inputs = o.inputs; outputs = o.outputs; nodes = block_nodes c ++ o.nodes } ∷ os

-- a block of a script, with the owners of names around it, innermost first
pub data IsWithin (s : Core) : List Owner → Block → Type 0 where
  of_script : IsWithin s (script_owner s ∷ []) s.body
  of_function : (i : ℕ) {f : Function} → slice_get s.functions i ≡ Some f → IsWithin s (function_owner f ∷ []) f.body
  in_wait : {os : List Owner} {b c : Block} {at n : ℕ} {xs : List Awaited} → IsWithin s os b → stmt at n (wait xs c) ∈ block_list b → IsWithin s (in_content c os) c
  opened : {os : List Owner} {b : Block} {at n : ℕ} {a : Action} {o : Opened} → IsWithin s os b → stmt at n a ∈ block_list b → o ∈ opens a → IsWithin s (opened_owner o ∷ os) o.block

-- the name is declared once, in the block that it refers to
pub record IsDeclared (os : List Owner) (x : Name) : Type 0 where
  pub owner : Owner
  pub there : slice_get os x.up ≡ Some owner
  pub declares : Declares owner x.what

pub record IsWhole (s : Core) : Type 0 where
  pub names : (os : List Owner) (b : Block) (at n : ℕ) (a : Action) (x : Name) → IsWithin s os b → stmt at n a ∈ block_list b → x ∈ names_used a → IsDeclared os x
  pub functions : (os : List Owner) (b : Block) (at n : ℕ) (a : Action) (c : Call) → IsWithin s os b → stmt at n a ∈ block_list b → c ∈ part_calls (parts a) → c.function < length s.functions
