-- Properties of the core of each well typed script, singly assigned or not.
use Rattle.std.specs.Prelude.{◌≡◌, ◌⊎◌, ℕ, Bool, length, Some, slice_get}
use Rattle.language.specs.Core.{Owned, output, Name, Cell, Call, Outer, Stmt, stmt, fill, Block, Function, Core}
use Rattle.language.specs.Members.{◌∈◌}
use Rattle.language.specs.Parts.{block_list, script_blocks, script_stmts, cells, stmt_calls, call_at}
use Rattle.language.specs.WellFormed.{Declares, Uses, IsHidden, IsAlone, IsMany, Role, WritersApart}

-- the fields of WellFormed that hold without single assignment
pub record FormedAlways (s : Core) : Type 0 where
  pub one_block : (b b' : Block) (what : Owned) → b ∈ script_blocks s → b' ∈ script_blocks s → Declares b what → Declares b' what → b ≡ b'
  pub script_names : (up : ℕ) (what : Owned) → Uses s.body up what → (up ≡ 0) × Declares s.body what
  pub wait_names : (c : Block) (up : ℕ) (what : Owned) → c ∈ script_blocks s → Uses c up what → Declares c what → up ≡ 0
  pub call_found : (b : Block) (st : Stmt) (c : Call) → b ∈ script_blocks s → st ∈ block_list b → c ∈ stmt_calls st → call_at s c.at ≡ Some c
  pub call_outputs : (b : Block) (st : Stmt) (c : Call) (f : Function) (j : ℕ) → b ∈ script_blocks s → st ∈ block_list b → c ∈ stmt_calls st
      → slice_get s.functions c.function ≡ Some f → Uses f.body 0 (output j) → (x : Name) × (slice_get c.outputs j ≡ Some x)
  pub call_count : (b : Block) (st : Stmt) (c : Call) (f : Function) → b ∈ script_blocks s → st ∈ block_list b → c ∈ stmt_calls st
      → slice_get s.functions c.function ≡ Some f → length c.outputs ≡ f.outputs
  pub call_kinds : (b : Block) (st : Stmt) (c : Call) → b ∈ script_blocks s → st ∈ block_list b → c ∈ stmt_calls st → IsAlone st c ⊎ IsHidden s c
  pub cell_once : (st st' : Stmt) (c c' : Cell) → st ∈ script_stmts s → st' ∈ script_stmts s → c ∈ cells st → c' ∈ cells st' → c.node ≡ c'.node
      → (st ≡ st') × (c ≡ c')
  pub fill_many : (at n : ℕ) (x : Name) (c : Outer) → stmt at n (fill x c) ∈ script_stmts s → IsMany c.cell.form
  pub role_once : (st st' : Stmt) (x : ℕ) (r r' : Bool) → st ∈ script_stmts s → st' ∈ script_stmts s → Role st x r → Role st' x r' → (st ≡ st') × (r ≡ r')
  pub role_cells : (st st' : Stmt) (c : Cell) (r : Bool) → st ∈ script_stmts s → st' ∈ script_stmts s → c ∈ cells st → Role st' c.node r → ⊥
  pub writers : WritersApart s
