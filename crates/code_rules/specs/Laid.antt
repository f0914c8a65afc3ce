-- Code laid for a core, as a table: the block of each body, the statements and cells of its entries one by one, and the
-- variables that it declares.
use Rattle.std.specs.List.{flat_map}
use Rattle.std.specs.Prelude.{◌≡◌, ℕ, suc, ◌<◌, Bool, true, false, List, [], ◌∷◌, ◌++◌, length, Option, Some, None, slice_get, ℤ, pos}
use Rattle.dataflow.specs.System.{Distinct, In}
use Rattle.language.specs.Core.{Name, Call, Part, Outer, Awaited, Stmt, stmt, Action, declare, call_alone, when, choose, range, each, wait, Block, Function, Core}
use Rattle.language.specs.Members.{◌∈◌}
use Rattle.language.specs.Parts.{parts, block_list, script_blocks, script_stmts, stmt_action}
use Rattle.language_laws.specs.Scoped.{InScope}
use Rattle.language_laws.specs.TypedValues.{own_parts}
use Rattle.task_code.specs.Code as code
use Rattle.task_code.specs.Code.{Variable, Argument, Header, If, Range, Each, Wait, Entry, Opener, Code, ByMain, ByCalls, ByStep, ByWait, entry, body, loop_variables}
use Rattle.code_rules.specs.CodeNames.{over, each_once}
use Rattle.code_rules.specs.IsCodeOf.{Layout, IsSimple, own_needs, own_priority, simple_act, step_expr, seen, IsEntry, PartsAs}
use Rattle.code_rules.specs.Laying.{Headers, Kinds, IsCallOf, Suits, data_in, data_of}

-- for each body, by its number: its block, the number of inputs of the function that contains the block, and the
-- variables of the loop that opens it
pub record Table : Type 0 where
  pub block_of : ℕ → Block
  pub inputs_of : ℕ → ℕ
  pub variables_of : ℕ → List Variable

module _ (C : Code) (l : Layout) (T : Table) where
  -- the body stands for a block, in a function with k inputs, with these variables of a loop, and with this opener
  pub record Stands (k : ℕ) (b : Block) (vs : List Variable) (o : Opener) (t : ℕ) : Type 0 where
    pub within : t < length C.bodies
    pub block : T.block_of t ≡ b
    pub inputs : T.inputs_of t ≡ k
    pub variables : T.variables_of t ≡ vs
    pub opener : (body C t).opener ≡ o

  -- the entries of a statement, its own entry last, and the variables that its block declares for it
  pub data StmtLaid (k : ℕ) : Stmt → List ℕ → List Variable → Type 0 where
    declares_laid : {at n v : ℕ} (b : Bool) → StmtLaid k (stmt at n (declare v)) [] (record { node = v; array = b } ∷ [])
    call_laid : {at n : ℕ} {p : ℤ} {ps : List Part} {c : Call} {es : List ℕ} → PartsAs C l k (parts (call_alone p ps c)) at p (parts (call_alone p ps c)) es
        → StmtLaid k (stmt at n (call_alone p ps c)) es (data_in None ps)
    simple_laid : {at n : ℕ} (j : ℕ) {a : Action} {es is : List ℕ} → IsSimple a → PartsAs C l k (own_parts a) at (own_priority a) (own_parts a) is
        → IsEntry (entry C j) at (own_priority a) (own_needs l k a) (simple_act l k (own_needs l k a) a) → (entry C j).node ≡ n → es ≡ is ++ j ∷ []
        → StmtLaid k (stmt at n a) es (data_of a)
    branch_laid : {at n t : ℕ} (j : ℕ) {c : Outer} {b : Block} {es is : List ℕ} → PartsAs C l k (parts (when c b)) at (pos 0) (parts (when c b)) is
        → IsEntry (entry C j) at (pos 0) (own_needs l k (when c b)) (If (over k (own_needs l k (when c b)) (seen l c.cell)) t None) → (entry C j).offset ≡ at
        → Stands k b [] (ByStep j) t → es ≡ is ++ j ∷ []
        → StmtLaid k (stmt at n (when c b)) es (data_of (when c b))
    branches_laid : {at n t u : ℕ} (j : ℕ) {c : Outer} {b d : Block} {es is : List ℕ} → PartsAs C l k (parts (choose c b d)) at (pos 0) (parts (choose c b d)) is
        → IsEntry (entry C j) at (pos 0) (own_needs l k (choose c b d)) (If (over k (own_needs l k (choose c b d)) (seen l c.cell)) t (Some u)) → (entry C j).offset ≡ at
        → Stands k b [] (ByStep j) t → Stands k d [] (ByStep j) u → es ≡ is ++ j ∷ []
        → StmtLaid k (stmt at n (choose c b d)) es (data_of (choose c b d))
    range_laid : {at n t x : ℕ} (j : ℕ) {lo hi : Outer} {st : Option Outer} {y : Option ℕ} {b : Block} {es is : List ℕ}
        → PartsAs C l k (parts (range lo hi st x y b)) at (pos 0) (parts (range lo hi st x y b)) is
        → IsEntry (entry C j) at (pos 0) (own_needs l k (range lo hi st x y b))
        (Range (over k (own_needs l k (range lo hi st x y b)) (seen l lo.cell)) (over k (own_needs l k (range lo hi st x y b)) (seen l hi.cell)) (over k (own_needs l k (range lo hi st x y b)) (step_expr l k st)) (record { body = t; value = x; turn = y }))
        → (entry C j).offset ≡ at → Stands k b (loop_variables (record { body = t; value = x; turn = y })) (ByStep j) t → es ≡ is ++ j ∷ []
        → StmtLaid k (stmt at n (range lo hi st x y b)) es (data_of (range lo hi st x y b))
    each_laid : {at n t x : ℕ} (j : ℕ) {a : Name} {y : Option ℕ} {b : Block} {es : List ℕ}
        → IsEntry (entry C j) at (pos 0) (own_needs l k (each a x y b)) (Each (record { body = t; value = x; turn = y }))
        → (entry C j).offset ≡ at → Stands k b (loop_variables (record { body = t; value = x; turn = y })) (ByStep j) t → es ≡ j ∷ []
        → StmtLaid k (stmt at n (each a x y b)) es []
    wait_laid : {at n t : ℕ} (j : ℕ) {ns : List Awaited} {c b : Block} {hs : List Header} {es : List ℕ} → Headers k (stmt at n (wait ns c)) hs b
        → IsEntry (entry C j) at (pos 0) (each_once (flat_map (λ h. h.needs) hs)) (Wait hs t) → Stands k b [] (ByWait j) t → es ≡ j ∷ []
        → StmtLaid k (stmt at n (wait ns c)) es []

  pub data StmtsLaid (k : ℕ) : List Stmt → List ℕ → List Variable → Type 0 where
    none_laid : StmtsLaid k [] [] []
    one_laid : {st : Stmt} {sts : List Stmt} {is js es : List ℕ} {vs ws makes : List Variable} → StmtLaid k st is vs → StmtsLaid k sts js ws
        → es ≡ is ++ js → makes ≡ vs ++ ws → StmtsLaid k (st ∷ sts) es makes

  -- a body has the entries of its block's statements and declares their variables, after those of its loop; the block
  -- belongs to the script
  pub record BodyLaid (s : Core) (t : ℕ) : Type 0 where
    pub own : List Variable
    pub stmts : StmtsLaid (T.inputs_of t) (block_list (T.block_of t)) (body C t).entries own
    pub makes : (body C t).makes ≡ T.variables_of t ++ own
    pub there : T.block_of t ∈ script_blocks s
    pub scope : InScope s (T.inputs_of t) (T.block_of t)
    pub suits : (at n : ℕ) (a : Action) → stmt at n a ∈ block_list (T.block_of t) → Suits l a

-- code is laid for a script, whose functions have inputs and outputs of these kinds, and in which these variables are
-- declared, each an array or not
pub record IsLaid (s : Core) (fs : List Kinds) (ds : List (ℕ × Bool)) (C : Code) (l : Layout) : Type 0 where
  pub table : Table
  -- the bodies of functions follow the script's
  pub places : (i : ℕ) → l.body_of i ≡ suc i
  pub script : Stands C l table 0 s.body [] ByMain 0
  pub functions : (i : ℕ) (f : Function) → slice_get s.functions i ≡ Some f → Stands C l table f.inputs f.body [] ByCalls (suc i)
  pub bodies : (t : ℕ) → t < length C.bodies → BodyLaid C l table s t
  -- a body that calls open is a function's, and a body that the start opens is the script's
  pub called : (t : ℕ) → t < length C.bodies → (body C t).opener ≡ ByCalls → (i : ℕ) × (f : Function) × (t ≡ suc i) × (slice_get s.functions i ≡ Some f)
  pub started : (t : ℕ) → t < length C.bodies → (body C t).opener ≡ ByMain → t ≡ 0
  -- every entry occurs once
  pub there : (t j : ℕ) → In j (body C t).entries → j < length C.entries
  pub stands : (j : ℕ) → j < length C.entries → (t : ℕ) × In j (body C t).entries
  pub once : (t u j : ℕ) → In j (body C t).entries → In j (body C u).entries → t ≡ u
  pub distinct : (t : ℕ) → Distinct (body C t).entries
  -- every variable is declared once
  pub made_once : (t u : ℕ) (v : Variable) → In v (body C t).makes → In v (body C u).makes → t ≡ u
  pub made_distinct : (t : ℕ) → Distinct (body C t).makes
  -- each call passes arrays for arrays and scalars for scalars
  pub fit : (j f : ℕ) (ins : List Argument) (outs : List code.Name) → (entry C j).act ≡ code.Call (suc f) ins outs
      → (st : Stmt) × st ∈ script_stmts s × IsCallOf fs (own_parts (stmt_action st)) (entry C j) f ins outs
  -- a declared variable is an array where it is declared as one
  pub arrays : (t : ℕ) (v : Variable) → In v (body C t).makes → v.array ≡ true → (v.node, true) ∈ ds
  pub scalars : (t : ℕ) (v : Variable) (at n : ℕ) → In v (body C t).makes → v.array ≡ false → t < length C.bodies → stmt at n (declare v.node) ∈ block_list (table.block_of t) → (v.node, false) ∈ ds
  -- a variable is an array if the layout records it as one, and is not a plain cell
  pub kinds : (t : ℕ) (v : Variable) → In v (body C t).makes → v.array ≡ l.array v.node
  pub real : (t : ℕ) (v : Variable) → In v (body C t).makes → l.plain v.node ≡ false
