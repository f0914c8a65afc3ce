-- What holds of the core of a well typed script without single assignment.
use Rattle.std.specs.Prelude.{◌≡◌, ℕ, ◌<◌, true, List, ◌∷◌, length, Option, Some, slice_get}
use Rattle.std.proofs.Common.{inl, inr, sym, ap, ◌∙◌, arith}
use Rattle.language.specs.Core.{Owned, input, output, Name, Call, Stmt, Block, Function, Core}
use Rattle.language.specs.Members.{◌∈◌, first}
use Rattle.language.specs.Numbers.{numbers}
use Rattle.language.specs.Parts.{block_list, script_blocks, script_stmts, stmt_calls, calls_among}
use Rattle.language.specs.Resolved.{core}
use Rattle.language.specs.Scopes.{Signature, signatures}
use Rattle.language.specs.Table.{Table}
use Rattle.language.specs.Tree.{Tree}
use Rattle.language.specs.Typing.{WellTyped}
use Rattle.language.specs.WellFormed.{Declares, Uses}
use Rattle.language.proofs.Blocks.{among_script}
use Rattle.language_laws.proofs.OneAssign.{function_in}
use Rattle.language.proofs.Tested.{flat, flat_once, every_in, writer_of, block_nodes, one_block, cell_once, role_once, role_cells, call_among}
use Rattle.language.specs.Distinct.{distinct}
use Rattle.language_laws.proofs.TestedNames.{uses_used, declares_it, declared_it, declares, fill_fine, find_once, get_below, is_many_form, fill_parts, insert_parts, fill_no_insert, kinds_of}
use Rattle.language_laws.proofs.TreeCalls.{hidden, fills}
use Rattle.language_laws.proofs.TreeNodes.{nodes_once}
use Rattle.language_laws.proofs.TreeOffsets.{offsets_once}
use Rattle.language_laws.specs.Offsets.{tree_offsets}
use Rattle.language_laws.proofs.TreeStmts.{writers_once}
use Rattle.language_accepted.specs.Always.{FormedAlways}
use Rattle.language_accepted.specs.Placed.{Rise}
use Rattle.language_accepted.proofs.Standing.{used_stands, declared_here}
use Rattle.language_accepted.proofs.Everywhere.{IsParameter, AllPlaced, block_ok}
use Rattle.language_accepted.proofs.Bodies.{all_placed, scoped_block}
use Rattle.language_accepted.proofs.Once.{rising_once}
use Rattle.language_accepted.proofs.Formed.{called, call_of}

module _ (t : Table) (tree : Tree) (rise : Rise 0 (numbers tree)) (typed : WellTyped tree t) where
  abbrev s : Core
  s = core t tree

  abbrev fs : List Signature
  fs = signatures tree

  all : AllPlaced fs s
  all = all_placed t tree rise typed

  once : distinct (0 ∷ flat block_nodes (script_blocks s)) ≡ true
  once = nodes_once t tree (rising_once tree rise)

  script_names : (up : ℕ) (what : Owned) → Uses s.body up what → (up ≡ 0) × Declares s.body what
  script_names up what m = elim (used_stands fs 0 all.script (uses_used m)) [
    | inl v ↦ (let i = v.visible in elim i [ ])
    | inr r ↦ (r.0, declares_it s.body what r.1)
  ]

  wait_names : (c : Block) (up : ℕ) (what : Owned) → c ∈ script_blocks s → Uses c up what → Declares c what → up ≡ 0
  wait_names c up what m h d =
      let q = scoped_block s m in
      let o = block_ok fs s all q.1 in
      declared_here fs q.0 o.placed o.below (uses_used h) (declared_it c what d)

  some_same : {f g : Function} → ◌≡◌ {A = Option Function} (Some f) (Some g) → f ≡ g
  some_same h = cc

  call_count : (b : Block) (st : Stmt) (c : Call) (f : Function) → b ∈ script_blocks s → st ∈ block_list b → c ∈ stmt_calls st → slice_get s.functions c.function ≡ Some f → length c.outputs ≡ f.outputs
  call_count b st c f k i m e =
      let q = call_of t tree rise typed st c (among_script s k i) m in
      let r = called t tree rise typed q.0 c q.1 in
      r.3 ∙ ap (λ (z : Function). z.outputs) (some_same (sym r.1 ∙ e))

  output_there : (f : Function) (j : ℕ) → f ∈ s.functions → Uses f.body 0 (output j) → j < f.outputs
  output_there f j m h =
      let b = all.functions f m in
      elim (used_stands fs f.inputs b.placed (uses_used h)) [
        | inl v ↦ parameter v.variable.refers_to (sym (ap (λ (z : Name). z.what) v.is)) (b.parameters v.variable v.visible)
        | inr r ↦ absurd (no_output r.1)
      ]
    where
      no_output : declares f.body (output j) ≡ true → ⊥
      no_output h = absurd (cc (h))

      same_output : {i : ℕ} → output i ≡ output j → i ≡ j
      same_output h = cc

      no_input : {i : ℕ} → input i ≡ output j → ⊥
      no_input h = cc

      parameter : (x : Name) → x.what ≡ output j → IsParameter f x → j < f.outputs
      parameter x e p = elim p.is [
        | inl r ↦ (let q = same_output (sym r.1 ∙ e) in let l = r.2 in omega arith)
        | inr r ↦ absurd (no_input (sym r.1 ∙ e))
      ]

  call_outputs : (b : Block) (st : Stmt) (c : Call) (f : Function) (j : ℕ) → b ∈ script_blocks s → st ∈ block_list b → c ∈ stmt_calls st → slice_get s.functions c.function ≡ Some f
      → Uses f.body 0 (output j) → (x : Name) × (slice_get c.outputs j ≡ Some x)
  call_outputs b st c f j k i m e h =
      let l = output_there f j (function_in s.functions c.function f e) h in
      let n = call_count b st c f k i m e in
      get_below c.outputs j (omega arith)

  writer_once : {st st' : Stmt} {n : ℕ} → st ∈ script_stmts s → st' ∈ script_stmts s → n ∈ writer_of st → n ∈ writer_of st' → st ≡ st'
  writer_once i j m k = flat_once writer_of (script_stmts s) (writers_once t tree (rising_once tree rise)) i j m k

  -- what holds without single assignment
  pub always : distinct (tree_offsets tree) ≡ true → FormedAlways s
  always offsets = record {
    one_block = one_block s once;
    script_names = script_names;
    wait_names = wait_names;
    call_found = λ b st c k i m. find_once (calls_among (script_stmts s)) c (offsets_once t tree offsets) (call_among (script_stmts s) (among_script s k i) m);
    call_outputs = call_outputs;
    call_count = call_count;
    call_kinds = kinds_of s once (hidden t tree);
    cell_once = cell_once s once;
    fill_many = λ at n x c i. is_many_form c.cell.form (every_in fill_fine (script_stmts s) (fills t tree) i);
    role_once = role_once s once;
    role_cells = role_cells s once;
    writers = record {
      fill_once = λ at n at' x x' c c' i j. fill_parts (writer_once i j first first);
      insert_once = λ at n at' x x' i i' c c' k l. insert_parts (writer_once k l first first);
      fill_insert = λ at n at' x x' i c c' k l. fill_no_insert (writer_once k l first first);
    };
  }
