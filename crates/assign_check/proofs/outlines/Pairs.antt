-- The outlines of a script and the blocks of its core, in pairs that stand for the same statements, with what each declares.
use Rattle.std.specs.Prelude.{◌≡◌, ℕ, zero, suc, ◌+◌, ◌<◌, List, [], ◌∷◌, ◌++◌, Option, length, refl}
use Rattle.std.proofs.Common.{sym, ap, ◌∙◌, subst, arith}
use Rattle.language.specs.Core.{Owned, input, output, Stmt, stmt, Action, Block, Function, Core}
use Rattle.language.specs.Members.{◌∈◌, first, later}
use Rattle.language.specs.Parts.{block_list, script_blocks}
use Rattle.language.specs.Resolved.{block_of, script_block, functions_of, with_statement}
use Rattle.language.specs.Scopes.{Scope, Signature}
use Rattle.language.specs.Single.{Given, range_value, range_turn, each_value, each_key}
use Rattle.language.specs.Table.{Table}
use Rattle.language.specs.Tree as T
use Rattle.language.specs.Tree.{Declaration, Composite, import, function, Tree}
use Rattle.language.specs.Typing.{FunctionTyped, function_typed, PartsTyped, no_parts, an_import, a_function, a_statement}
use Rattle.language.proofs.Blocks.{among_script}
use Rattle.assign_check.specs.Outline.{Role, own, result, given, Declared, Outline, Step, outlined, parameters, steps_of, body_steps, function_steps, script_steps, function_outlines}
use Rattle.assign_check.specs.Through.{HasStep, BlockIn}
use Rattle.assign_check.proofs.like.Like.{IsLoop, a_range, an_each, Turns, value_alone, with_key, Like, like_end, like_front, result_is_not_own, given_is_not_own}
use Rattle.assign_check.proofs.like.CoreBlocks.{below_script}
use Rattle.assign_check.proofs.like.LikeSteps.{Fronted, the_front, no_front, loop_front, Pair, down}
use Rattle.assign_check.proofs.uses.Reading.{Counted}
use Rattle.assign_check.proofs.uses.Statements.{SameReads}
use Rattle.assign_check.proofs.uses.Calls.{append_later}
use Rattle.assign_check.proofs.outlines.Built.{inner_statement, inner_body, own_statement, own_body, outlined_append, counted_left, counted_right, like_statement, like_body}

-- PARAMETERS

abbrev pub declared_list : Role → (ℕ → Owned) → ℕ → List Declaration → List Declared
declared_list r owned i [] = []
declared_list r owned i (d ∷ ds) = record { what = owned i; shape = d.shape; role = r; span = d.name.span } ∷ declared_list r owned (i + 1) ds

-- the outputs and inputs of a function
abbrev pub fronts : Composite → List Declared
fronts f = declared_list result output 0 f.outputs ++ (declared_list given input 0 f.inputs ++ [])

pub parameter_at : (r : Role) (owned : ℕ → Owned) (i : ℕ) (ds : List Declaration) {d : Declared} → d ∈ declared_list r owned i ds
    → (d.role ≡ r) × ((j : ℕ) × (j < length ds) × (d.what ≡ owned (i + j)))
parameter_at r owned i [] m = elim m [ ]
parameter_at r owned i (d ∷ ds) first = let e : i ≡ i + 0 = omega arith in (refl, (0, omega arith, ap owned e))
parameter_at r owned i (d ∷ ds) (later m) = let q = parameter_at r owned (i + 1) ds m in let b = q.1.1 in let e : i + 1 + q.1.0 ≡ i + suc q.1.0 = omega arith in
    (q.0, (suc q.1.0, omega arith, q.1.2 ∙ ap owned e))

pub at_parameter : (r : Role) (owned : ℕ → Owned) (i j : ℕ) (ds : List Declaration) → j < length ds
    → (d : Declared) × (d ∈ declared_list r owned i ds) × (d.role ≡ r) × (d.what ≡ owned (i + j))
at_parameter r owned i j [] b = absurd (omega arith)
at_parameter r owned i zero (d ∷ ds) b = let e : i ≡ i + 0 = omega arith in (record { what = owned i; shape = d.shape; role = r; span = d.name.span }, first, refl, ap owned e)
at_parameter r owned i (suc j) (d ∷ ds) b = let q = at_parameter r owned (i + 1) j ds (omega arith) in let e : i + 1 + j ≡ i + suc j = omega arith in (q.0, later q.1, q.2, q.3 ∙ ap owned e)

parameters_like : {R : List Step → Stmt → Type 0} (r : Role) (owned : ℕ → Owned) (i : ℕ) (ds : List Declaration) (ss : List Step) {es : List Declared} {b : Block} → (r ≡ own → ⊥)
    → Like R es (outlined ss) b → Like R (declared_list r owned i ds ++ es) (outlined (parameters r owned i ds ++ ss)) b
parameters_like r owned i [] ss f l = l
parameters_like r owned i (d ∷ ds) ss f l = like_front f (parameters_like r owned (i + 1) ds ss f l)

-- SCRIPTS

-- the numbers of expressions and calls in a script
abbrev pub inner_tree : Tree → List ℕ
inner_tree [] = []
inner_tree (import sp ∷ ps) = inner_tree ps
inner_tree (function f ∷ ps) = inner_body f.body ++ inner_tree ps
inner_tree (T.single s ∷ ps) = inner_statement s ++ inner_tree ps

-- the numbers of the variables that a script's statements declare
abbrev pub own_tree : Tree → List ℕ
own_tree [] = []
own_tree (import sp ∷ ps) = own_tree ps
own_tree (function f ∷ ps) = own_body f.body ++ own_tree ps
own_tree (T.single s ∷ ps) = own_statement s ++ own_tree ps

abbrev pub function_of : Table → Composite → Function
function_of t f = record { inputs = length f.inputs; outputs = length f.outputs; body = block_of t f.body }

module _ (Taken Own : ℕ → Type 0) (fs : List Signature) (t : Table) where
  abbrev Alike : List Declared → Outline → Block → Type 0
  Alike ds o b = Like (SameReads Taken Own) ds o b

  pub script_like : {names : List (List ℕ)} {g : Scope} {tree : Tree} → PartsTyped fs t names g tree → Counted Taken (inner_tree tree) → Counted Own (own_tree tree) → Alike [] (outlined (script_steps t tree)) (script_block t tree)
  script_like no_parts k k' = like_end
  script_like (an_import h) k k' = script_like h k k'
  script_like (a_function {f = f} {ps = ps} h q) k k' = script_like q (counted_right (inner_body f.body) (inner_tree ps) k) (counted_right (own_body f.body) (own_tree ps) k')
  script_like (a_statement {s = s} {ps = ps} h q) k k' =
      subst (λ (p : Outline). Alike [] p (with_statement t s (script_block t ps))) (sym (outlined_append (steps_of t s) (script_steps t ps)))
      (like_statement Taken Own fs t h (counted_left (inner_statement s) (inner_tree ps) k) (counted_left (own_statement s) (own_tree ps) k') (script_like q (counted_right (inner_statement s) (inner_tree ps) k) (counted_right (own_statement s) (own_tree ps) k')))

  function_like : {names : List (List ℕ)} {f : Composite} → FunctionTyped fs t names f → Counted Taken (inner_body f.body) → Counted Own (own_body f.body) → Alike (fronts f) (outlined (function_steps t f)) (block_of t f.body)
  function_like {f = f} (function_typed n b p q h) k k' =
      subst (λ (ss : List Step). Alike (fronts f) (outlined ss) (block_of t f.body))
      (sym (append_later (parameters result output 0 f.outputs) (parameters given input 0 f.inputs) (body_steps t f.body)))
      (parameters_like result output 0 f.outputs (parameters given input 0 f.inputs ++ body_steps t f.body) (λ e. result_is_not_own refl e) (parameters_like given input 0 f.inputs (body_steps t f.body) (λ e. given_is_not_own refl e) (like_body Taken Own fs t h k k')))

  -- a function's outline stands for its body
  pub function_to : {names : List (List ℕ)} {g : Scope} {tree : Tree} {o : Outline} → PartsTyped fs t names g tree → Counted Taken (inner_tree tree) → Counted Own (own_tree tree) → o ∈ function_outlines t tree
      → (f : Composite) × (function_of t f ∈ functions_of t tree) × Alike (fronts f) o (block_of t f.body)
  function_to no_parts k k' m = elim m [ ]
  function_to (an_import h) k k' m = function_to h k k' m
  function_to (a_function {f = f} {ps = ps} h q) k k' first = (f, first, function_like h (counted_left (inner_body f.body) (inner_tree ps) k) (counted_left (own_body f.body) (own_tree ps) k'))
  function_to (a_function {f = f} {ps = ps} h q) k k' (later m) = let r = function_to q (counted_right (inner_body f.body) (inner_tree ps) k) (counted_right (own_body f.body) (own_tree ps) k') m in (r.0, later r.1, r.2)
  function_to (a_statement {s = s} {ps = ps} h q) k k' m = function_to q (counted_right (inner_statement s) (inner_tree ps) k) (counted_right (own_statement s) (own_tree ps) k') m

  pub function_from : {names : List (List ℕ)} {g : Scope} {tree : Tree} {c : Function} → PartsTyped fs t names g tree → Counted Taken (inner_tree tree) → Counted Own (own_tree tree) → c ∈ functions_of t tree
      → (f : Composite) × (o : Outline) × (o ∈ function_outlines t tree) × Alike (fronts f) o (block_of t f.body) × (function_of t f ≡ c)
  function_from no_parts k k' m = elim m [ ]
  function_from (an_import h) k k' m = function_from h k k' m
  function_from (a_function {f = f} {ps = ps} h q) k k' first = (f, outlined (function_steps t f), first, function_like h (counted_left (inner_body f.body) (inner_tree ps) k) (counted_left (own_body f.body) (own_tree ps) k'), refl)
  function_from (a_function {f = f} {ps = ps} h q) k k' (later m) =
      let r = function_from q (counted_right (inner_body f.body) (inner_tree ps) k) (counted_right (own_body f.body) (own_tree ps) k') m in (r.0, r.1, later r.2, r.3, r.4)
  function_from (a_statement {s = s} {ps = ps} h q) k k' m = function_from q (counted_right (inner_statement s) (inner_tree ps) k) (counted_right (own_statement s) (own_tree ps) k') m

-- PAIRS

-- what a declaration in front of a block's statements is
pub data Known (s : Core) (d : Declared) (b : Block) : Type 0 where
  known_given : d.role ≡ given → Given s d.what b → Known s d b
  known_result : {f : Function} {j : ℕ} → d.role ≡ result → f ∈ s.functions → j < f.outputs → d.what ≡ output j → f.body ≡ b → Known s d b

-- a block of an outline, with the block of the script that it stands for
pub record Meant (R : List Step → Stmt → Type 0) (s : Core) (o : Outline) : Type 0 where
  pub block : Block
  pub front : List Declared
  pub like : Like R front o block
  pub there : block ∈ script_blocks s
  pub known : (d : Declared) → d ∈ front → Known s d block

given_loop : {s : Core} {e c : Block} {at n v : ℕ} {k : Option ℕ} {a : Action} {ds : List Declared} {d : Declared} → e ∈ script_blocks s → stmt at n a ∈ block_list e → IsLoop a v k c
    → Turns ds v k → d ∈ ds → Known s d c
given_loop {s} {c = c} {v = v} m i a_range (value_alone w r) first = known_given r (subst (λ (x : Owned). Given s x c) (sym w) (range_value (among_script s m i)))
given_loop {s} {c = c} m i a_range (with_key w r x q) first = known_given r (subst (λ (x : Owned). Given s x c) (sym w) (range_value (among_script s m i)))
given_loop {s} {c = c} m i a_range (with_key w r x q) (later first) = known_given q (subst (λ (x : Owned). Given s x c) (sym x) (range_turn (among_script s m i)))
given_loop {s} {c = c} m i an_each (value_alone w r) first = known_given r (subst (λ (x : Owned). Given s x c) (sym w) (each_value (among_script s m i)))
given_loop {s} {c = c} m i an_each (with_key w r x q) first = known_given r (subst (λ (x : Owned). Given s x c) (sym w) (each_value (among_script s m i)))
given_loop {s} {c = c} m i an_each (with_key w r x q) (later first) = known_given q (subst (λ (x : Owned). Given s x c) (sym x) (each_key (among_script s m i)))
given_loop m i l (value_alone w r) (later j) = elim j [ ]
given_loop m i l (with_key w r x q) (later (later j)) = elim j [ ]

-- the blocks inside stand for blocks of the script too
pub meant_inside : {R : List Step → Stmt → Type 0} {s : Core} {o p : Outline} {st : Step} → Meant R s o → BlockIn p o → HasStep st p → Meant R s p
meant_inside {R} {s} {p = p} m i h = by m (down m.like i h)
  where
    by : {o : Outline} → (m : Meant R s o) → Pair R m.front m.block p → Meant R s p
    by m r = record { block = r.block; front = r.front; like = r.like; there = below_script s m.there r.below; known = λ d j. known m.there m.known r.fronted j }
      where
        known : {ds es : List Declared} {b c : Block} {d : Declared} → b ∈ script_blocks s → ((d : Declared) → d ∈ ds → Known s d b) → Fronted ds b es c → d ∈ es → Known s d c
        known {d = d} m k the_front j = k d j
        known m k no_front j = elim j [ ]
        known m k (loop_front r i l t) j = given_loop (below_script s m r) i l t j
