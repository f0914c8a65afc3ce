-- The variables of a script's core and the declarations of its outlines, with their blocks.
use Rattle.std.specs.Prelude.{◌≡◌, ◌⊎◌, ℕ, ◌+◌, ◌<◌, List, [], ◌++◌, Option, Some, refl}
use Rattle.std.proofs.Common.{inl, inr, sym, ap, ◌∙◌, subst, arith}
use Rattle.language.specs.Core.{Owned, local, input, output, Stmt, stmt, Action, Block, Function, Core}
use Rattle.language.specs.Members.{◌∈◌, first, later}
use Rattle.language.specs.Parts.{block_list, script_blocks, script_stmts}
use Rattle.language.specs.Resolved.{block_of, script_block, functions_of, core}
use Rattle.language.specs.Scopes.{signatures}
use Rattle.language.specs.Single as single
use Rattle.language.specs.Single.{declared_here, an_output, Given, an_input, range_value, range_turn, each_value, each_key}
use Rattle.language.specs.Table.{Table}
use Rattle.language.specs.Tree.{Composite, Tree}
use Rattle.language.specs.Typing.{WellTyped}
use Rattle.language.proofs.Members.{split_in, to_left, to_right, either}
use Rattle.language.proofs.Tested.{among_split}
use Rattle.assign_check.specs.Outline.{Role, own, result, given, Declared, Outline, Step, declares, outlined, script_steps, function_outlines, outlines}
use Rattle.assign_check.specs.Through.{HasStep, the_block, in_a_step, BlockOf, in_loop}
use Rattle.assign_check.proofs.clauses.SingleOutline.{Owns}
use Rattle.assign_check.proofs.like.Like.{IsLoop, a_range, an_each, Turns, value_alone, with_key, Like, StepLike, like_when, like_choose, like_loop, like_wait, result_is_not_given, own_is_not_given, own_is_not_result}
use Rattle.assign_check.proofs.like.CoreBlocks.{Below, script_split, function_block, in_block}
use Rattle.assign_check.proofs.like.LikeSteps.{Back, up, stands, front_has}
use Rattle.assign_check.proofs.like.LikeUses.{declared_there, declaration_of}
use Rattle.assign_check.proofs.uses.Reading.{Counted}
use Rattle.assign_check.proofs.uses.Statements.{SameReads}
use Rattle.assign_check.proofs.outlines.Pairs.{declared_list, fronts, parameter_at, at_parameter, inner_tree, own_tree, function_of, script_like, function_to, function_from, Known, known_given, known_result, Meant}

-- LOOPS

-- the step of a loop, with its body
record LoopStep (R : List Step → Stmt → Type 0) (s : Step) (v : ℕ) (k : Option ℕ) (b : Block) : Type 0 where
  front : List Declared
  outline : Outline
  turns : Turns front v k
  like : Like R front outline b
  inside : BlockOf outline s

loop_step : {R : List Step → Stmt → Type 0} {s : Step} {a : Action} {v : ℕ} {k : Option ℕ} {b : Block} → StepLike R s a → IsLoop a v k b → LoopStep R s v k b
loop_step (like_loop {ds = ds} {p = p} a_range t l) a_range = record { front = ds; outline = p; turns = t; like = l; inside = in_loop the_block }
loop_step (like_loop {ds = ds} {p = p} an_each t l) an_each = record { front = ds; outline = p; turns = t; like = l; inside = in_loop the_block }
loop_step (like_when l) i = elim i [ ]
loop_step (like_choose l k) i = elim i [ ]
loop_step (like_wait l) i = elim i [ ]

pub loop_is_not_simple : {a : Action} {v : ℕ} {k : Option ℕ} {b : Block} → IsLoop a v k b → single.IsSimple a → ⊥
loop_is_not_simple a_range i = i
loop_is_not_simple an_each i = i

turn_value : {ds : List Declared} {v : ℕ} {k : Option ℕ} → Turns ds v k → (d : Declared) × (d ∈ ds) × (d.role ≡ given) × (d.what ≡ local v)
turn_value (value_alone {d = d} w r) = (d, first, r, w)
turn_value (with_key {d = d} w r x q) = (d, first, r, w)

turn_key : {ds : List Declared} {v k : ℕ} → Turns ds v (Some k) → (d : Declared) × (d ∈ ds) × (d.role ≡ given) × (d.what ≡ local k)
turn_key (with_key {e = e} w r x q) = (e, later first, q, x)

-- SCRIPTS

module _ (Taken Own : ℕ → Type 0) (t : Table) (tree : Tree) (typed : WellTyped tree t) (counted : Counted Taken (inner_tree tree)) (owned : Counted Own (own_tree tree)) where
  abbrev Alike : List Declared → Outline → Block → Type 0
  Alike ds o b = Like (SameReads Taken Own) ds o b

  -- each outline of the script stands for a body
  pub outline_meant : {o : Outline} → o ∈ outlines t tree → Meant (SameReads Taken Own) (core t tree) o
  outline_meant m = elim (split_in m) [
    | inl e ↦ subst (λ (o : Outline). Meant (SameReads Taken Own) (core t tree) o) (sym e)
        (record { block = script_block t tree; front = []; like = script_like Taken Own (signatures tree) t typed counted owned; there = first; known = λ d i. elim i [ ] })
    | inr i ↦ (
        let r = function_to Taken Own (signatures tree) t typed counted owned i in
        record { block = block_of t (r.0).body; front = fronts r.0; like = r.2; there = function_block (core t tree) r.1; known = λ d j. known r.0 r.1 j })
  ]
    where
      known : (f : Composite) → function_of t f ∈ functions_of t tree → {d : Declared} → d ∈ fronts f → Known (core t tree) d (block_of t f.body)
      known f m {d} j = elim (either (declared_list result output 0 f.outputs) (declared_list given input 0 f.inputs ++ []) j) [
        | inl i ↦ (
            let q = parameter_at result output 0 f.outputs i in
            let e : 0 + q.1.0 ≡ q.1.0 = omega arith in
            known_result q.0 m q.1.1 (q.1.2 ∙ ap output e) refl)
        | inr i ↦ elim (either (declared_list given input 0 f.inputs) [] i) [
          | inl i ↦ (
              let q = parameter_at given input 0 f.inputs i in
              let e : 0 + q.1.0 ≡ q.1.0 = omega arith in
              known_given q.0 (subst (λ (x : Owned). Given (core t tree) x (block_of t f.body)) (sym (q.1.2 ∙ ap input e)) (an_input m q.1.1)))
          | inr i ↦ elim i [ ]
        ]
      ]

  -- a block of the script, with the block of an outline that stands for it
  pub record Found (b : Block) : Type 0 where
    pub outline : Outline
    pub there : outline ∈ outlines t tree
    pub back : Back (SameReads Taken Own) outline b

  pub found : {b : Block} → b ∈ script_blocks (core t tree) → Found b
  found {b} m = elim (script_split (core t tree) m) [
    | inl r ↦ record { outline = outlined (script_steps t tree); there = first; back = up (script_like Taken Own (signatures tree) t typed counted owned) r }
    | inr q ↦ by q.0 q.1 q.2
  ]
    where
      by : (c : Function) → c ∈ functions_of t tree → Below b c.body → Found b
      by c m r =
          let q = function_from Taken Own (signatures tree) t typed counted owned m in
          record { outline = q.1; there = later q.2; back = up q.3 (subst (λ (f : Function). Below b f.body) (sym q.4) r) }

  -- a variable of the core with its block, and the declaration of an outline with its block
  pub record Owner (P : Role → Type 0) (x : Owned) (b : Block) : Type 0 where
    pub outline : Outline
    pub there : outline ∈ outlines t tree
    pub declared : Declared
    pub inner : Outline
    pub front : List Declared
    pub like : Alike front inner b
    pub owns : Owns outline declared inner
    pub role : P declared.role
    pub is : declared.what ≡ x

  pub output_owner : {c : Function} {j : ℕ} → c ∈ functions_of t tree → j < c.outputs → Owner (λ r. r ≡ result) (output j) c.body
  output_owner {c} {j} m l = let q = function_from Taken Own (signatures tree) t typed counted owned m in by q.0 q.1 q.2 q.3 q.4 l
    where
      by : (f : Composite) (o : Outline) → o ∈ function_outlines t tree → Alike (fronts f) o (block_of t f.body) → function_of t f ≡ c → j < c.outputs → Owner (λ r. r ≡ result) (output j) c.body
      by f o i k e = subst (λ (c : Function). j < c.outputs → Owner (λ r. r ≡ result) (output j) c.body) e (λ l.
          let d = at_parameter result output 0 j f.outputs l in
          let q : 0 + j ≡ j = omega arith in
          record {
            outline = o;
            there = later i;
            declared = d.0;
            inner = o;
            front = fronts f;
            like = k;
            owns = record { block = the_block; declared = front_has k (to_left (declared_list result output 0 f.outputs) (declared_list given input 0 f.inputs ++ []) d.1) };
            role = d.2;
            is = d.3 ∙ ap output q;
          })

  pub owner_of : {x : Owned} {b : Block} → single.Owns (core t tree) x b → Owner (λ r. r ≡ given → ⊥) x b
  owner_of (declared_here {b = b} m i) =
      let f = found m in
      let d = declaration_of f.back.like i in
      record {
        outline = f.outline;
        there = f.there;
        declared = d.0;
        inner = f.back.outline;
        front = f.back.front;
        like = f.back.like;
        owns = record { block = f.back.inside; declared = d.1 };
        role = λ e. own_is_not_given d.3 e;
        is = d.2;
      }
  owner_of (an_output m l) = let o = output_owner m l in
      record {
        outline = o.outline;
        there = o.there;
        declared = o.declared;
        inner = o.inner;
        front = o.front;
        like = o.like;
        owns = o.owns;
        role = λ e. result_is_not_given o.role e;
        is = o.is;
      }

  loop_owner : {x : Owned} {b : Block} {at n v : ℕ} {k : Option ℕ} {a : Action} → stmt at n a ∈ script_stmts (core t tree) → IsLoop a v k b
      → ((ds : List Declared) → Turns ds v k → (d : Declared) × (d ∈ ds) × (d.role ≡ given) × (d.what ≡ x)) → Owner (λ r. r ≡ given) x b
  loop_owner {x} {b} {at} {n} {v} {k} {a} m l g = let q = among_split (script_blocks (core t tree)) m in by (found q.1) q.2
    where
      by : {c : Block} → Found c → stmt at n a ∈ block_list c → Owner (λ r. r ≡ given) x b
      by f i = elim (stands f.back.like i).rest [
        | inl j ↦ absurd (loop_is_not_simple l j)
        | inr q ↦ (
            let w = loop_step q.2 l in
            let d = g w.front w.turns in
            record {
              outline = f.outline;
              there = f.there;
              declared = d.0;
              inner = w.outline;
              front = w.front;
              like = w.like;
              owns = record { block = in_block (in_a_step q.1 w.inside) f.back.inside; declared = front_has w.like d.1 };
              role = d.2;
              is = d.3;
            })
      ]

  pub giver_of : {x : Owned} {b : Block} → Given (core t tree) x b → Owner (λ r. r ≡ given) x b
  giver_of (an_input {f = c} {j = j} m l) = let q = function_from Taken Own (signatures tree) t typed counted owned m in by q.0 q.1 q.2 q.3 q.4 l
    where
      by : (f : Composite) (o : Outline) → o ∈ function_outlines t tree → Alike (fronts f) o (block_of t f.body) → function_of t f ≡ c → j < c.inputs → Owner (λ r. r ≡ given) (input j) c.body
      by f o i k e = subst (λ (c : Function). j < c.inputs → Owner (λ r. r ≡ given) (input j) c.body) e (λ l.
          let d = at_parameter given input 0 j f.inputs l in
          let q : 0 + j ≡ j = omega arith in
          record {
            outline = o;
            there = later i;
            declared = d.0;
            inner = o;
            front = fronts f;
            like = k;
            owns = record {
              block = the_block;
              declared = front_has k (to_right (declared_list result output 0 f.outputs) (declared_list given input 0 f.inputs ++ []) (to_left (declared_list given input 0 f.inputs) [] d.1));
            };
            role = d.2;
            is = d.3 ∙ ap input q;
          })
  giver_of (range_value m) = loop_owner m a_range (λ ds w. turn_value w)
  giver_of (range_turn m) = loop_owner m a_range (λ ds w. turn_key w)
  giver_of (each_value m) = loop_owner m an_each (λ ds w. turn_value w)
  giver_of (each_key m) = loop_owner m an_each (λ ds w. turn_key w)

-- WHAT A DECLARATION IS

-- a declaration in a block that stands for one of the script is one of the script
pub data Side (s : Core) (d : Declared) (b : Block) : Type 0 where
  side_known : Known s d b → Side s d b
  side_own : d.role ≡ own → single.Owns s d.what b → Side s d b

pub side_of : {R : List Step → Stmt → Type 0} {s : Core} {o : Outline} {d : Declared} → (m : Meant R s o) → HasStep (declares d) o → Side s d m.block
side_of {s = s} {d = d} m h = elim (declared_there m.like h) [
  | inl i ↦ side_known (m.known d i.0)
  | inr q ↦ side_own q.5 (subst (λ (x : Owned). single.Owns s x m.block) (sym q.4) (declared_here m.there q.3))
]

pub owns_side : {s : Core} {d : Declared} {b : Block} → Side s d b → (d.role ≡ given → ⊥) → single.Owns s d.what b
owns_side (side_own r w) f = w
owns_side (side_known (known_given r w)) f = absurd (f r)
owns_side {s} {d} {b} (side_known (known_result {f = c} {j = j} r m l w e)) f =
    subst (λ (x : Owned). single.Owns s x b) (sym w) (subst (λ (z : Block). single.Owns s (output j) z) e (an_output m l))

pub given_side : {s : Core} {d : Declared} {b : Block} → Side s d b → d.role ≡ given → Given s d.what b
given_side (side_own r w) e = absurd (own_is_not_given r e)
given_side (side_known (known_given r w)) e = w
given_side (side_known (known_result r m l w q)) e = absurd (result_is_not_given r e)

-- an output's declaration, with its function
pub result_side : {s : Core} {d : Declared} {b : Block} → Side s d b → d.role ≡ result → (f : Function) × (j : ℕ) × (f ∈ s.functions) × (j < f.outputs) × (d.what ≡ output j) × (f.body ≡ b)
result_side (side_own r w) e = absurd (own_is_not_result r e)
result_side (side_known (known_given r w)) e = absurd (result_is_not_given e r)
result_side (side_known (known_result {f = c} {j = j} r m l w q)) e = (c, j, m, l, w, q)

-- a declaration is of a variable that is to be assigned, or of one that counts as assigned
pub either_side : {s : Core} {d : Declared} {b : Block} → Side s d b → single.Owns s d.what b ⊎ Given s d.what b
either_side (side_own r w) = inl w
either_side (side_known (known_given r w)) = inr w
either_side {d = d} (side_known (known_result r m l w e)) = inl (owns_side {d = d} (side_known (known_result r m l w e)) (λ q. result_is_not_given r q))
