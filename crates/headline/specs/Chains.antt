-- The script's reading of the inputs of tasks: the data of the code as the script determines them.
use Rattle.std.specs.Prelude.{◌≡◌, ℕ, ◌<◌, ℤ, true, false, pos, Bool, List, [], Some, slice_get, length}
use Rattle.dataflow.specs.System.{In, Input, StoredScalar, ClosedArray, ElementOf, ElementAt, Answer, Found, Missing, Content}
use Rattle.values.specs.declared.key.Key.{Key}
use Rattle.values.specs.declared.value.Scalar.{Scalar}
use Rattle.values.specs.declared.value.Value.{Value}
use Rattle.language.specs.Core.{Name, literal, name, compute, Cell, Call, Part, Stmt, stmt, Action, wait, Awaited, Block, no_stmts, stmts, Function, Core}
use Rattle.language.specs.Facts.{element, Knowledge, OneWrite}
use Rattle.language.specs.Meaning.{Closed, HasValue, Ready, LiveStmt}
use Rattle.language.specs.Members.{◌∈◌}
use Rattle.language.specs.Openings.{Opens}
use Rattle.language.specs.Parts.{part_cells, cells, stmt_calls, block_list}
use Rattle.language.specs.Places.{Path, Place, place, max_path_steps}
use Rattle.task_code.specs.Code.{Variable, Code, Through, InPlace, entry, body, ways}
use Rattle.task_code.specs.Compute.{in_key_order, key_of}
use Rattle.task_code.specs.Effects.{step_at}
use Rattle.task_code.specs.Places.{Step, Datum, Constant, Nowhere}
use Rattle.task_code.specs.Places as CodePlaces
use Rattle.headline.specs.Headline.{script_path, script_place}
use Rattle.code_rules.specs.IsCodeOf.{Layout, CallAs, BodyAs}

module _ (s : Core) (K : Knowledge) where
  -- all elements of a closed array, in order
  pub record AllElements (a : Place) (xs : List (Key × Scalar)) : Type 0 where
    pub closed : Closed s K a
    pub in_order : in_key_order xs ≡ true
    pub all : (k : Key) (w : Place) (v : Scalar) → K (element a k w v) → In (k, v) xs
    pub only : (k : Key) (v : Scalar) → In (k, v) xs → (w : Place) × K (element a k w v)

  -- a closed array without the key
  pub record Lacks (a : Place) (k : Key) : Type 0 where
    pub closed : Closed s K a
    pub none : (w : Place) (v : Scalar) → K (element a k w v) → ⊥

  -- the script's value of a datum
  abbrev pub Has : CodePlaces.Place → Scalar → Type 0
  Has (Datum p v) x = HasValue s K (script_place p v) x
  Has (Constant c) x = ⊥
  Has Nowhere x = ⊥

  abbrev pub HasElement : CodePlaces.Place → Key → Answer Key Scalar → Type 0
  HasElement (Datum p v) k (Found x) = OneWrite K (script_place p v) k x
  HasElement (Datum p v) k Missing = Lacks (script_place p v) k
  HasElement (Datum p v) k (Content xs) = ⊥
  HasElement (Constant c) k x = ⊥
  HasElement Nowhere k x = ⊥

  abbrev pub HasAll : CodePlaces.Place → Answer Key Scalar → Type 0
  HasAll (Datum p v) x = (xs : List (Key × Scalar)) × AllElements (script_place p v) xs × (x ≡ Content xs)
  HasAll (Constant c) x = ⊥
  HasAll Nowhere x = ⊥

  -- the script's answer to an input of a task
  abbrev pub Answers : Input CodePlaces.Place Key → Answer Key Scalar → Type 0
  Answers (StoredScalar d) x = (v : Scalar) × Has d v × (x ≡ Found v)
  Answers (ClosedArray a) x = HasAll a x
  Answers (ElementOf a k) x = HasElement a k x
  Answers (ElementAt a d) x = (v : Scalar) × Has d v × HasElement a (key_of v) x

module _ (s : Core) (C : Code) (l : Layout) (K : Knowledge) where
  -- a place of the code stands for a place of the script: it is the same place; or the script has a plain cell of a
  -- live statement there. The place of the code then stands for the name, or is the literal, that the cell consists of
  pub data Stands : Bool → CodePlaces.Place → Place → Type 0 where
    same : {p : List Step} {v : Variable} → Stands v.array (Datum p v) (script_place p v)
    plain : {path : Path} {st : Stmt} {n : ℕ} {x : Name} {a : CodePlaces.Place}
        → LiveStmt s K path st → record { node = n; form = compute (name x) } ∈ cells st → l.plain n ≡ true → Stands false a (place s path x) → Stands false a (path, n)
    constant : {path : Path} {st : Stmt} {n : ℕ} {v : Scalar}
        → LiveStmt s K path st → record { node = n; form = compute (literal v) } ∈ cells st → l.plain n ≡ true → Stands false (Constant v) (path, n)

  -- a wait, or the innermost of several merged ones, whose headers are all ready
  pub data Waited (path : Path) : Stmt → Block → Type 0 where
    one_ready : {at n : ℕ} {ns : List Awaited} {c : Block} → Ready s K path (wait ns c) [] → Waited path (stmt at n (wait ns c)) c
    more_ready : {at n : ℕ} {ns : List Awaited} {st : Stmt} {c : Block} → Ready s K path (wait ns (stmts st no_stmts)) [] → Waited path st c → Waited path (stmt at n (wait ns (stmts st no_stmts))) c

  -- a live block of the script with the body that stands for it, and how both were opened; `k` is the number of inputs
  -- of the enclosing function
  pub data Chain : List Step → ℕ → ℕ → Block → Type 0 where
    at_script : BodyAs C l 0 s.body 0 → Chain [] 0 0 s.body
    by_header : {p : List Step} {t k : ℕ} {b : Block} {at n : ℕ} {a : Action} {c : Block} {u : ℕ} (j : ℕ) {vs : List Value} {key : Key}
        → Chain p t k b → stmt at n a ∈ block_list b → In j (body C t).entries → (entry C j).offset ≡ at → In (Through, u) (ways (entry C j).act)
        → BodyAs C l k c u → Ready s K (script_path p) a vs → Opens a vs key c → length (script_path p) < max_path_steps → Chain (step_at at key p) u k c
    by_wait : {p : List Step} {t k : ℕ} {b : Block} {st : Stmt} {c : Block} {u : ℕ} (j : ℕ)
        → Chain p t k b → st ∈ block_list b → In j (body C t).entries → In (InPlace, u) (ways (entry C j).act) → BodyAs C l k c u → Waited (script_path p) st c → Chain p u k c
    by_call : {p : List Step} {t k : ℕ} {b : Block} {st : Stmt} {c : Call} {f : Function} {all : List Part} {at : ℕ} {pr : ℤ} (j : ℕ)
        → Chain p t k b → st ∈ block_list b → c ∈ stmt_calls st → In j (body C t).entries → CallAs C l k all at pr c j → ((d : Cell) → d ∈ part_cells all → d ∈ cells st)
        → slice_get s.functions c.function ≡ Some f → length c.inputs ≡ f.inputs → BodyAs C l f.inputs f.body (l.body_of c.function)
        → length (script_path p) < max_path_steps → Chain (step_at c.at (Key.Number (pos 0)) p) (l.body_of c.function) f.inputs f.body
