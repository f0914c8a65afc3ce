-- Sets taken to be live, closed and known of names, and what follows from them at once. These are the rules of the
-- meaning without their mutual recursion. States docs/LANGUAGE.md: Blocks and paths; Closing.
use Rattle.std.specs.Prelude.{◌≡◌, ℕ, ◌<◌, ℤ, pos, List, [], ◌∷◌, length, Option, Some, slice_get}
use Rattle.values.specs.declared.key.Key.{Key}
use Rattle.values.specs.declared.map.Element.{Element}
use Rattle.values.specs.declared.value.Scalar.{Scalar}
use Rattle.values.specs.declared.value.Value.{Value}
use Rattle.values.specs.declared.value.Value.TheVariants.{One, Many}
use Rattle.language.specs.Core.{Owned, local, output, Name, Call, Part, Outer, Awaited, scalar, array, Stmt, stmt, Action, declare, call_alone, fill, insert, each, wait, Block, Function, Core}
use Rattle.language.specs.Facts.{Fact, value, element, Knowledge, OneWriter, Elements, KnownAll}
use Rattle.language.specs.Meaning.{IsTarget, Live, Closed, HasValue, LiveStmt}
use Rattle.language.specs.Members.{◌∈◌}
use Rattle.language.specs.Openings.{Decides, Opens, InTurn, Branches}
use Rattle.language.specs.Parts.{outer_cells, block_list, stmt_calls, function_body}
use Rattle.language.specs.Places.{Path, Place, place, max_path_steps}

-- the statements taken to be live, the arrays taken to be closed, and the scalars at places
pub record Taken : Type 1 where
  pub live : Path → Stmt → Type 0
  pub closed : Place → Type 0
  pub has : Place → Scalar → Type 0

-- an input of a `wait` is taken to be known
abbrev pub ComeBy : Core → Taken → Path → Awaited → Type 0
ComeBy s T path (scalar x) = (v : Scalar) × T.has (place s path x) v
ComeBy s T path (array x) = T.closed (place s path x)

-- the choice of a header is known, given what is taken
pub data ReadyBy (s : Core) (K : Knowledge) (T : Taken) : Path → Action → List Value → Type 0 where
  by_cells : {path : Path} {header : Action} {vs : List Value}
      → KnownAll K path (outer_cells header) vs → Decides header vs → ReadyBy s K T path header vs
  by_source : {path : Path} {a : Name} {x : ℕ} {t : Option ℕ} {b : Block} {es : List Element}
      → T.closed (place s path a) → Elements K (place s path a) es → ReadyBy s K T path (each a x t b) (Many es ∷ [])
  by_names : {path : Path} {ns : List Awaited} {b : Block}
      → ((x : Awaited) → x ∈ ns → ComeBy s T path x) → ReadyBy s K T path (wait ns b) []

-- a statement is finished for an array, given what is taken
pub data FinishedBy (s : Core) (K : Knowledge) (T : Taken) : Owned → Path → Stmt → Type 0 where
  no_target_by : {a : Owned} {path : Path} {st : Stmt} → (IsTarget a st → ⊥) → FinishedBy s K T a path st
  value_by : {a : Owned} {path : Path} {at n : ℕ} {x : Name} {c : Outer} {v : Value}
      → K (value (path, c.cell.node) v) → FinishedBy s K T a path (stmt at n (fill x c))
  write_by : {a : Owned} {path : Path} {at n : ℕ} {x : Name} {i c : Outer} {k : Key} {v : Scalar}
      → K (element (place s path x) k (path, n) v) → FinishedBy s K T a path (stmt at n (insert x i c))
  body_by : {a : Owned} {path : Path} {at n : ℕ} {p : ℤ} {ps : List Part} {c : Call}
      → length path < max_path_steps
      → ((j : ℕ) (x : Name) (st : Stmt) → slice_get c.outputs j ≡ Some x → x.what ≡ a → st ∈ function_body s c.function
      → FinishedBy s K T (output j) ((c.at, Key.Number (pos 0)) ∷ path) st)
      → FinishedBy s K T a path (stmt at n (call_alone p ps c))
  blocks_by : {a : Owned} {path : Path} {at n : ℕ} {header : Action} {vs : List Value}
      → Branches header → ReadyBy s K T path header vs
      → ((k : Key) (b : Block) → Opens header vs k b → length path < max_path_steps)
      → ((k : Key) (b : Block) (st : Stmt) → Opens header vs k b → st ∈ block_list b → FinishedBy s K T a ((at, k) ∷ path) st)
      → FinishedBy s K T a path (stmt at n header)
  content_by : {a : Owned} {path : Path} {at n : ℕ} {ns : List Awaited} {b : Block}
      → ReadyBy s K T path (wait ns b) []
      → ((st : Stmt) → st ∈ block_list b → FinishedBy s K T a path st)
      → FinishedBy s K T a path (stmt at n (wait ns b))

-- soundness: what is taken holds in the meaning
pub record IsSo (s : Core) (K : Knowledge) (T : Taken) : Type 0 where
  pub live : (path : Path) (st : Stmt) → T.live path st → LiveStmt s K path st
  pub closed : (a : Place) → T.closed a → Closed s K a
  pub has : (p : Place) (v : Scalar) → T.has p v → HasValue s K p v

-- what follows at once from what is taken is taken too
pub record IsSettled (s : Core) (K : Knowledge) (T : Taken) : Type 0 where
  pub script : (st : Stmt) → st ∈ block_list s.body → T.live [] st
  pub opened : (path : Path) (at n : ℕ) (header : Action) (vs : List Value) (k : Key) (c : Block) (st : Stmt)
      → T.live path (stmt at n header) → ReadyBy s K T path header vs → Opens header vs k c → length path < max_path_steps
      → st ∈ block_list c → T.live ((at, k) ∷ path) st
  pub waited : (path : Path) (at n : ℕ) (ns : List Awaited) (c : Block) (st : Stmt)
      → T.live path (stmt at n (wait ns c)) → ReadyBy s K T path (wait ns c) [] → st ∈ block_list c → T.live path st
  pub called : (path : Path) (caller st : Stmt) (c : Call) (f : Function)
      → T.live path caller → c ∈ stmt_calls caller → slice_get s.functions c.function ≡ Some f → length path < max_path_steps
      → st ∈ block_list f.body → T.live ((c.at, Key.Number (pos 0)) ∷ path) st
  pub closed : (path : Path) (b : Block) (at n m : ℕ) → Live s K path b → ((st : Stmt) → st ∈ block_list b → T.live path st) → stmt at m (declare n) ∈ block_list b
      → ((st : Stmt) → st ∈ block_list b → FinishedBy s K T (local n) path st) → OneWriter K (path, n) → T.closed (path, n)
  pub stored : (p : Place) (v : Scalar) → K (value p (One v)) → T.has p v
  pub in_turn : (path : Path) (at n x : ℕ) (header : Action) (vs : List Value) (k : Key) (b : Block) (v : Scalar)
      → T.live path (stmt at n header) → ReadyBy s K T path header vs → Opens header vs k b → InTurn header vs k x v
      → length path < max_path_steps → T.has ((at, k) ∷ path, x) v

-- what follows at once from what is taken holds in the meaning
pub record FollowsSo (s : Core) (K : Knowledge) (T : Taken) : Type 0 where
  pub opened : (path : Path) (at n : ℕ) (header : Action) (vs : List Value) (k : Key) (c : Block) (st : Stmt)
      → T.live path (stmt at n header) → ReadyBy s K T path header vs → Opens header vs k c → length path < max_path_steps
      → st ∈ block_list c → LiveStmt s K ((at, k) ∷ path) st
  pub waited : (path : Path) (at n : ℕ) (ns : List Awaited) (c : Block) (st : Stmt)
      → T.live path (stmt at n (wait ns c)) → ReadyBy s K T path (wait ns c) [] → st ∈ block_list c → LiveStmt s K path st
  pub called : (path : Path) (caller st : Stmt) (c : Call) (f : Function)
      → T.live path caller → c ∈ stmt_calls caller → slice_get s.functions c.function ≡ Some f → length path < max_path_steps
      → st ∈ block_list f.body → LiveStmt s K ((c.at, Key.Number (pos 0)) ∷ path) st
  pub closed : (path : Path) (b : Block) (at n m : ℕ) → Live s K path b → stmt at m (declare n) ∈ block_list b
      → ((st : Stmt) → st ∈ block_list b → FinishedBy s K T (local n) path st) → OneWriter K (path, n) → Closed s K (path, n)
  pub in_turn : (path : Path) (at n x : ℕ) (header : Action) (vs : List Value) (k : Key) (b : Block) (v : Scalar)
      → T.live path (stmt at n header) → ReadyBy s K T path header vs → Opens header vs k b → InTurn header vs k x v
      → length path < max_path_steps → HasValue s K ((at, k) ∷ path, x) v

-- the knowledge of exactly these facts
abbrev pub Knows : List Fact → Knowledge
Knows fs f = f ∈ fs

-- these statements are taken to be live, these arrays to be closed, and these scalars to be at places
abbrev pub taken : List (Path × Stmt) → List Place → List (Place × Scalar) → Taken
taken ls cs vs = record {
  live = λ path st. ◌∈◌ {X = Path × Stmt} (path, st) ls;
  closed = λ a. a ∈ cs;
  has = λ p v. ◌∈◌ {X = Place × Scalar} (p, v) vs;
}
