-- How code is laid for a core, rule by rule: the entries and bodies that a statement appends, the numbers of its
-- entries, and the variables that its block declares for it. Rights, and the offsets of cells, which only a listing
-- shows, are left open.
use Rattle.std.specs.Prelude.{◌≡◌, ℕ, zero, suc, ◌+◌, Bool, true, false, not, List, [], ◌∷◌, ◌++◌, map, length, Option, Some, None, slice_get, nat_eq, ℤ, pos}
use Rattle.std.specs.List.{list_any, flat_map}
use Rattle.dataflow.specs.System.{In}
use Rattle.language.specs.Core.{Owned, local, Name, here, literal, name, Form, compute, read, Cell, Call, Part, inner, calls, Outer, Awaited, Stmt, stmt, Action, declare, call_alone, when, choose, range, each, wait, Block, no_stmts, stmts, Function, Core}
use Rattle.language.specs.Members.{◌∈◌}
use Rattle.language.specs.Parts.{parts, part_calls, part_cells}
use Rattle.language_laws.specs.TypedValues.{own_parts}
use Rattle.task_code.specs.Code as code
use Rattle.task_code.specs.Code.{Variable, Named, Fixed, Argument, Header, Act, If, Range, Each, Wait, Entry, Body, Code, ByMain, ByCalls, ByStep, ByWait, is_array_name, loop_variables, scalar}
use Rattle.code_rules.specs.CodeNames.{over, header, each_once}
use Rattle.code_rules.specs.IsCodeOf.{Layout, OwnPlain, IsSimple, own_needs, own_priority, simple_act, step_expr, seen, IsEntry, PartsAs}

-- WHICH CELLS HAVE DATA

-- the node of a name in its own block, if it is a variable or a cell of that block
abbrev pub node_here : ℕ → Owned → Option ℕ
node_here zero (local n) = Some n
node_here _ _ = None

abbrev pub local_node : Name → Option ℕ
local_node x = node_here x.up x.what

abbrev pub same_node : Option ℕ → Option ℕ → Bool
same_node (Some m) (Some n) = nat_eq m n
same_node _ _ = false

-- the immediately preceding call has this scalar as an output
abbrev pub gives : Option Part → Name → Bool
gives (Some (calls c)) x = list_any (λ y. same_node (local_node x) (local_node y)) c.outputs
gives (Some (inner c)) x = false
gives None x = false

-- a cell that is a literal or a scalar's name is plain, unless the immediately preceding call has the scalar as an
-- output
abbrev pub plain_after : Option Part → Form → Bool
plain_after p (compute (literal v)) = true
plain_after p (compute (name x)) = not (gives p x)
plain_after p _ = false

-- a layout agrees with the parts of a statement; the given part precedes them
abbrev pub PlainAs : Layout → Option Part → List Part → Type 0
PlainAs l p [] = Unit {0}
PlainAs l p (inner c ∷ ps) = (l.plain c.node ≡ plain_after p c.form) × PlainAs l (Some (inner c)) ps
PlainAs l p (calls c ∷ ps) = PlainAs l (Some (calls c)) ps

-- a layout agrees with the whole statement; the bodies of functions follow the script's
pub record Suits (l : Layout) (a : Action) : Type 0 where
  pub own : OwnPlain l a
  pub parts_plain : PlainAs l None (own_parts a)
  pub bodies : (i : ℕ) → l.body_of i ≡ suc i

-- the outputs of a call in an expression are scalars of the statement's block
abbrev pub one_output : Option ℕ → List Variable
one_output None = []
one_output (Some n) = scalar n ∷ []

abbrev pub output_scalars : List Name → List Variable
output_scalars xs = flat_map (λ x. one_output (local_node x)) xs

-- the data of parts: those of the cells that are not plain, and the outputs of calls
abbrev pub cell_data : Bool → ℕ → List Variable
cell_data true n = []
cell_data false n = scalar n ∷ []

abbrev pub data_in : Option Part → List Part → List Variable
data_in p [] = []
data_in p (inner c ∷ ps) = cell_data (plain_after p c.form) c.node ++ data_in (Some (inner c)) ps
data_in p (calls c ∷ ps) = output_scalars c.outputs ++ data_in (Some (calls c)) ps

-- the data that a statement has in its block; the outputs of a call statement are declared already
abbrev pub data_of : Action → List Variable
data_of (call_alone p ps c) = data_in None ps
data_of a = data_in None (own_parts a)

-- CALLS

-- which inputs and which outputs of a function are arrays
abbrev pub Kinds : Type 0
Kinds = List Bool × List Bool

-- a call passes arrays for arrays and scalars for scalars
abbrev pub is_array_argument : Argument → Bool
is_array_argument (Named r) = is_array_name r
is_array_argument (Fixed v) = false

-- the cell of a scalar input is among the parts
pub record StandsAmong (all : List Part) (x : Name) : Type 0 where
  pub cell : Cell
  pub there : cell ∈ part_cells all
  pub is : x ≡ here cell.node

pub record CallFits (fs : List Kinds) (all : List Part) (c : Call) (ins : List Argument) (outs : List code.Name) : Type 0 where
  pub inputs : (kinds : Kinds) (i : ℕ) (x : Name) (a : Argument) (b : Bool) → slice_get fs c.function ≡ Some kinds → slice_get c.inputs i ≡ Some x → slice_get ins i ≡ Some a
      → slice_get kinds.0 i ≡ Some b → (b ≡ false → StandsAmong all x) → is_array_argument a ≡ b
  pub outputs : (kinds : Kinds) (i : ℕ) (r : code.Name) (b : Bool) → slice_get fs c.function ≡ Some kinds → slice_get outs i ≡ Some r → slice_get kinds.1 i ≡ Some b → is_array_name r ≡ b

-- an entry that calls a function belongs to a call among the parts, and calls its function
pub record IsCallOf (fs : List Kinds) (all : List Part) (e : Entry) (f : ℕ) (ins : List Argument) (outs : List code.Name) : Type 0 where
  pub call : Call
  pub there : call ∈ part_calls all
  pub function : call.function ≡ f
  pub offset : e.offset ≡ call.at
  pub fits : CallFits fs all call ins outs

abbrev pub CallsFit : List Kinds → List Part → List Entry → Type 0
CallsFit fs all es = (e : Entry) (f : ℕ) (ins : List Argument) (outs : List code.Name) → In e es → e.act ≡ code.Call (suc f) ins outs → IsCallOf fs all e f ins outs

-- LAYING

-- the code laid so far: the entries, and the bodies of inner blocks, which are numbered after those of the script and
-- of its functions
pub record Laying : Type 0 where
  pub entries : List Entry
  pub bodies : List Body

abbrev pub code_of : Laying → Code
code_of s = record { entries = s.entries; bodies = s.bodies }

-- a count of consecutive numbers, from one on
abbrev pub counted : (from : ℕ) → (count : ℕ) → List ℕ
counted from zero = []
counted from (suc n) = from ∷ counted (suc from) n

-- one more entry, and one more body or two
abbrev pub with_entry : Laying → Entry → Laying
with_entry s e = record { entries = s.entries ++ e ∷ []; bodies = s.bodies }

abbrev pub with_bodies : Laying → List Body → Laying
with_bodies s bs = record { entries = s.entries; bodies = s.bodies ++ bs }

-- the index cell of each read is among the parts
abbrev pub IndexesStand : List Part → Type 0
IndexesStand all = (n i : ℕ) (a : Name) → inner (record { node = n; form = read a i }) ∈ all → (c : Cell) × (c ∈ part_cells all) × (c.node ≡ i)

-- the entries of parts, numbered consecutively, for the statement whose parts they are
pub record LaysParts (fs : List Kinds) (k : ℕ) (all : List Part) (at : ℕ) (p : ℤ) (s t : Laying) (es : List ℕ) : Type 0 where
  pub more : List Entry
  pub entries : t.entries ≡ s.entries ++ more
  pub bodies : t.bodies ≡ s.bodies
  pub numbers : es ≡ counted (length s.entries) (length more)
  pub fit : CallsFit fs all more
  pub parts_as : (l : Layout) → PlainAs l None all → ((i : ℕ) → l.body_of i ≡ suc i) → IndexesStand all → PartsAs (code_of t) l k all at p all es

-- the number of the next body
abbrev pub next_body : (roots : ℕ) → Laying → ℕ
next_body roots s = roots + length s.bodies

-- an entry that is the statement's own, for every layout that suits the statement
abbrev pub IsOwnEntry : Entry → (at : ℕ) → ℕ → Action → (Layout → Act) → Type 0
IsOwnEntry e at k a act = (l : Layout) → Suits l a → IsEntry e at (own_priority a) (own_needs l k a) (act l)

-- a statement that is a wait; and a block that is exactly one such statement
abbrev pub is_wait : Action → Bool
is_wait (wait ns b) = true
is_wait _ = false

abbrev pub is_wait_alone : Stmt → Block → Bool
is_wait_alone (stmt at n a) no_stmts = is_wait a
is_wait_alone st (stmts other b) = false

abbrev pub is_one_wait : Block → Bool
is_one_wait no_stmts = false
is_one_wait (stmts st b) = is_wait_alone st b

-- the merged waits, nested as far as a content is exactly one `wait`, and the content of the innermost
pub data Headers (k : ℕ) : Stmt → List Header → Block → Type 0 where
  one_header : {at n : ℕ} {ns : List Awaited} {b : Block} {hs : List Header} → is_one_wait b ≡ false → hs ≡ header k at ns ∷ [] → Headers k (stmt at n (wait ns b)) hs b
  more_headers : {at n : ℕ} {ns : List Awaited} {st : Stmt} {gs hs : List Header} {b : Block} → Headers k st gs b → hs ≡ header k at ns ∷ gs
      → Headers k (stmt at n (wait ns (stmts st no_stmts))) hs b

-- for functions of these kinds; roots: the number of bodies of the script and its functions; in a block of a function
-- with k inputs
module _ (fs : List Kinds) (roots : ℕ) (k : ℕ) where
  mutual
    -- a statement, with the variables declared in it and in its nested blocks (each an array or not), extends one
    -- laying to another; its entries have these numbers, its own the last, and its block has these data for it
    pub data LaysStmt : Stmt → List (ℕ × Bool) → Laying → Laying → List ℕ → List Variable → Type 0 where
      declares : {at n v : ℕ} (b : Bool) {s : Laying} → LaysStmt (stmt at n (declare v)) ((v, b) ∷ []) s s [] (record { node = v; array = b } ∷ [])
      calls_alone : {at n : ℕ} {p : ℤ} {ps : List Part} {c : Call} {s t : Laying} {es : List ℕ}
          → LaysParts fs k (parts (call_alone p ps c)) at p s t es
          → LaysStmt (stmt at n (call_alone p ps c)) [] s t es (data_in None ps)
      simple : {at n : ℕ} {a : Action} (e : Entry) {s t u : Laying} {es is : List ℕ} → IsSimple a
          → LaysParts fs k (own_parts a) at (own_priority a) s t is
          → IsOwnEntry e at k a (λ l. simple_act l k (own_needs l k a) a) → (e.node ≡ n) × (e.offset ≡ at)
          → u ≡ with_entry t e → es ≡ is ++ length t.entries ∷ []
          → LaysStmt (stmt at n a) [] s u es (data_of a)
      branch : {at n : ℕ} {c : Outer} {b : Block} {ds : List (ℕ × Bool)} (e : Entry) {s t u w : Laying} {es is js : List ℕ} {vs : List Variable}
          → LaysParts fs k (parts (when c b)) at (pos 0) s t is → LaysBlock b ds t u js vs
          → IsOwnEntry e at k (when c b) (λ l. If (over k (own_needs l k (when c b)) (seen l c.cell)) (next_body roots u) None) → e.offset ≡ at
          → w ≡ with_bodies (with_entry u e) (record { opener = ByStep (length u.entries); makes = vs; entries = js } ∷ [])
          → es ≡ is ++ length u.entries ∷ []
          → LaysStmt (stmt at n (when c b)) ds s w es (data_of (when c b))
      branches : {at n : ℕ} {c : Outer} {b d : Block} {bs cs ds : List (ℕ × Bool)} (e : Entry) {s t u v w : Laying} {es is js ks : List ℕ} {vs ws : List Variable}
          → LaysParts fs k (parts (choose c b d)) at (pos 0) s t is → LaysBlock b bs t u js vs → LaysBlock d cs u v ks ws → ds ≡ bs ++ cs
          → IsOwnEntry e at k (choose c b d) (λ l. If (over k (own_needs l k (choose c b d)) (seen l c.cell)) (next_body roots v) (Some (suc (next_body roots v)))) → e.offset ≡ at
          → w ≡ with_bodies (with_entry v e) (record { opener = ByStep (length v.entries); makes = vs; entries = js } ∷ record { opener = ByStep (length v.entries); makes = ws; entries = ks } ∷ [])
          → es ≡ is ++ length v.entries ∷ []
          → LaysStmt (stmt at n (choose c b d)) ds s w es (data_of (choose c b d))
      range_loop : {at n x : ℕ} {lo hi : Outer} {st : Option Outer} {y : Option ℕ} {b : Block} {ds : List (ℕ × Bool)} (e : Entry) {s t u w : Laying} {es is js : List ℕ} {vs : List Variable}
          → LaysParts fs k (parts (range lo hi st x y b)) at (pos 0) s t is → LaysBlock b ds t u js vs
          → IsOwnEntry e at k (range lo hi st x y b)
          (λ l. Range (over k (own_needs l k (range lo hi st x y b)) (seen l lo.cell)) (over k (own_needs l k (range lo hi st x y b)) (seen l hi.cell)) (over k (own_needs l k (range lo hi st x y b)) (step_expr l k st)) (record { body = next_body roots u; value = x; turn = y }))
          → e.offset ≡ at
          → w ≡ with_bodies (with_entry u e) (record { opener = ByStep (length u.entries); makes = loop_variables (record { body = next_body roots u; value = x; turn = y }) ++ vs; entries = js } ∷ [])
          → es ≡ is ++ length u.entries ∷ []
          → LaysStmt (stmt at n (range lo hi st x y b)) ds s w es (data_of (range lo hi st x y b))
      array_loop : {at n x : ℕ} {a : Name} {y : Option ℕ} {b : Block} {ds : List (ℕ × Bool)} (e : Entry) {s u w : Laying} {es js : List ℕ} {vs : List Variable}
          → LaysBlock b ds s u js vs
          → IsOwnEntry e at k (each a x y b) (λ l. Each (record { body = next_body roots u; value = x; turn = y })) → e.offset ≡ at
          → w ≡ with_bodies (with_entry u e) (record { opener = ByStep (length u.entries); makes = loop_variables (record { body = next_body roots u; value = x; turn = y }) ++ vs; entries = js } ∷ [])
          → es ≡ length u.entries ∷ []
          → LaysStmt (stmt at n (each a x y b)) ds s w es []
      waits : {at n : ℕ} {ns : List Awaited} {c b : Block} {hs : List Header} {ds : List (ℕ × Bool)} (e : Entry) {s u w : Laying} {es js : List ℕ} {vs : List Variable}
          → Headers k (stmt at n (wait ns c)) hs b → LaysBlock b ds s u js vs
          → IsEntry e at (pos 0) (each_once (flat_map (λ h. h.needs) hs)) (Wait hs (next_body roots u)) × (e.offset ≡ at)
          → w ≡ with_bodies (with_entry u e) (record { opener = ByWait (length u.entries); makes = vs; entries = js } ∷ [])
          → es ≡ length u.entries ∷ []
          → LaysStmt (stmt at n (wait ns c)) ds s w es []

    -- the statements of a block, one after another
    pub data LaysBlock : Block → List (ℕ × Bool) → Laying → Laying → List ℕ → List Variable → Type 0 where
      no_statement : {s : Laying} → LaysBlock no_stmts [] s s [] []
      one_statement : {st : Stmt} {b : Block} {cs ds all : List (ℕ × Bool)} {s t u : Laying} {is js es : List ℕ} {vs ws makes : List Variable}
          → LaysStmt st cs s t is vs → LaysBlock b ds t u js ws
          → all ≡ cs ++ ds → es ≡ is ++ js → makes ≡ vs ++ ws
          → LaysBlock (stmts st b) all s u es makes

-- FUNCTIONS AND SCRIPTS

-- functions, one after another, with their bodies
pub data LaysFunctions (fs : List Kinds) (roots : ℕ) : List Function → List (ℕ × Bool) → Laying → Laying → List Body → Type 0 where
  no_function : {s : Laying} → LaysFunctions fs roots [] [] s s []
  one_function : {f : Function} {gs : List Function} {cs ds all : List (ℕ × Bool)} {s t u : Laying} {js : List ℕ} {vs : List Variable} {bs bodies : List Body}
      → LaysBlock fs roots f.inputs f.body cs s t js vs → LaysFunctions fs roots gs ds t u bs
      → all ≡ cs ++ ds → bodies ≡ record { opener = ByCalls; makes = vs; entries = js } ∷ bs
      → LaysFunctions fs roots (f ∷ gs) all s u bodies

-- an entry without its rights
abbrev pub bare : Entry → Entry
bare e = record e { reads = []; writes = [] }

-- code is laid for a script, whatever rights its entries have: its own block first, then its functions; the variables
-- are those declared in it
pub record LaysScript (c : Core) (fs : List Kinds) (ds : List (ℕ × Bool)) (C : Code) : Type 0 where
  pub own_declared : List (ℕ × Bool)
  pub function_declared : List (ℕ × Bool)
  pub declared : ds ≡ own_declared ++ function_declared
  pub first : Laying
  pub last : Laying
  pub entries_are : List ℕ
  pub makes_are : List Variable
  pub function_bodies : List Body
  pub script : LaysBlock fs (suc (length c.functions)) 0 c.body own_declared (record { entries = []; bodies = [] }) first entries_are makes_are
  pub functions : LaysFunctions fs (suc (length c.functions)) c.functions function_declared first last function_bodies
  pub entries : map bare C.entries ≡ last.entries
  pub bodies : C.bodies ≡ (record { opener = ByMain; makes = makes_are; entries = entries_are } ∷ function_bodies) ++ last.bodies
