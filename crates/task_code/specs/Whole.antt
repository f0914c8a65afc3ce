-- Whole code: the conditions that a compiler has to establish. Each concerns one entry, one body and the entry that
-- opens it, or two members of one list.
use Rattle.std.specs.Prelude.{◌≡◌, ◌⊎◌, ℕ, suc, ◌<◌, Bool, true, false, List, Some, length}
use Rattle.dataflow.specs.System.{Distinct, In}
use Rattle.task_code.specs.Code.{ByCalls, ByMain, ByStep, ByWait, Calling, Code, Entry, Fixed, InPlace, Loop, Name, Named, Need, Opener, Parameter, Through, Variable, Way, argument, body, call_at, entry, here, is_array_name, loop_of, loop_variables, needed, targets, ways}
use Rattle.task_code.specs.Shape.{is_shaped}
use Rattle.values.specs.declared.value.Scalar.{Scalar}

module _ (C : Code) where
  -- a name of a body, and the name that the entry that opens the body this way has for it
  abbrev pub Seen : ℕ → Way → Name → Name → Type 0
  Seen offset InPlace r s = r ≡ s
  Seen offset Through r s = r ≡ record { up = suc s.up; owned = s.owned }
  Seen offset Calling r s = (k : ℕ) × (b : Bool) × (r ≡ record { up = 0; owned = Parameter k b }) × (argument C offset k b ≡ Some (Named s))

  -- a parameter whose argument is a literal
  abbrev pub Fixes : ℕ → Way → Name → Type 0
  Fixes offset InPlace r = ⊥
  Fixes offset Through r = ⊥
  Fixes offset Calling r = (k : ℕ) × (b : Bool) × (v : Scalar) × (r ≡ record { up = 0; owned = Parameter k b }) × (argument C offset k b ≡ Some (Fixed v))

  -- the body declares the name
  pub record Declared (b : ℕ) (r : Name) : Type 0 where
    pub variable : Variable
    pub is : r ≡ here variable
    pub made : In variable (body C b).makes

  -- the entry that opens the body this way has the right to the outside name
  pub record SeenFrom (rights : Entry → List Name) (i : ℕ) (w : Way) (r : Name) : Type 0 where
    pub outside : Name
    pub seen : Seen (entry C i).offset w r outside
    pub right : In outside (rights (entry C i))

  -- the body's opener is this entry, or, for a function's body, a call that its path identifies
  abbrev pub OpenedBy : ℕ → Way → Opener → Type 0
  OpenedBy i InPlace o = o ≡ ByWait i
  OpenedBy i Through o = o ≡ ByStep i
  OpenedBy i Calling o = (o ≡ ByCalls) × (call_at C (entry C i).offset ≡ i)

  -- an entry, and a body that it opens this way
  pub record Fits (i : ℕ) (w : Way) (b : ℕ) : Type 0 where
    pub opened : OpenedBy i w (body C b).opener
    -- every name that the entries of the body may read or write is declared in it, or the opener has the right to it
    pub reads : (j : ℕ) (r : Name) → In j (body C b).entries → In r (entry C j).reads → (Declared b r ⊎ SeenFrom (λ e. e.reads) i w r) ⊎ Fixes (entry C i).offset w r
    pub writes : (j : ℕ) (r : Name) → In j (body C b).entries → In r (entry C j).writes → Declared b r ⊎ SeenFrom (λ e. e.writes) i w r
    -- the wait has no right to write a variable that its body declares
    pub inside : w ≡ InPlace → (v : Variable) → In v (body C b).makes → In (here v) (entry C i).writes → ⊥
    -- two parameters that a called body writes are two variables of the caller
    pub outputs : w ≡ Calling → (j j' k k' : ℕ) (r : Name) → In j (body C b).entries → In j' (body C b).entries → In (record { up = 0; owned = Parameter k false }) (entry C j).writes → In (record { up = 0; owned = Parameter k' false }) (entry C j').writes → argument C (entry C i).offset k false ≡ Some (Named r) → argument C (entry C i).offset k' false ≡ Some (Named r) → k ≡ k'

  -- a loop writes no scalar from outside; its variables are declared by its body, and nothing else writes them
  pub record FitsLoop (i : ℕ) (l : Loop) : Type 0 where
    pub arrays : (r : Name) → In r (entry C i).writes → is_array_name r ≡ false → ⊥
    pub made : (v : Variable) → In v (loop_variables l) → In v (body C l.body).makes
    pub distinct : Distinct (loop_variables l)
    pub kept : (v : Variable) (j : ℕ) → In v (loop_variables l) → In j (body C l.body).entries → In (here v) (entry C j).writes → ⊥

  -- the code is whole
  pub record IsCode : Type 0 where
    -- the first body is the script, and names only variables that it declares
    pub script : (body C 0).opener ≡ ByMain
    pub script_reads : (j : ℕ) (r : Name) → In j (body C 0).entries → In r (entry C j).reads → Declared 0 r
    pub script_writes : (j : ℕ) (r : Name) → In j (body C 0).entries → In r (entry C j).writes → Declared 0 r
    -- each entry has its shape, and is in the list of entries
    pub shape : (i : ℕ) → is_shaped (entry C i) ≡ true
    pub there : (b j : ℕ) → In j (body C b).entries → j < length C.entries
    -- each entry may read its needs, and write its targets
    pub needs : (i : ℕ) (n : Need) (r : Name) → In n (entry C i).needs → In r (needed n) → In r (entry C i).reads
    pub stores : (i : ℕ) (r : Name) → In r (targets (entry C i)) → In r (entry C i).writes
    -- each entry also has the rights of the entries of the bodies that it opens
    pub fits : (i : ℕ) (w : Way) (b : ℕ) → In (w, b) (ways (entry C i).act) → Fits i w b
    pub loops : (i : ℕ) (l : Loop) → loop_of (entry C i).act ≡ Some l → FitsLoop i l
    -- a variable is declared once, and an entry is in one body, once
    pub makes_once : (b b' : ℕ) (v : Variable) → In v (body C b).makes → In v (body C b').makes → b ≡ b'
    pub entries_once : (b b' j : ℕ) → In j (body C b).entries → In j (body C b').entries → b ≡ b'
    pub entries_distinct : (b : ℕ) → Distinct (body C b).entries
    -- a scalar has one assigner along each control path
    pub one_assigner : (b j j' : ℕ) (r : Name) → In j (body C b).entries → In j' (body C b).entries → In r (entry C j).writes → In r (entry C j').writes → is_array_name r ≡ false → j ≡ j'
