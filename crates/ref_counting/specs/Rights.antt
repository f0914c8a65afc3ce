-- Rights: the names that the entries of code may read and write, and the propagation of names from a body.
use Rattle.std.specs.Prelude.{◌≡◌, ℕ, ◌<◌, List, length, take, ◌+◌}
use Rattle.dataflow.specs.System.{Distinct, In}
use Rattle.task_code.specs.Code.{Calling, Code, Entry, Name, Way, body, call_at, entry, ways}
use Rattle.task_code.specs.Exact.{Leads}
use Rattle.ref_counting.specs.declared.entry_name.EntryName.{EntryName}
use Rattle.ref_counting.specs.declared.openings.BodyOpening.{BodyOpening}
use Rattle.ref_counting.specs.Leads.{AllPlain, Grows, Has, name_of, names_of}
use Rattle.ref_counting.specs.Openings.{way_of}
use Rattle.ref_counting.specs.Passing.{Sees}
use Rattle.ref_counting.specs.Rows.{row}

-- all leads that satisfy the condition are present, and only they are new
pub record Adds (P : ℕ → Name → Type 0) (old new : List EntryName) : Type 0 where
  pub grows : Grows P old new
  pub all : (i : ℕ) (r : Name) → P i r → Has new i r

module _ (C : Code) where
  -- each call has an offset of its own
  abbrev pub HasMarks : Type 0
  HasMarks = (i b : ℕ) → In (Calling, b) (ways (entry C i).act) → call_at C (entry C i).offset ≡ i

  -- the entry opens the body in this way
  abbrev pub Opens : BodyOpening → ℕ → Type 0
  Opens o b = In (way_of o.way, b) (ways (entry C o.entry).act)

  abbrev pub AllOpen : ℕ → List BodyOpening → Type 0
  AllOpen b os = (o : BodyOpening) → In o os → Opens o b

  -- a name of the entry j is propagated: an entry opens a body that contains j, and r is its name for it
  pub record Passes (j : ℕ) (q : Name) (i : ℕ) (r : Name) : Type 0 where
    pub block : ℕ
    pub way : Way
    pub opens : In (way, block) (ways (entry C i).act)
    pub stands : In j (body C block).entries
    pub sees : Sees C i way block q r

  -- a name of a body is propagated to an entry that opens it, to one of these, or to one of those that open one of
  -- these bodies
  abbrev pub ByOpening : ℕ → Name → BodyOpening → ℕ → Name → Type 0
  ByOpening b q o i r = (i ≡ o.entry) × Sees C o.entry (way_of o.way) b q r

  abbrev pub ByOpenings : ℕ → Name → List BodyOpening → ℕ → Name → Type 0
  ByOpenings b q os i r = (o : BodyOpening) × In o os × ByOpening b q o i r

  abbrev pub ByHomes : List (List BodyOpening) → Name → List ℕ → ℕ → Name → Type 0
  ByHomes os q bs i r = (b : ℕ) × In b bs × ByOpenings b q (row os b) i r

  -- every name propagated from these leads is among the others
  abbrev pub IsClosed : List EntryName → List EntryName → Type 0
  IsClosed from to = (l : EntryName) → In l from → (i : ℕ) (r : Name) → Passes l.entry (name_of l) i r → Has to i r

  -- each of these leads is one that its entry has
  abbrev pub AllLead : (Entry → List Name) → List EntryName → Type 0
  AllLead own ls = (l : EntryName) → In l ls → Leads C own l.entry (name_of l)

  abbrev pub AllWithin : List EntryName → Type 0
  AllWithin ls = (l : EntryName) → In l ls → l.entry < length C.entries

  -- one more lead is propagated, after the first n
  pub record StepsOn (n : ℕ) (old new : List EntryName) : Type 0 where
    pub kept : (i : ℕ) (r : Name) → Has old i r → Has new i r
    pub within : AllWithin old → AllWithin new
    pub plain : AllPlain old → AllPlain new
    pub sound : (own : Entry → List Name) → AllLead own old → AllLead own new
    pub closed : AllWithin old → IsClosed (take n old) old → IsClosed (take (n + 1) new) new

  -- these are the names that each entry leads to, each once
  pub record AreRights (own : Entry → List Name) (ls : List EntryName) : Type 0 where
    pub sound : (i : ℕ) (r : Name) → In r (names_of ls i) → Leads C own i r
    pub complete : (i : ℕ) (r : Name) → Leads C own i r → In r (names_of ls i)
    pub once : (i : ℕ) → Distinct (names_of ls i)
    pub within : AllWithin ls
