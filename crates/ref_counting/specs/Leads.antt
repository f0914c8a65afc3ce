-- Lists of leads: entries with the names that they use or lead to, in the order of discovery.
use Rattle.std.specs.Prelude.{◌≡◌, ℕ, Bool, true, false, List, [], ◌∷◌, ◌++◌, if◌then◌else◌, nat_eq}
use Rattle.dataflow.specs.System.{In}
use Rattle.task_code.specs.Code.{Local, Name, Parameter}
use Rattle.ref_counting.specs.declared.entry_name.EntryName.{EntryName}

abbrev pub name_of : EntryName → Name
name_of l = record { up = l.up; owned = if l.local then Local (record { node = l.node; array = l.array }) else Parameter l.place l.array }

-- a lead to a variable has index 0, and one to a parameter has node 0
abbrev pub IsPlain : EntryName → Type 0
IsPlain l = (l.local ≡ true → l.place ≡ 0) × (l.local ≡ false → l.node ≡ 0)

abbrev pub AllPlain : List EntryName → Type 0
AllPlain ls = (l : EntryName) → In l ls → IsPlain l

-- one of these leads is from the entry to the name
pub record Has (ls : List EntryName) (i : ℕ) (r : Name) : Type 0 where
  pub lead : EntryName
  pub there : In lead ls
  pub of : lead.entry ≡ i
  pub to : name_of lead ≡ r

-- more leads are appended, each of which satisfies the condition
pub record Grows (P : ℕ → Name → Type 0) (old new : List EntryName) : Type 0 where
  pub more : List EntryName
  pub is : new ≡ old ++ more
  pub each : (l : EntryName) → In l more → P l.entry (name_of l)
  pub plain : AllPlain more

abbrev pub IsThis : ℕ → Name → ℕ → Name → Type 0
IsThis i r j s = (j ≡ i) × (s ≡ r)

-- the names that these leads have for an entry, in order
abbrev pub names_of : List EntryName → ℕ → List Name
names_of [] i = []
names_of (l ∷ ls) i = elim (nat_eq l.entry i) [ true ↦ name_of l ∷ names_of ls i | false ↦ names_of ls i ]
