-- Exact rights: an entry has a right to read or write a name only if it, or an entry that it leads to, reads or writes
-- that name.
use Rattle.std.specs.Prelude.{ℕ, zero, suc, Bool, ◌&&◌, List, [], ◌∷◌, ◌++◌, Some, None, if◌then◌else◌}
use Rattle.std.specs.List.{list_all, flat_map}
use Rattle.dataflow.specs.System.{In}
use Rattle.task_code.specs.Code.{Named, Fixed, Owned, Local, Parameter, Name, Entry, Code, Way, InPlace, Through, Calling, entry, body, argument, ways, targets, needed}
use Rattle.task_code.specs.Whole.{Seen, Declared}
use Rattle.task_code.specs.Check.{name_in, every_at, is_declared}

-- the names that an entry reads itself
abbrev pub needs_of : Entry → List Name
needs_of e = flat_map needed e.needs

module _ (C : Code) where
  -- an entry uses a name itself, or an entry of a body that it opens leads to the name that this name has there
  pub data Leads (own : Entry → List Name) : ℕ → Name → Type 0 where
    itself : (i : ℕ) (r : Name) → In r (own (entry C i)) → Leads own i r
    through : (i j b : ℕ) (w : Way) (r inner : Name) → In (w, b) (ways (entry C i).act) → In j (body C b).entries → Leads own j inner → (Declared C b inner → ⊥) → Seen C (entry C i).offset w inner r → Leads own i r

  -- no entry has an unused right
  pub record IsExact : Type 0 where
    pub reads : (i : ℕ) (r : Name) → In r (entry C i).reads → Leads needs_of i r
    pub writes : (i : ℕ) (r : Name) → In r (entry C i).writes → Leads targets i r

  -- the outside name of a name in a body
  abbrev pub outward : ℕ → Way → ℕ → Name → List Name
  outward offset InPlace b q = if is_declared C b q then [] else q ∷ []
  outward offset Through b q = by q.up
    where
      by : ℕ → List Name
      by zero = []
      by (suc up) = record { up = up; owned = q.owned } ∷ []
  outward offset Calling b q = by q.up q.owned
    where
      by : ℕ → Owned → List Name
      by zero (Local v) = []
      by zero (Parameter k a) = elim (argument C offset k a) [ None ↦ [] | Some x ↦ elim x [ Named r ↦ r ∷ [] | Fixed v ↦ [] ] ]
      by (suc up) x = []

  -- the names that an entry leads to through at most `depth` bodies
  abbrev pub led_to : (Entry → List Name) → ℕ → ℕ → List Name
  led_to own zero i = own (entry C i)
  led_to own (suc depth) i =
      own (entry C i)
      ++ flat_map (λ s. flat_map (λ j. flat_map (outward (entry C i).offset s.0 s.1) (led_to own depth j)) (body C s.1).entries) (ways (entry C i).act)

  -- each right is found within `depth` bodies
  abbrev pub is_exact : ℕ → Bool
  is_exact depth =
      every_at (λ i e. list_all (λ r. name_in r (led_to needs_of depth i)) e.reads && list_all (λ r. name_in r (led_to targets depth i)) e.writes) C.entries
