-- Who writes the arrays of a script without branches, loops and composite calls.
use Rattle.std.specs.Prelude.{◌≡◌, ◌⊎◌, ℕ, IsTrue, List, [], ◌∷◌, ◌++◌, refl}
use Rattle.std.proofs.Common.{inl, inr, sym, ◌∙◌, subst}
use Rattle.values.specs.declared.key.Key.{Key}
use Rattle.values.specs.declared.map.Element.{Element}
use Rattle.values.specs.declared.value.Scalar.{Scalar}
use Rattle.values.specs.declared.value.Value.TheVariants.{Many}
use Rattle.values.specs.Maps.{rising, element as entry}
use Rattle.language.specs.Core.{Name, Outer, Stmt, stmt, Action, fill, insert, Core}
use Rattle.language.specs.Facts.{value, element, OneWrite, OneWriter, Elements}
use Rattle.language.specs.Meaning.{Known}
use Rattle.language.specs.Members.{◌∈◌, first, later}
use Rattle.language.specs.Parts.{script_stmts}
use Rattle.language.specs.Places.{Place, place}
use Rattle.language.specs.Single.{SinglyAssigned}
use Rattle.language.specs.WellFormed.{WellFormed}
use Rattle.language.proofs.Members.{to_right}
use Rattle.language_laws.proofs.Ever.{sound}
use Rattle.language_laws.proofs.Flat.{Flat, flat_stmt}
use Rattle.language_laws.proofs.Listed.{fill_all}
use Rattle.language_laws.proofs.Rounds.{Came, came}
use Rattle.language_laws.proofs.Sources.{FillElement, InsertElement, element_view, known_full}

-- a writing statement's node and the array that it writes
abbrev pub Writer : Type 0
Writer = ℕ × Name

abbrev writer_of : ℕ → Action → List Writer
writer_of n (fill x c) = (n, x) ∷ []
writer_of n (insert x i c) = (n, x) ∷ []
writer_of n _ = []

abbrev pub writers : List Stmt → List Writer
writers [] = []
writers (stmt at n a ∷ ss) = writer_of n a ++ writers ss

fill_in : (ss : List Stmt) {at n : ℕ} {x : Name} {c : Outer} → stmt at n (fill x c) ∈ ss → ◌∈◌ {X = Writer} (n, x) (writers ss)
fill_in [] m = elim m [ ]
fill_in (stmt at n (fill x c) ∷ ss) first = first
fill_in (stmt at n a ∷ ss) (later m) = to_right (writer_of n a) (writers ss) (fill_in ss m)

insert_in : (ss : List Stmt) {at n : ℕ} {x : Name} {i c : Outer} → stmt at n (insert x i c) ∈ ss → ◌∈◌ {X = Writer} (n, x) (writers ss)
insert_in [] m = elim m [ ]
insert_in (stmt at n (insert x i c) ∷ ss) first = first
insert_in (stmt at n a ∷ ss) (later m) = to_right (writer_of n a) (writers ss) (insert_in ss m)

module _ (s : Core) (flat : Flat s) where
  -- each write is of one of the script's writing statements
  pub record WrittenBy (a w : Place) : Type 0 where
    pub node : ℕ
    pub array : Name
    pub there : ◌∈◌ {X = Writer} (node, array) (writers (script_stmts s))
    pub writer_is : w ≡ ([], node)
    pub array_is : place s [] array ≡ a

  pub written_by : (m : ℕ) (a : Place) (k : Key) (w : Place) (v : Scalar) → Known s m (element a k w v) → WrittenBy a w
  written_by m a k w v f = by (came s m _ f)
    where
      of_view : (r : ℕ) → (FillElement s (Known s r) a k w v ⊎ InsertElement s (Known s r) a k w v) → WrittenBy a w
      of_view r (inl e) =
          let at = flat_stmt s flat e.live in
          record { node = e.node; array = e.array; there = fill_in (script_stmts s) at.1; writer_is = sym e.writer_is ∙ (λ i. (at.0 i, e.node)); array_is = (λ i. place s (sym at.0 i) e.array) ∙ e.array_is }
      of_view r (inr e) =
          let at = flat_stmt s flat e.live in
          record { node = e.node; array = e.array; there = insert_in (script_stmts s) at.1; writer_is = sym e.writer_is ∙ (λ i. (at.0 i, e.node)); array_is = (λ i. place s (sym at.0 i) e.array) ∙ e.array_is }

      by : Came s m (element a k w v) → WrittenBy a w
      by c = of_view c.round (element_view c.new refl)

  -- an array that nothing writes has no element
  pub no_write : (a : Place) → ((n : ℕ) (x : Name) → ◌∈◌ {X = Writer} (n, x) (writers (script_stmts s)) → place s [] x ≡ a → ⊥) → (m : ℕ) (k : Key) (w : Place) (v : Scalar) → Known s m (element a k w v) → ⊥
  no_write a no_one m k w v f = let r = written_by m a k w v f in no_one r.node r.array r.there r.array_is

  -- of an array that one statement writes, that is the writer
  pub sole_writer : (a : Place) (n : ℕ) → ((i : ℕ) (x : Name) → ◌∈◌ {X = Writer} (i, x) (writers (script_stmts s)) → place s [] x ≡ a → i ≡ n)
      → (m : ℕ) (k : Key) (w : Place) (v : Scalar) → Known s m (element a k w v) → w ≡ ([], n)
  sole_writer a n only m k w v f = let r = written_by m a k w v f in r.writer_is ∙ (λ i. ([], only r.node r.array r.there r.array_is i))

-- an array that one statement of the script's own block writes
module _ (s : Core) (a : Place) (n : ℕ) (sole : (m : ℕ) (k : Key) (w : Place) (v : Scalar) → Known s m (element a k w v) → w ≡ ([], n)) where
  pub one_writer : (m : ℕ) → OneWriter (Known s m) a
  one_writer m k w w' v v' f g = sole m k w v f ∙ sym (sole m k w' v' g)

  pub one_write : (m : ℕ) (k : Key) (v : Scalar) → Known s m (element a k ([], n) v) → OneWrite (Known s m) a k v
  one_write m k v f = record { writer = ([], n); write = f; only = λ w u g. sole m k w u g }

  -- where it fills the array, those are the elements
  pub filled_elements : WellFormed s → SinglyAssigned s → (m at : ℕ) (x : Name) (c : Outer) → stmt at n (fill x c) ∈ script_stmts s → place s [] x ≡ a
      → (es : List Element) → IsTrue (rising es) → Known s m (value ([], c.cell.node) (Many es)) → Elements (Known s m) a es
  filled_elements wf single m at x c i e es order h = record {
    in_order = order;
    written = λ k v j. (([], n), subst (λ (z : Place). Known s m (element z k ([], n) v)) e (full.2 k v (subst (λ (l : List Element). entry k v ∈ l) same j)));
    all = λ k w v f. fill_all s wf (Known s m) (known_full s wf.cells m) (sound s wf single m) a (Many es) i h k v (here k w v f) ((sound s wf single m).wrote a k ([], n) v (here k w v f)) es refl;
  }
    where
      full : (fs : List Element) × (Many es ≡ Many fs) × ((k : Key) (u : Scalar) → entry k u ∈ fs → Known s m (element (place s [] x) k ([], n) u))
      full = known_full s wf.cells m [] at n x c (Many es) i h

      many_same : {l r : List Element} → Many l ≡ Many r → l ≡ r
      many_same q = cc

      same : es ≡ full.0
      same = many_same full.1

      here : (k : Key) (w : Place) (v : Scalar) → Known s m (element a k w v) → Known s m (element a k ([], n) v)
      here k w v f = subst (λ (z : Place). Known s m (element a k z v)) (sole m k w v f) f
