-- What the meaning of a script has as a whole, and what is known after a round: one scalar at a place, closed arrays that can be listed.
use Rattle.std.specs.Prelude.{◌≡◌, ◌⊎◌, ℕ, ◌≤◌, Bool, List, Result}
use Rattle.std.proofs.Common.{inl, inr, sym, arith}
use Rattle.values.specs.declared.key.Key.{Key}
use Rattle.values.specs.declared.map.Element.{Element}
use Rattle.values.specs.declared.value.Scalar.{Scalar}
use Rattle.values.specs.declared.value.Value.{Value}
use Rattle.language.specs.Core.{Form, Stmt, Core}
use Rattle.language.specs.Facts.{Fault, value, element, Elements}
use Rattle.language.specs.Meaning.{Closed, HasValue, Gives, Known, Meaning}
use Rattle.language.specs.Members.{◌∈◌}
use Rattle.language.specs.Parts.{script_stmts}
use Rattle.language.specs.Places.{Path, Place}
use Rattle.language.specs.Single.{SinglyAssigned}
use Rattle.language.specs.WellFormed.{WellFormed, Role}
use Rattle.language_laws.proofs.Compact.{value_round}
use Rattle.language_laws.proofs.Ever.{sound, grow, grow_meaning, one_value, one_element}
use Rattle.language_laws.proofs.Hinge.{Later}
use Rattle.language_laws.proofs.Listed.{listed}
use Rattle.language_laws.proofs.OneValue.{scalar_same, gives_same}
use Rattle.language_laws.proofs.Rounds.{Sound, From, later_of, known_later, grow_fill, grow_insert, live_fill, live_insert}
use Rattle.language_laws.proofs.Sources.{IsFull, known_full}

le_either : (n m : ℕ) → (n ≤ m) ⊎ (m ≤ n)
le_either n m = grind arith

module _ (s : Core) (w : WellFormed s) (single : SinglyAssigned s) where
  -- THE MEANING

  pub full_meaning : IsFull s (Meaning s)
  full_meaning path at m x c v i f = let r = known_full s w.cells f.0 path at m x c v i f.1 in (r.0, r.1, λ k u j. (f.0, r.2 k u j))

  no_loop_value : (st : Stmt) (x : ℕ) (r : Bool) (path : Path) (v : Value) → st ∈ script_stmts s → Role st x r → Meaning s (value (path, x) v) → ⊥
  no_loop_value st x r path v m role f = (((sound s w single f.0).one_each).no_loop_value) st x r path v m role f.1

  wrote_by : (a : Place) (k : Key) (u : Place) (v : Scalar) → Meaning s (element a k u v) → From s (Meaning s) (Meaning s) a k u v
  wrote_by a k u v f =
      elim ((sound s w single f.0).wrote a k u v f.1) [
        | inl e ↦ inl (live_fill s w.names w.cells w.loops w.writers (grow_meaning s w single f.0) (grow_fill s w.names w.cells w.loops w.writers (λ g h. (f.0, h)) e))
        | inr e ↦ inr (live_insert s w.names w.cells w.loops w.writers (grow_meaning s w single f.0) (grow_insert s w.names w.cells w.loops w.writers (λ g h. (f.0, h)) e))
      ]

  pub sound_meaning : Sound s (Meaning s)
  sound_meaning = record { one_each = record { one_value = one_value s w single; one_element = one_element s w single; no_loop_value = no_loop_value }; wrote = wrote_by }

  pub later_meaning : Later s (Meaning s) (Meaning s)
  later_meaning = later_of s w.names w.cells w.loops w.writers (Meaning s) (Meaning s) full_meaning sound_meaning sound_meaning (λ f k. k)

  pub one_scalar : (p : Place) (v u : Scalar) → HasValue s (Meaning s) p v → HasValue s (Meaning s) p u → v ≡ u
  one_scalar = scalar_same s w.names w.loops (Meaning s) (sound_meaning.one_each) later_meaning

  pub listed_meaning : (a : Place) → Closed s (Meaning s) a → (es : List Element) × Elements (Meaning s) a es
  listed_meaning = listed s w (Meaning s) full_meaning sound_meaning

  -- a value comes in some round
  pub value_in_round : (p : Place) (v : Scalar) → HasValue s (Meaning s) p v → (n : ℕ) × HasValue s (Known s n) p v
  value_in_round p v h = value_round s (grow s w single) h

  -- EACH ROUND

  pub later_known : (n m : ℕ) → n ≤ m → Later s (Known s n) (Known s m)
  later_known n m h = later_of s w.names w.cells w.loops w.writers (Known s n) (Known s m) (known_full s w.cells n) (sound s w single n) (sound s w single m) (λ f k. known_later s n m f h k)

  pub one_scalar_known : (n : ℕ) (p : Place) (v u : Scalar) → HasValue s (Known s n) p v → HasValue s (Known s n) p u → v ≡ u
  one_scalar_known n = scalar_same s w.names w.loops (Known s n) ((sound s w single n).one_each) (later_known n n (omega arith))

  pub listed_known : (n : ℕ) (a : Place) → Closed s (Known s n) a → (es : List Element) × Elements (Known s n) a es
  listed_known n = listed s w (Known s n) (known_full s w.cells n) (sound s w single n)

  -- what a cell has in two rounds is one value or one fault
  gives_later : (n m : ℕ) → n ≤ m → {path : Path} {f : Form} {r q : Result Value Fault} → Gives s (Known s n) path f r → Gives s (Known s m) path f q → r ≡ q
  gives_later n m h x y = gives_same s w.names w.loops (Known s n) (Known s m) ((sound s w single m).one_each) (later_known n m h) (later_known m m (omega arith)) x y

  pub one_gives : (n m : ℕ) {path : Path} {f : Form} {r q : Result Value Fault} → Gives s (Known s n) path f r → Gives s (Known s m) path f q → r ≡ q
  one_gives n m x y = elim (le_either n m) [ inl l ↦ gives_later n m l x y | inr l ↦ sym (gives_later m n l y x) ]
