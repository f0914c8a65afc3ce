-- What a name can mean at a path.
use Rattle.std.proofs.Common.{◌≡◌, ℕ, zero, suc, ◌≤◌, Bool, true, false, List, [], ◌∷◌, refl, sym, ap, ◌∙◌, subst, Option, None, Some, arith}
use Rattle.std.specs.Prelude.{length}
use Rattle.task_code.proofs.Equal.{bool_sound}
use Rattle.task_code.specs.Code.{Argument, Code, Fixed, Local, Name, Named, Owned, Parameter, Variable, argument, argument_in, arguments, call_at, entry, here, is_array_name, is_array_owned}
use Rattle.task_code.specs.Places.{Constant, Datum, Nowhere, Place, Step, place_array, place_at, resolve}
use Rattle.values.specs.Values.{same_truth}
use Rattle.values.specs.declared.value.Scalar.{Scalar}

pub spot_path : {p q : List Step} {v w : Variable} → Datum p v ≡ Datum q w → p ≡ q
spot_path h = cc

pub spot_variable : {p q : List Step} {v w : Variable} → Datum p v ≡ Datum q w → v ≡ w
spot_variable h = cc

pub not_nowhere : {p : List Step} {v : Variable} → Nowhere ≡ Datum p v → ⊥
not_nowhere h = absurd (cc)

pub not_constant : {c : Scalar} {p : List Step} {v : Variable} → Constant c ≡ Datum p v → ⊥
not_constant h = absurd (cc)

pub tail_same : {s t : Step} {p q : List Step} → ◌≡◌ {A = List Step} (s ∷ p) (t ∷ q) → p ≡ q
tail_same h = cc

pub head_same : {s t : Step} {p q : List Step} → ◌≡◌ {A = List Step} (s ∷ p) (t ∷ q) → s ≡ t
head_same h = cc

pub argument_kind : (rs : List Argument) (k : ℕ) (b : Bool) (r : Name) → argument_in rs k b ≡ Some (Named r) → is_array_name r ≡ b
argument_kind [] k b r h = absurd (cc)
argument_kind (Named x ∷ rs) zero b r h = by (same_truth (is_array_name x) b) refl h
  where
    by : (t : Bool) → same_truth (is_array_name x) b ≡ t → ◌≡◌ {A = Option Argument} (elim t [ true ↦ Some (Named x) | false ↦ None ]) (Some (Named r)) → is_array_name r ≡ b
    by true e h = (let p : x ≡ r = cc in subst (λ (y : Name). is_array_name y ≡ b) p (bool_sound (is_array_name x) b e))
    by false e h = absurd (cc)
argument_kind (Fixed v ∷ rs) zero true r h = absurd (cc)
argument_kind (Fixed v ∷ rs) zero false r h = absurd (cc)
argument_kind (Named x ∷ rs) (suc k) b r h = argument_kind rs k b r h
argument_kind (Fixed v ∷ rs) (suc k) b r h = argument_kind rs k b r h

module _ (C : Code) where
  abbrev pub argued : List Step → Option Argument → Place
  argued p o = elim o [ None ↦ Nowhere | Some a ↦ elim a [ Named r ↦ resolve C p r.up r.owned | Fixed v ↦ Constant v ] ]

  -- it lies no further in
  pub no_longer : (p : List Step) (up : ℕ) (x : Owned) (q : List Step) (v : Variable) → resolve C p up x ≡ Datum q v → length q ≤ length p
  no_longer [] zero (Local w) q v h = (let e = ap length (spot_path h) in omega arith)
  no_longer [] zero (Parameter k b) q v h = absurd (not_nowhere h)
  no_longer [] (suc up) x q v h = absurd (not_nowhere h)
  no_longer (s ∷ p) zero (Local w) q v h = (let e = ap length (spot_path h) in omega arith)
  no_longer (s ∷ p) zero (Parameter k b) q v h = by (λ r e. no_longer p r.up r.owned q v e) (argument C s.offset k b) h
    where
      by : ((r : Name) → resolve C p r.up r.owned ≡ Datum q v → length q ≤ length p) → (o : Option Argument) → argued p o ≡ Datum q v → length q ≤ length (s ∷ p)
      by f None h = absurd (not_nowhere h)
      by f (Some (Named r)) h = (let l = f r h in omega arith)
      by f (Some (Fixed c)) h = absurd (not_constant h)
  no_longer (s ∷ p) (suc up) x q v h = (let l = no_longer p up x q v h in omega arith)

  -- and here only where it is declared here
  pub only_here : (p : List Step) (up : ℕ) (x : Owned) (v : Variable) → resolve C p up x ≡ Datum p v → record { up = up; owned = x } ≡ here v
  only_here [] zero (Local w) v h = ap here (spot_variable h)
  only_here [] zero (Parameter k b) v h = absurd (not_nowhere h)
  only_here [] (suc up) x v h = absurd (not_nowhere h)
  only_here (s ∷ p) zero (Local w) v h = ap here (spot_variable h)
  only_here (s ∷ p) zero (Parameter k b) v h = by (argument C s.offset k b) h
    where
      by : (o : Option Argument) → argued p o ≡ Datum (s ∷ p) v → record { up = 0; owned = Parameter k b } ≡ here v
      by None h = absurd (not_nowhere h)
      by (Some (Fixed c)) h = absurd (not_constant h)
      by (Some (Named r)) h = (let l = no_longer p r.up r.owned (s ∷ p) v h in absurd (omega arith))
  only_here (s ∷ p) (suc up) x v h = (let l = no_longer p up x (s ∷ p) v h in absurd (omega arith))

  -- a scalar is a scalar's name
  pub scalar_name : (p : List Step) (up : ℕ) (x : Owned) → place_array (resolve C p up x) ≡ false → is_array_owned x ≡ false
  scalar_name [] zero (Local w) h = h
  scalar_name [] zero (Parameter k b) h = absurd (cc)
  scalar_name [] (suc up) x h = absurd (cc)
  scalar_name (s ∷ p) zero (Local w) h = h
  scalar_name (s ∷ p) zero (Parameter k b) h = by (λ r e. scalar_name p r.up r.owned e) (argument C s.offset k b) refl h
    where
      by : ((r : Name) → place_array (resolve C p r.up r.owned) ≡ false → is_array_owned r.owned ≡ false) → (o : Option Argument) → argument C s.offset k b ≡ o → place_array (argued p o) ≡ false → b ≡ false
      by f None e h = absurd (cc)
      by f (Some (Fixed c)) e h = absurd (cc)
      by f (Some (Named r)) e h = sym (argument_kind (arguments (entry C (call_at C s.offset)).act) k b r e) ∙ f r h
  scalar_name (s ∷ p) (suc up) x h = scalar_name p up x h

  pub declared_at : (q : List Step) (v : Variable) → place_at C q (here v) ≡ Datum q v
  declared_at [] v = refl
  declared_at (s ∷ q) v = refl
