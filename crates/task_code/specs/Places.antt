-- Paths of block instances, places of data, and the place of a name at a path.
use Rattle.std.specs.Prelude.{ℕ, zero, suc, Bool, true, false, ◌&&◌, List, [], ◌∷◌, Some, None, nat_eq}
use Rattle.values.specs.declared.key.Key.{Key}
use Rattle.values.specs.declared.value.Scalar.{Scalar}
use Rattle.values.specs.declared.value.Value.TheVariants.{One}
use Rattle.values.specs.Keys.{same_key}
use Rattle.values.specs.Values.{same, same_truth}
use Rattle.task_code.specs.Code.{Variable, Owned, Local, Parameter, Name, Named, Fixed, Code, argument}

-- a step to a block: the offset of its opener, and the branch (0 or 1), the key of the turn, or 0 for a call
pub record Step : Type 0 where
  pub offset : ℕ
  pub key : Key

-- the place of a name: a variable in the instance of a block, which is given by its path with the last step first. A
-- parameter whose argument is a literal is that literal and has no datum; a name without a referent is nowhere
pub data Place : Type 0 where
  Datum : (path : List Step) → (variable : Variable) → Place
  Constant : Scalar → Place
  Nowhere : Place

-- the place is an array; a place without a datum counts as one, so that each scalar is a datum
abbrev pub place_array : Place → Bool
place_array (Datum p v) = v.array
place_array (Constant v) = true
place_array Nowhere = true

-- equality of paths, variables, places and names
abbrev pub path_eq : List Step → List Step → Bool
path_eq [] [] = true
path_eq [] (t ∷ q) = false
path_eq (s ∷ p) [] = false
path_eq (s ∷ p) (t ∷ q) = nat_eq s.offset t.offset && (same_key s.key t.key && path_eq p q)

abbrev pub variable_eq : Variable → Variable → Bool
variable_eq v w = nat_eq v.node w.node && same_truth v.array w.array

abbrev pub place_eq : Place → Place → Bool
place_eq (Datum p v) (Datum q w) = path_eq p q && variable_eq v w
place_eq (Constant v) (Constant w) = same (One v) (One w)
place_eq Nowhere Nowhere = true
place_eq _ _ = false

abbrev pub owned_eq : Owned → Owned → Bool
owned_eq (Local v) (Local w) = variable_eq v w
owned_eq (Local v) (Parameter k b) = false
owned_eq (Parameter k b) (Local w) = false
owned_eq (Parameter k b) (Parameter l d) = nat_eq k l && same_truth b d

abbrev pub name_eq : Name → Name → Bool
name_eq r s = nat_eq r.up s.up && owned_eq r.owned s.owned

module _ (C : Code) where
  -- the place of a name: go out `up` steps; the owner's own variable is there, and a parameter is looked up at the call
  -- that the last step belongs to
  abbrev pub resolve : List Step → ℕ → Owned → Place
  resolve [] zero (Local v) = Datum [] v
  resolve [] zero (Parameter k b) = Nowhere
  resolve [] (suc up) x = Nowhere
  resolve (s ∷ p) zero (Local v) = Datum (s ∷ p) v
  resolve (s ∷ p) zero (Parameter k b) = elim (argument C s.offset k b) [ None ↦ Nowhere | Some a ↦ elim a [ Named r ↦ resolve p r.up r.owned | Fixed v ↦ Constant v ] ]
  resolve (s ∷ p) (suc up) x = resolve p up x

  abbrev pub place_at : List Step → Name → Place
  place_at p r = resolve p r.up r.owned
