-- The shape of entries: an act has the needs that it uses, and its names are scalars and arrays as it requires.
use Rattle.std.specs.Prelude.{ℕ, Bool, true, false, not, ◌&&◌, nat_lt, List, [], ◌∷◌, length}
use Rattle.std.specs.List.{list_all, list_any}
use Rattle.task_code.specs.Code.{Need, Stored, Closed, At, AtKey, Expr, constant, need, operation, Exprs, no_operand, operand, Header, Act, Cell, Read, Call, Set, Fill, Copy, InsertElement, Print, Assert, If, Range, Each, Wait, Entry, is_array_name}
use Rattle.task_code.specs.Places.{name_eq}

-- needs for stored scalars name scalars, and needs for arrays name arrays
abbrev pub fits_kinds : Need → Bool
fits_kinds (Stored r) = not (is_array_name r)
fits_kinds (Closed r) = is_array_name r
fits_kinds (At a r) = is_array_name a && not (is_array_name r)
fits_kinds (AtKey a k) = is_array_name a

-- a scalar or a whole array
abbrev pub is_plain : Need → Bool
is_plain (Stored r) = true
is_plain (Closed r) = true
is_plain (At a r) = false
is_plain (AtKey a k) = false

-- the same scalar or array
abbrev pub is_same_plain : Need → Need → Bool
is_same_plain (Stored r) (Stored s) = name_eq r s
is_same_plain (Closed r) (Closed s) = name_eq r s
is_same_plain _ _ = false

-- each need that the expression uses has an index less than n
abbrev mutual
  pub is_fed : ℕ → Expr → Bool
  is_fed n (constant v) = true
  is_fed n (need k) = nat_lt k n
  is_fed n (operation o es) = are_fed n es

  pub are_fed : ℕ → Exprs → Bool
  are_fed n no_operand = true
  are_fed n (operand e es) = is_fed n e && are_fed n es

-- exactly one element
abbrev pub one_element : List Need → Bool
one_element (At a r ∷ []) = true
one_element (AtKey a k ∷ []) = true
one_element _ = false

-- exactly one array
abbrev pub one_array : List Need → Bool
one_array (Closed r ∷ []) = true
one_array _ = false

-- no needs
abbrev pub is_none : List Need → Bool
is_none [] = true
is_none (n ∷ ns) = false

-- the needs of expressions are scalars and whole arrays
abbrev pub feeds : List Need → Bool → Bool
feeds ns fed = list_all is_plain ns && fed

-- a wait has the needs of its headers, and no others
abbrev pub has_headers : List Header → List Need → Bool
has_headers hs ns =
    list_all (λ h. list_all (λ n. list_any (is_same_plain n) ns) h.needs) hs
    && list_all (λ n. list_any (λ h. list_any (is_same_plain n) h.needs) hs) ns

-- the act's target is an array or a scalar as its value is, and the act has the needs that it uses
abbrev pub has_shape : Act → List Need → Bool
has_shape (Cell e) ns = feeds ns (is_fed (length ns) e)
has_shape Read ns = one_element ns
has_shape (Call b rs os) ns = is_none ns
has_shape (Set r e) ns = not (is_array_name r) && feeds ns (is_fed (length ns) e)
has_shape (Fill r es) ns = is_array_name r && feeds ns (are_fed (length ns) es)
has_shape (Copy r) ns = is_array_name r && one_array ns
has_shape (InsertElement r i e) ns = is_array_name r && feeds ns (is_fed (length ns) i && is_fed (length ns) e)
has_shape (Print e) ns = feeds ns (is_fed (length ns) e)
has_shape (Assert e) ns = feeds ns (is_fed (length ns) e)
has_shape (If e b d) ns = feeds ns (is_fed (length ns) e)
has_shape (Range l h s w) ns = feeds ns (is_fed (length ns) l && (is_fed (length ns) h && is_fed (length ns) s))
has_shape (Each w) ns = one_array ns
has_shape (Wait hs b) ns = has_headers hs ns

-- the shape of an entry
abbrev pub is_shaped : Entry → Bool
is_shaped e = list_all fits_kinds e.needs && has_shape e.act e.needs
