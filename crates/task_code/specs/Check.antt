-- Computable tests of the conditions for whole code.
use Rattle.std.specs.Prelude.{ℕ, zero, suc, Bool, true, false, not, ◌&&◌, ◌||◌, List, [], ◌∷◌, Option, Some, None, nat_eq, nat_lt, length}
use Rattle.std.specs.List.{list_all}
use Rattle.task_code.specs.Code.{Argument, Body, ByCalls, ByMain, ByStep, ByWait, Calling, Code, Entry, Fixed, InPlace, Local, Loop, Name, Named, Opener, Owned, Parameter, Through, Variable, Way, argument, body, call_at, entry, here, is_array_name, loop_of, loop_variables, needed, targets, ways}
use Rattle.task_code.specs.Places.{name_eq, variable_eq}
use Rattle.task_code.specs.Shape.{is_shaped}

-- the name is in the list
abbrev pub name_in : Name → List Name → Bool
name_in r [] = false
name_in r (s ∷ ss) = name_eq r s || name_in r ss

-- the variable is in the list
abbrev pub variable_in : Variable → List Variable → Bool
variable_in v [] = false
variable_in v (w ∷ ws) = variable_eq v w || variable_in v ws

-- the number is in the list
abbrev pub number_in : ℕ → List ℕ → Bool
number_in n [] = false
number_in n (m ∷ ms) = nat_eq n m || number_in n ms

-- no number occurs twice
abbrev pub distinct_numbers : List ℕ → Bool
distinct_numbers [] = true
distinct_numbers (n ∷ ns) = not (number_in n ns) && distinct_numbers ns

-- no variable occurs twice
abbrev pub distinct_variables : List Variable → Bool
distinct_variables [] = true
distinct_variables (v ∷ vs) = not (variable_in v vs) && distinct_variables vs

-- a test that holds for each member with its index
abbrev pub every_at : {X : Type 0} → (ℕ → X → Bool) → List X → Bool
every_at f [] = true
every_at f (x ∷ xs) = f 0 x && every_at (λ i. f (suc i)) xs

-- both arguments are the same name
abbrev pub same_argument : Option Argument → Option Argument → Bool
same_argument (Some (Named r)) (Some (Named s)) = name_eq r s
same_argument _ _ = false

-- the body is opened by the start of the run alone
abbrev pub is_main : Opener → Bool
is_main ByMain = true
is_main (ByWait i) = false
is_main (ByStep i) = false
is_main ByCalls = false

module _ (C : Code) where
  -- the body declares the name
  abbrev pub is_declared : ℕ → Name → Bool
  is_declared b r = by r.up r.owned
    where
      by : ℕ → Owned → Bool
      by zero (Local v) = variable_in v (body C b).makes
      by zero (Parameter k a) = false
      by (suc up) x = false

  -- the opener has the right to the outside name of this name
  abbrev pub is_seen : List Name → ℕ → Way → Name → Bool
  is_seen rights offset InPlace r = name_in r rights
  is_seen rights offset Through r = by r.up
    where
      by : ℕ → Bool
      by zero = false
      by (suc up) = name_in (record { up = up; owned = r.owned }) rights
  is_seen rights offset Calling r = by r.up r.owned
    where
      by : ℕ → Owned → Bool
      by zero (Local v) = false
      by zero (Parameter k a) = elim (argument C offset k a) [ None ↦ false | Some x ↦ elim x [ Named s ↦ name_in s rights | Fixed v ↦ false ] ]
      by (suc up) x = false

  -- the name is a parameter whose argument is a literal
  abbrev pub is_fixed : ℕ → Way → Name → Bool
  is_fixed offset InPlace r = false
  is_fixed offset Through r = false
  is_fixed offset Calling r = by r.up r.owned
    where
      by : ℕ → Owned → Bool
      by zero (Local v) = false
      by zero (Parameter k a) = elim (argument C offset k a) [ None ↦ false | Some x ↦ elim x [ Named s ↦ false | Fixed v ↦ true ] ]
      by (suc up) x = false

  -- each name that an entry of the body may read is declared, or visible to the opener, or a literal
  abbrev pub reads_covered : Entry → Way → ℕ → Bool
  reads_covered e w b = list_all (λ j. list_all (λ r. (is_declared b r || is_seen e.reads e.offset w r) || is_fixed e.offset w r) (entry C j).reads) (body C b).entries

  -- each name of this right is declared, or visible to the opener
  abbrev pub is_covered : (Entry → List Name) → Entry → Way → ℕ → Bool
  is_covered rights e w b = list_all (λ j. list_all (λ r. is_declared b r || is_seen (rights e) e.offset w r) (rights (entry C j))) (body C b).entries

  -- the body's opener is this entry
  abbrev pub is_opened_by : ℕ → Entry → Way → Opener → Bool
  is_opened_by i e InPlace (ByWait n) = nat_eq n i
  is_opened_by i e Through (ByStep n) = nat_eq n i
  is_opened_by i e Calling ByCalls = nat_eq (call_at C e.offset) i
  is_opened_by i e w o = false

  -- a wait has no right to write a variable that its body declares
  abbrev pub is_inside : Entry → Way → ℕ → Bool
  is_inside e InPlace b = list_all (λ v. not (name_in (here v) e.writes)) (body C b).makes
  is_inside e Through b = true
  is_inside e Calling b = true

  -- two scalar parameters that are not the same variable of the caller
  abbrev pub outputs_apart : ℕ → Name → Name → Bool
  outputs_apart offset r s = by r.up r.owned s.up s.owned
    where
      by : ℕ → Owned → ℕ → Owned → Bool
      by zero (Parameter k false) zero (Parameter l false) = nat_eq k l || not (same_argument (argument C offset k false) (argument C offset l false))
      by _ _ _ _ = true

  -- no two outputs of a call are the same variable
  abbrev pub has_outputs : Entry → Way → ℕ → Bool
  has_outputs e InPlace b = true
  has_outputs e Through b = true
  has_outputs e Calling b =
      list_all (λ j. list_all (λ j'. list_all (λ r. list_all (λ s. outputs_apart e.offset r s) (entry C j').writes) (entry C j).writes) (body C b).entries) (body C b).entries

  -- the entry is compatible with a body that it opens
  abbrev pub is_fit : ℕ → Entry → Way × ℕ → Bool
  is_fit i e s =
      is_opened_by i e s.0 (body C s.1).opener
      && (reads_covered e s.0 s.1 && (is_covered (λ e. e.writes) e s.0 s.1 && (is_inside e s.0 s.1 && has_outputs e s.0 s.1)))

  -- the loop is compatible with its body
  abbrev pub is_fit_loop : Entry → Loop → Bool
  is_fit_loop e l =
      list_all is_array_name e.writes
      && (list_all (λ v. variable_in v (body C l.body).makes) (loop_variables l)
      && (distinct_variables (loop_variables l)
      && list_all (λ v. list_all (λ j. not (name_in (here v) (entry C j).writes)) (body C l.body).entries) (loop_variables l)))

  -- an entry that is not a loop passes
  abbrev pub is_fit_if_loop : Entry → Option Loop → Bool
  is_fit_if_loop e None = true
  is_fit_if_loop e (Some l) = is_fit_loop e l

  -- all conditions on one entry
  abbrev pub is_entry : ℕ → Entry → Bool
  is_entry i e =
      is_shaped e && (list_all (λ n. list_all (λ r. name_in r e.reads) (needed n)) e.needs
      && (list_all (λ r. name_in r e.writes) (targets e) && (list_all (is_fit i e) (ways e.act) && is_fit_if_loop e (loop_of e.act))))

  -- all conditions on one body, relative to the others
  abbrev pub is_body : ℕ → Body → Bool
  is_body b x =
      (distinct_numbers x.entries && list_all (λ j. nat_lt j (length C.entries)) x.entries)
      && (list_all (λ j. list_all (λ j'. list_all (λ r. nat_eq j j' || (is_array_name r || not (name_in r (entry C j').writes))) (entry C j).writes) x.entries) x.entries
      && every_at (λ b' y. nat_eq b b' || (list_all (λ v. not (variable_in v y.makes)) x.makes && list_all (λ j. not (number_in j y.entries)) x.entries)) C.bodies)

  -- the first body is the script
  abbrev pub is_script : Bool
  is_script =
      is_main (body C 0).opener
      && (list_all (λ j. list_all (is_declared 0) (entry C j).reads) (body C 0).entries && list_all (λ j. list_all (is_declared 0) (entry C j).writes) (body C 0).entries)

  -- code is whole
  abbrev pub is_code : Bool
  is_code = is_script && (every_at is_entry C.entries && every_at is_body C.bodies)
