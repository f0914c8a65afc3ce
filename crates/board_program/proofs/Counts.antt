-- Names and entries counted one after the other.
use Rattle.std.proofs.Common.{◌≡◌, ◌∙◌, refl, sym, ap, subst, ℕ, zero, suc, ◌+◌, ◌-◌, ◌<◌, ◌≤◌, List, [], ◌∷◌, ◌++◌, length, take, Some, None, Bool, true, false, ◌||◌, arith}
use Rattle.std.specs.Prelude.{is_some, slice_index_or, if◌then◌else◌}
use Rattle.std.specs.List.{filter}
use Rattle.board_history.specs.Static.{name_times}
use Rattle.task_code.proofs.Equal.{variable_same, variable_sound}
use Rattle.task_code.specs.Check.{variable_in}
use Rattle.task_code.specs.Code.{blank_entry, Body, body, Code, Control, Entry, entry, Kind, kind_of, Leaf, Name, nth, Variable}
use Rattle.task_code.specs.Places.{variable_eq}
use Rattle.task_code.specs.View.{entry_view}
use Rattle.task_code.specs.declared.entry.Entry.{Entry as EntryValue}
use Rattle.board_program.proofs.Homes.{plus, taken, whole}
use Rattle.board_program.proofs.Spots.{blank}
use Rattle.board_program.specs.Spots.{place_from}
use Rattle.board_program.specs.Tables.{is_kind, run_as, runs_as}

-- names
pub times_append : (r : Name) (xs ys : List Name) → name_times r (xs ++ ys) ≡ name_times r xs + name_times r ys
times_append r [] ys = sym (plus _)
times_append r (x ∷ xs) ys = let h = times_append r xs ys in omega (arith, h)

-- entries
pub blank_there : (es : List Entry) (i : ℕ) → length es ≤ i → nth blank_entry es i ≡ blank_entry
blank_there [] i h = refl
blank_there (e ∷ es) zero h = absurd (omega (arith, h))
blank_there (e ∷ es) (suc i) h = blank_there es i (omega (arith, h))

-- a variable that is declared has a place
eq_flips : (v w : Variable) → variable_eq w v ≡ variable_eq v w
eq_flips v w = by (variable_eq w v) (variable_eq v w) refl refl
  where
    one_way : (x y : Variable) → variable_eq x y ≡ true → variable_eq y x ≡ true
    one_way x y h = subst (λ (z : Variable). variable_eq y z ≡ true) (sym (variable_sound x y h)) (variable_same y)

    by : (a b : Bool) → variable_eq w v ≡ a → variable_eq v w ≡ b → variable_eq w v ≡ variable_eq v w
    by true b p q = p ∙ sym (one_way w v p)
    by false true p q = absurd (no_both (sym p ∙ one_way v w q))
      where
        no_both : ◌≡◌ {A = Bool} false true → ⊥
        no_both h = absurd (cc)
    by false false p q = p ∙ sym q

pub place_told : (v : Variable) (n : ℕ) (ws : List Variable) → is_some (place_from n v ws) ≡ variable_in v ws
place_told v n [] = refl
place_told v n (w ∷ ws) = by (place_told v (suc n) ws) (variable_eq w v) refl
  where
    by : is_some (place_from (suc n) v ws) ≡ variable_in v ws → (b : Bool) → variable_eq w v ≡ b → is_some (if variable_eq w v then Some n else place_from (suc n) v ws) ≡ (variable_eq v w || variable_in v ws)
    by r true h = ap (λ b. is_some (if b then Some n else place_from (suc n) v ws)) h ∙ sym (ap (λ b. b || variable_in v ws) (sym (eq_flips v w) ∙ h))
    by r false h = ap (λ b. is_some (if b then Some n else place_from (suc n) v ws)) h ∙ r ∙ sym (ap (λ b. b || variable_in v ws) (sym (eq_flips v w) ∙ h))

-- kinds of entries
counted : (b : Bool) (x : ℕ) (xs : List ℕ) → length (if b then x ∷ xs else xs) ≡ (if b then 1 else 0) + length xs
counted true x xs = omega arith
counted false x xs = omega arith

module _ (C : Code) where
  one_last : (js : List ℕ) (j : ℕ) → run_as C Control (js ++ j ∷ []) ≡ run_as C Control js + (if runs_as C Control j then 1 else 0)
  one_last [] j = alone (runs_as C Control j)
    where
      alone : (b : Bool) → length (if b then j ∷ [] else []) ≡ 0 + (if b then 1 else 0)
      alone true = refl
      alone false = refl
  one_last (i ∷ js) j =
      counted (runs_as C Control i) i (filter (runs_as C Control) (js ++ j ∷ []))
      ∙ past (if runs_as C Control i then 1 else 0) (run_as C Control js) (if runs_as C Control j then 1 else 0) _ (one_last js j)
      ∙ sym (ap (λ n. n + (if runs_as C Control j then 1 else 0)) (counted (runs_as C Control i) i (filter (runs_as C Control) js)))
    where
      past : (x y z n : ℕ) → n ≡ y + z → x + n ≡ (x + y) + z
      past x y z n h = omega (arith, h)

  pub control_next : (js : List ℕ) (i d : ℕ) (e : EntryValue) → i < length js → entry_view e ≡ entry C (slice_index_or js i d) → run_as C Control (take (i + 1) js) ≡ run_as C Control (take i js) + (if is_kind Control (kind_of (entry_view e).act) then 1 else 0)
  control_next js i d e h q =
      ap (run_as C Control) (taken js i d h)
      ∙ one_last (take i js) (slice_index_or js i d)
      ∙ sym (ap (λ (t : Entry). run_as C Control (take i js) + (if is_kind Control (kind_of t.act) then 1 else 0)) q)

  pub control_past : (js : List ℕ) (i d : ℕ) → i < length js → length C.entries ≤ slice_index_or js i d → run_as C Control (take (i + 1) js) ≡ run_as C Control (take i js)
  control_past js i d h q =
      ap (run_as C Control) (taken js i d h)
      ∙ one_last (take i js) (slice_index_or js i d)
      ∙ ap (λ (t : Entry). run_as C Control (take i js) + (if is_kind Control (kind_of t.act) then 1 else 0)) (blank_there C.entries (slice_index_or js i d) q)
      ∙ none (run_as C Control (take i js))
    where
      none : (n : ℕ) → n + 0 ≡ n
      none n = omega arith

  pub control_all : (js : List ℕ) (i : ℕ) → length js ≤ i → run_as C Control (take i js) ≡ run_as C Control js
  control_all js i h = ap (run_as C Control) (whole js i h)

  either : (k : Kind) (x y z : ℕ) → x + y ≡ z → ((if is_kind Control k then 1 else 0) + x) + ((if is_kind Leaf k then 1 else 0) + y) ≡ suc z
  either Control x y z h = omega (arith, h)
  either Leaf x y z h = omega (arith, h)

  all_run : (js : List ℕ) → run_as C Control js + run_as C Leaf js ≡ length js
  all_run [] = refl
  all_run (j ∷ js) =
      (λ i. counted (runs_as C Control j) j (filter (runs_as C Control) js) i + counted (runs_as C Leaf j) j (filter (runs_as C Leaf) js) i)
      ∙ either (kind_of (entry C j).act) (run_as C Control js) (run_as C Leaf js) (length js) (all_run js)

  pub leaves_left : (js : List ℕ) → length js - run_as C Control js ≡ run_as C Leaf js
  leaves_left js = let h = all_run js in omega (arith, h)

-- a body that is not there declares nothing
pub no_place : (C : Code) (b : ℕ) (v : Variable) → length C.bodies ≤ b → None ≡ place_from 0 v (body C b).makes
no_place C b v h = sym (ap (λ (y : Body). place_from 0 v y.makes) (blank C.bodies b h))
