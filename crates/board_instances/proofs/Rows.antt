-- Rows by number, and items by place.
use Rattle.std.proofs.Common.{◌≡◌, ◌∙◌, refl, sym, ap, subst, ℕ, zero, suc, ◌-◌, ◌<◌, ◌≤◌, List, [], ◌∷◌, length, Some, None, arith, slice_set}
use Rattle.std.specs.Prelude.{slice_index_or}
use Rattle.board_history.specs.Fields.{Row, row_of}
use Rattle.board_history.specs.Marking.{with_status}
use Rattle.board_instances.specs.View.{status_view, row_view, rows_view}
use Rattle.board_instances.specs.declared.item.ItemRecord.{ItemRecord}
use Rattle.board_instances.specs.declared.item.ItemStatus.{ItemStatus}

before : (n : ℕ) → n ≡ suc n - 1
before n = omega arith

-- there is no item of number 0
no_row : (xs : List ItemRecord) → row_of (rows_view xs) 0 ≡ None
no_row [] = refl
no_row (x ∷ xs) = refl

pub row_none : (xs : List ItemRecord) (n : ℕ) → n ≡ 0 → row_of (rows_view xs) n ≡ None
row_none xs zero e = no_row xs
row_none xs (suc n) e = absurd (omega (arith, e))

row_behind : (xs : List ItemRecord) (n : ℕ) (d : ItemRecord) → n < length xs → row_of (rows_view xs) (suc n) ≡ Some (row_view (slice_index_or xs n d))
row_behind [] n d h = absurd (omega (arith, h))
row_behind (x ∷ xs) zero d h = refl
row_behind (x ∷ xs) (suc n) d h = row_behind xs n d (omega (arith, h))

-- the item of a number stands one place before it
pub row_there : (xs : List ItemRecord) (n : ℕ) (d : ItemRecord) → 0 < n → n - 1 < length xs → row_of (rows_view xs) n ≡ Some (row_view (slice_index_or xs (n - 1) d))
row_there xs zero d p h = absurd (omega (arith, p))
row_there xs (suc n) d p h = row_behind xs n d (omega (arith, h)) ∙ ap (λ k. Some (row_view (slice_index_or xs k d))) (before n)

none_behind : (xs : List ItemRecord) (n : ℕ) → length xs ≤ n → row_of (rows_view xs) (suc n) ≡ None
none_behind [] n h = refl
none_behind (x ∷ xs) zero h = absurd (omega (arith, h))
none_behind (x ∷ xs) (suc n) h = none_behind xs n (omega (arith, h))

-- there is none past the last
pub row_past : (xs : List ItemRecord) (n : ℕ) → length xs ≤ n - 1 → row_of (rows_view xs) n ≡ None
row_past xs zero h = no_row xs
row_past xs (suc n) h = none_behind xs n (omega (arith, h))

-- no item is marked by the number 0, nor by one past the last
pub status_none : (xs : List ItemRecord) (m : ItemStatus) → with_status (rows_view xs) 0 (status_view m) ≡ rows_view xs
status_none [] m = refl
status_none (x ∷ xs) m = refl

status_behind : (xs : List ItemRecord) (n : ℕ) (m : ItemStatus) → length xs ≤ n → with_status (rows_view xs) (suc n) (status_view m) ≡ rows_view xs
status_behind [] n m h = refl
status_behind (x ∷ xs) zero m h = absurd (omega (arith, h))
status_behind (x ∷ xs) (suc n) m h = ap (λ ys. row_view x ∷ ys) (status_behind xs n m (omega (arith, h)))

pub status_past : (xs : List ItemRecord) (n : ℕ) (m : ItemStatus) → length xs ≤ n - 1 → with_status (rows_view xs) n (status_view m) ≡ rows_view xs
status_past xs zero m h = status_none xs m
status_past xs (suc n) m h = status_behind xs n m (omega (arith, h))

status_at_place : (xs : List ItemRecord) (n : ℕ) (m : ItemStatus) (d y : ItemRecord) → row_view y ≡ record { job = (row_view (slice_index_or xs n d)).job; status = status_view m } → n < length xs → rows_view (slice_set xs n y) ≡ with_status (rows_view xs) (suc n) (status_view m)
status_at_place [] n m d y e h = absurd (omega (arith, h))
status_at_place (x ∷ xs) zero m d y e h = ap (λ (r : Row). r ∷ rows_view xs) e
status_at_place (x ∷ xs) (suc n) m d y e h = ap (λ ys. row_view x ∷ ys) (status_at_place xs n m d y e (omega (arith, h)))

status_behind_one : (xs : List ItemRecord) (n k : ℕ) (m : ItemStatus) (d y : ItemRecord) → n ≡ k → row_view y ≡ record { job = (row_view (slice_index_or xs k d)).job; status = status_view m } → n < length xs → rows_view (slice_set xs k y) ≡ with_status (rows_view xs) (suc n) (status_view m)
status_behind_one xs n k m d y same e h =
    ap (λ i. rows_view (slice_set xs i y)) (sym same) ∙ status_at_place xs n m d y (subst (λ i. row_view y ≡ record { job = (row_view (slice_index_or xs i d)).job; status = status_view m }) (sym same) e) h

-- the item of the number has the status
pub status_there : (xs : List ItemRecord) (n : ℕ) (m : ItemStatus) (d y : ItemRecord) → row_view y ≡ record { job = (row_view (slice_index_or xs (n - 1) d)).job; status = status_view m } → 0 < n → n - 1 < length xs → rows_view (slice_set xs (n - 1) y) ≡ with_status (rows_view xs) n (status_view m)
status_there xs zero m d y e p h = absurd (omega (arith, p))
status_there xs (suc n) m d y e p h = status_behind_one xs n (suc n - 1) m d y (before n) e (omega (arith, h))
