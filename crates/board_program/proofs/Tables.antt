-- Tables one behind another.
use Rattle.std.proofs.Common.{◌≡◌, ◌∙◌, sym, ap, subst, ℕ, zero, suc, ◌+◌, ◌<◌, ◌≤◌, List, [], ◌∷◌, ◌++◌, length, map, drop, Some, None, arith}
use Rattle.std.specs.Prelude.{slice_index_or}
use Rattle.std.specs.List.{cons_option}
use Rattle.task_code.specs.Code.{Code}
use Rattle.task_code.specs.View.{name_view}
use Rattle.task_code.specs.declared.entry.Name.{Name as NameValue}
use Rattle.board_program.proofs.Homes.{cut, emptied, next, plus}
use Rattle.board_program.specs.Spots.{spot_in}
use Rattle.board_program.specs.Tables.{AllFrom, IsEntryTable, body_of, spots_in}
use Rattle.board_program.specs.declared.program.EntryTable.{EntryTable}
use Rattle.board_program.specs.declared.lexical_address.LexicalAddress.{LexicalAddress}

module _ {X : Type 0} (P : ℕ → X → Type 0) where
  pub all_more : (n : ℕ) (xs : List X) (x : X) → AllFrom P n xs → P (n + length xs) x → AllFrom P n (xs ++ x ∷ [])
  all_more n [] x h p = (subst (λ m. P m x) (same n) p, tt)
    where
      same : (n : ℕ) → n + 0 ≡ n
      same n = omega arith
  all_more n (y ∷ xs) x h p = (h.0, all_more (suc n) xs x h.1 (subst (λ m. P m x) (later n (length xs)) p))
    where
      later : (n m : ℕ) → n + suc m ≡ suc n + m
      later n m = omega arith

  pub all_at : (n : ℕ) (xs : List X) (i : ℕ) (d : X) → AllFrom P n xs → i < length xs → P (n + i) (slice_index_or xs i d)
  all_at n [] i d h l = absurd (omega (arith, l))
  all_at n (x ∷ xs) zero d h l = subst (λ m. P m x) (same n) h.0
    where
      same : (n : ℕ) → n ≡ n + 0
      same n = omega arith
  all_at n (x ∷ xs) (suc i) d h l = subst (λ m. P m (slice_index_or xs i d)) (later n i) (all_at (suc n) xs i d h.1 (omega (arith, l)))
    where
      later : (n m : ℕ) → suc n + m ≡ n + suc m
      later n m = omega arith

-- where names lead
module _ (C : Code) (b : ℕ) where
  pub spots_some : (xs : List NameValue) (i : ℕ) (d : NameValue) (s : LexicalAddress) → i < length xs → spot_in C b (name_view (slice_index_or xs i d)) ≡ Some s → spots_in C b (map name_view (drop i xs)) ≡ s ∷ spots_in C b (map name_view (drop (i + 1) xs))
  spots_some xs i d s h e =
      ap (λ (l : List NameValue). spots_in C b (map name_view l)) (cut xs i d h)
      ∙ ap (λ n. spots_in C b (name_view (slice_index_or xs i d) ∷ map name_view (drop n xs))) (next i)
      ∙ ap (λ o. cons_option o (spots_in C b (map name_view (drop (i + 1) xs)))) e

  pub spots_none : (xs : List NameValue) (i : ℕ) (d : NameValue) → i < length xs → spot_in C b (name_view (slice_index_or xs i d)) ≡ None → spots_in C b (map name_view (drop i xs)) ≡ spots_in C b (map name_view (drop (i + 1) xs))
  spots_none xs i d h e =
      ap (λ (l : List NameValue). spots_in C b (map name_view l)) (cut xs i d h)
      ∙ ap (λ n. spots_in C b (name_view (slice_index_or xs i d) ∷ map name_view (drop n xs))) (next i)
      ∙ ap (λ o. cons_option o (spots_in C b (map name_view (drop (i + 1) xs)))) e

  pub spots_end : (xs : List NameValue) (i : ℕ) → length xs ≤ i → spots_in C b (map name_view (drop i xs)) ≡ []
  spots_end xs i h = ap (λ (l : List NameValue). spots_in C b (map name_view l)) (emptied xs i h)

-- one table more
pub pushed : {X : Type 0} (P : ℕ → X → Type 0) (ts us : List X) (t : X) (n : ℕ) → AllFrom P 0 ts → length ts ≡ n → us ≡ ts ++ t ∷ [] → P n t → AllFrom P 0 us
pushed P ts us t n h l e x = subst (λ ts. AllFrom P 0 ts) (sym e) (all_more P 0 ts t h (subst (λ m. P m t) (sym l ∙ sym (plus (length ts))) x))

pub entry_pushed : (C : Code) (ts us : List EntryTable) (t : EntryTable) (n b : ℕ) → AllFrom (λ i t. IsEntryTable C (body_of C i) i t) 0 ts → length ts ≡ n → us ≡ ts ++ t ∷ [] → b ≡ body_of C n → IsEntryTable C b n t → AllFrom (λ i t. IsEntryTable C (body_of C i) i t) 0 us
entry_pushed C ts us t n b h l e q x =
    let P : ℕ → EntryTable → Type 0 = λ i t. IsEntryTable C (body_of C i) i t in
    subst (λ ts. AllFrom P 0 ts) (sym e) (all_more P 0 ts t h (subst (λ m. P m t) (sym l ∙ sym (plus (length ts))) (subst (λ c. IsEntryTable C c n t) q x)))
