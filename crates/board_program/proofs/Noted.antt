-- The places of numbers, noted one after the other.
use Rattle.std.proofs.Common.{◌≡◌, ◌∙◌, refl, sym, ap, cond, ℕ, zero, suc, ◌+◌, ◌-◌, ◌<◌, List, [], ◌∷◌, length, Option, Some, None, Bool, true, false, arith}
use Rattle.std.specs.Prelude.{nat_eq, nat_lt, replicate, set, slice_index_or, if◌then◌else◌}
use Rattle.std.specs.Map.{lookup}
use Rattle.std.proofs.lemmas.List.{length-set, get_or-set_same, get_or-set_other}
use Rattle.indexmap.specs.IndexMap.{get, index_map_len, IsEmpty}
use Rattle.task_code.proofs.Equal.{nat_same, nat_sound}
use Rattle.board_program.specs.Places.{NotesPlace, entry_or, entry_place, index_from, place_at}
use Rattle.board_program.specs.declared.variable_index.VariableIndex.{VariableIndex}

-- nothing has a place where the table has zeros alone and the map is empty
zero_there : (n k : ℕ) → ◌≡◌ {A = ℕ} (slice_index_or (replicate n 0) k 0) 0
zero_there zero k = refl
zero_there (suc n) zero = refl
zero_there (suc n) (suc k) = zero_there n k

pub blank : (m : VariableIndex) (n : ℕ) → m.table.items ≡ replicate n 0 → IsEmpty m.far → (q : ℕ) → place_at m q ≡ None
blank m n h e q = by (index_from m.least (length m.table.items) q)
  where
    by : (o : Option ℕ) → entry_or m.table.items (get nat_eq m.far q) o ≡ None
    by None = ap (λ es. lookup (nat_eq q) es) e
    by (Some k) = ap (λ t. entry_place (slice_index_or t k 0)) h ∙ ap entry_place (zero_there n k)

-- a map of none has no place
pub none_far : (m : VariableIndex) (n : ℕ) → index_map_len m.far ≡ 0 → get nat_eq m.far n ≡ None
none_far m n h = by m.far.entries h
  where
    by : (es : List (ℕ × ℕ)) → length es ≡ 0 → lookup (nat_eq n) es ≡ None
    by [] h = refl
    by (e ∷ es) h = absurd (omega (arith, h))

-- where a number stands in the table
some_same : (a b : ℕ) → ◌≡◌ {A = Option ℕ} (Some a) (Some b) → a ≡ b
some_same a b h = ap (λ o. elim o [ None ↦ 0 | Some n ↦ n ]) h

none_some : {A : Type 0} {n : ℕ} → ◌≡◌ {A = Option ℕ} None (Some n) → A
none_some h = absurd (cc)

no_both : ◌≡◌ {A = Bool} false true → ⊥
no_both h = absurd (cc)

reached : (least size n k : ℕ) → index_from least size n ≡ Some k → (least + k ≡ n) × (k < size)
reached least size n k h = by (nat_lt n least) (nat_lt (n - least) size) refl refl h
  where
    by : (a b : Bool) → nat_lt n least ≡ a → nat_lt (n - least) size ≡ b → ◌≡◌ {A = Option ℕ} (if a then None else if b then Some (n - least) else None) (Some k) → (least + k ≡ n) × (k < size)
    by true b p q e = none_some e
    by false false p q e = none_some e
    by false true p q e = let s = some_same (n - least) k e in (sum n least k s p, under n least k size s q)
      where
        sum : (n least k : ℕ) → n - least ≡ k → nat_lt n least ≡ false → least + k ≡ n
        sum n least k s p = grind arith

        under : (n least k size : ℕ) → n - least ≡ k → nat_lt (n - least) size ≡ true → k < size
        under n least k size s q = grind arith

entry_told : (p : ℕ) → entry_place (p + 1) ≡ Some p
entry_told p = grind arith

module _ (least : ℕ) (t : List ℕ) (far : Option ℕ) (n q : ℕ) where
  -- a place noted in the table
  in_table : (k p : ℕ) → index_from least (length t) n ≡ Some k → entry_or (set t k (p + 1)) far (index_from least (length t) q) ≡ (if nat_eq n q then Some p else entry_or t far (index_from least (length t) q))
  in_table k p h = by (index_from least (length t) q) (nat_eq n q) refl refl
    where
      at_n : nat_eq n q ≡ true → index_from least (length t) q ≡ Some k
      at_n b = ap (index_from least (length t)) (sym (nat_sound n q b)) ∙ h

      apart : (j : ℕ) → index_from least (length t) q ≡ Some j → nat_eq n q ≡ false → j ≡ k → ⊥
      apart j e b s = no_both (sym b ∙ ap (nat_eq n) (sym (sum least j k n q (reached least (length t) n k h).0 (reached least (length t) q j e).0 s)) ∙ nat_same n)
        where
          sum : (least j k n q : ℕ) → least + k ≡ n → least + j ≡ q → j ≡ k → n ≡ q
          sum least j k n q a b c = omega (arith, a, b, c)

      by : (o : Option ℕ) (b : Bool) → index_from least (length t) q ≡ o → nat_eq n q ≡ b → entry_or (set t k (p + 1)) far o ≡ (if b then Some p else entry_or t far o)
      by None true e b = none_some (sym e ∙ at_n b)
      by None false e b = refl
      by (Some j) true e b =
          ap (λ i. entry_place (slice_index_or (set t k (p + 1)) i 0)) (some_same j k (sym e ∙ at_n b))
          ∙ ap entry_place (get_or-set_same t k (p + 1) 0 (reached least (length t) n k h).1)
          ∙ entry_told p
      by (Some j) false e b = ap entry_place (get_or-set_other t k j (p + 1) 0 (apart j e b))

  -- a place noted in the map
  in_map : (new : Option ℕ) (p : ℕ) → index_from least (length t) n ≡ None → new ≡ cond (nat_eq n q) (Some p) far → entry_or t new (index_from least (length t) q) ≡ (if nat_eq n q then Some p else entry_or t far (index_from least (length t) q))
  in_map new p h u = by (index_from least (length t) q) (nat_eq n q) refl refl
    where
      at_n : nat_eq n q ≡ true → index_from least (length t) q ≡ None
      at_n b = ap (index_from least (length t)) (sym (nat_sound n q b)) ∙ h

      by : (o : Option ℕ) (b : Bool) → index_from least (length t) q ≡ o → nat_eq n q ≡ b → entry_or t new o ≡ (if b then Some p else entry_or t far o)
      by None true e b = u ∙ ap (λ c. cond c (Some p) far) b
      by None false e b = u ∙ ap (λ c. cond c (Some p) far) b
      by (Some j) true e b = none_some (sym (at_n b) ∙ e)
      by (Some j) false e b = refl

module _ (old new : VariableIndex) (n p : ℕ) where
  pub noted_near : (k e : ℕ) → index_from old.least (length old.table.items) n ≡ Some k → e ≡ p + 1 → new.least ≡ old.least → new.table.items ≡ set old.table.items k e → new.far ≡ old.far → NotesPlace old new n p
  noted_near k e h s l t f = record { each = λ q. start q ∙ in_table old.least old.table.items (get nat_eq old.far q) n q k p h }
    where
      items : new.table.items ≡ set old.table.items k (p + 1)
      items = t ∙ ap (set old.table.items k) s

      start : (q : ℕ) → place_at new q ≡ entry_or (set old.table.items k (p + 1)) (get nat_eq old.far q) (index_from old.least (length old.table.items) q)
      start q =
          ap (λ x. entry_or x (get nat_eq new.far q) (index_from new.least (length x) q)) items
          ∙ ap (λ x. entry_or (set old.table.items k (p + 1)) (get nat_eq x q) (index_from new.least (length (set old.table.items k (p + 1))) q)) f
          ∙ ap (λ x. entry_or (set old.table.items k (p + 1)) (get nat_eq old.far q) (index_from x (length (set old.table.items k (p + 1))) q)) l
          ∙ ap (λ x. entry_or (set old.table.items k (p + 1)) (get nat_eq old.far q) (index_from old.least x q)) (length-set old.table.items k (p + 1))

  pub noted_far : index_from old.least (length old.table.items) n ≡ None → new.least ≡ old.least → new.table.items ≡ old.table.items → ((q : ℕ) → get nat_eq new.far q ≡ cond (nat_eq n q) (Some p) (get nat_eq old.far q)) → NotesPlace old new n p
  noted_far h l t u = record { each = λ q. start q ∙ in_map old.least old.table.items (get nat_eq old.far q) n q (get nat_eq new.far q) p h (u q) }
    where
      start : (q : ℕ) → place_at new q ≡ entry_or old.table.items (get nat_eq new.far q) (index_from old.least (length old.table.items) q)
      start q =
          ap (λ x. entry_or x (get nat_eq new.far q) (index_from new.least (length x) q)) t
          ∙ ap (λ x. entry_or old.table.items (get nat_eq new.far q) (index_from x (length old.table.items) q)) l
