-- What is missed of several needs, one after the other.
use Rattle.std.proofs.Common.{◌≡◌, ◌∙◌, refl, sym, ap, ℕ, zero, suc, ◌<◌, ◌≤◌, ◌+◌, List, [], ◌∷◌, ◌++◌, length, drop, drop-cons, get_or, add-one, arith, append_assoc, append-nil}
use Rattle.std.specs.Prelude.{Option}
use Rattle.std.specs.List.{flat_map}
use Rattle.board_data.specs.Wanted.{value_missed}
use Rattle.board_instances.specs.Names.{datum_of}
use Rattle.board_history.specs.Fields.{Absent, Counted, DatumOf, LiteralOf, Slot}
use Rattle.board_history.specs.Needs.{scalar_missed}

-- a slot misses the value of its datum
pub value_of_slot : (cs : List (Option Counted)) (s : Slot) → value_missed cs (datum_of s) ≡ scalar_missed cs s
value_of_slot cs Absent = refl
value_of_slot cs (DatumOf d) = refl
value_of_slot cs (LiteralOf e k) = refl

module _ {X Y : Type 0} (f : X → List Y) where
  step : (xs : List X) (i : ℕ) (d : X) → i < length xs → flat_map f (drop i xs) ≡ f (get_or xs i d) ++ flat_map f (drop (i + 1) xs)
  step xs i d h = ap (flat_map f) (drop-cons xs i d h) ∙ ap (λ n. f (get_or xs i d) ++ flat_map f (drop n xs)) (sym (add-one i))

  -- with one need more done
  pub missed_next : (all before now : List Y) (xs : List X) (i : ℕ) (x : X) → i < length xs → x ≡ get_or xs i x → before ++ flat_map f (drop i xs) ≡ all → now ≡ before ++ f x → now ++ flat_map f (drop (i + 1) xs) ≡ all
  missed_next all before now xs i x h is b n =
      ap (λ ys. ys ++ flat_map f (drop (i + 1) xs)) (n ∙ ap (λ y. before ++ f y) is)
      ∙ append_assoc before (f (get_or xs i x)) (flat_map f (drop (i + 1) xs))
      ∙ ap (λ ys. before ++ ys) (sym (step xs i x h))
      ∙ b

  -- and all of them
  pub missed_end : (all now : List Y) (xs : List X) (i : ℕ) → length xs ≤ i → now ++ flat_map f (drop i xs) ≡ all → now ≡ all
  missed_end all now xs i h e = sym (append-nil now) ∙ ap (λ ys. now ++ flat_map f ys) (sym (past xs i h)) ∙ e
    where
      past : (xs : List X) (i : ℕ) → length xs ≤ i → drop i xs ≡ []
      past [] zero h = refl
      past [] (suc i) h = refl
      past (x ∷ xs) zero h = absurd (omega (arith, h))
      past (x ∷ xs) (suc i) h = past xs i (omega (arith, h))
