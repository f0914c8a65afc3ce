-- What is kept of an argument among the matches.
use Rattle.std.proofs.Common.{◌≤◌, ◌≡◌, arith, ℕ, Bool, true, false, refl, ap, List, [], ◌∷◌, ◌++◌}
use Rattle.std.specs.Prelude.{◌||◌, cond, unwrap_or, bytes_eq}
use Rattle.std.proofs.lemmas.Bool.{or_parts}
use Rattle.std.proofs.lemmas.Slice.Eq.{bytes_eq-Decides}
use Rattle.clap.specs.Words.{Row, Text, all_of}
use Rattle.clap.specs.Walk.{with_values, has_row, without}
use Rattle.clap.specs.declared.builder.value_parser.Reading.TheVariants.{AsWritten}
use Rattle.clap.specs.declared.parser.matches.ValueSource.TheVariants.{CommandLine}
use Rattle.swt_arguments.proofs.Arguments.{same}

abbrev pub kept : Text → List Row → List Text
kept id rows = unwrap_or (all_of id rows) []

-- values that are added to an argument stand behind its others, and those of no other argument change
pub kept_same : (id : Text) (vs : List Text) (rows : List Row) → kept id (with_values id AsWritten CommandLine vs rows) ≡ kept id rows ++ vs
kept_same id vs [] = let own : bytes_eq id id ≡ true = (bytes_eq-Decides id id).1 refl in rw own refl
kept_same id vs (x ∷ xs) = go (bytes_eq x.id id) refl (kept_same id vs xs)
  where
    go : (b : Bool) → bytes_eq x.id id ≡ b → kept id (with_values id AsWritten CommandLine vs xs) ≡ kept id xs ++ vs
        → kept id (with_values id AsWritten CommandLine vs (x ∷ xs)) ≡ kept id (x ∷ xs) ++ vs
    go true e more = rw (e, e) refl
    go false e more = rw (e, e) more

pub kept_other : (id other : Text) (vs : List Text) (rows : List Row) → bytes_eq other id ≡ false
    → kept id (with_values other AsWritten CommandLine vs rows) ≡ kept id rows
kept_other id other vs [] differ = rw differ refl
kept_other id other vs (x ∷ xs) differ = go (bytes_eq x.id other) (bytes_eq x.id id) refl refl (kept_other id other vs xs differ)
  where
    go : (b t : Bool) → bytes_eq x.id other ≡ b → bytes_eq x.id id ≡ t → kept id (with_values other AsWritten CommandLine vs xs) ≡ kept id xs
        → kept id (with_values other AsWritten CommandLine vs (x ∷ xs)) ≡ kept id (x ∷ xs)
    go true t e is more =
        let miss : bytes_eq x.id id ≡ false = rw (same x.id other e) differ in
        rw (e, miss) refl
    go false true e is more = rw (e, is) refl
    go false false e is more = rw (e, is) more

-- an argument that was not used has no row to be taken out
pub without_none : (id : Text) (rows : List Row) → has_row id rows ≡ false → without id rows ≡ rows
without_none id [] e = refl
without_none id (x ∷ xs) e =
    let parts = or_parts (bytes_eq x.id id) (has_row id xs) e in
    rw parts.0 (ap (λ rest. x ∷ rest) (without_none id xs parts.1))

pub row_same : (id : Text) (vs : List Text) (rows : List Row) → has_row id (with_values id AsWritten CommandLine vs rows) ≡ true
row_same id vs [] = let own : bytes_eq id id ≡ true = (bytes_eq-Decides id id).1 refl in rw own refl
row_same id vs (x ∷ xs) = go (bytes_eq x.id id) refl (row_same id vs xs)
  where
    go : (b : Bool) → bytes_eq x.id id ≡ b → has_row id (with_values id AsWritten CommandLine vs xs) ≡ true
        → has_row id (with_values id AsWritten CommandLine vs (x ∷ xs)) ≡ true
    go true e more = rw (e, e) refl
    go false e more = rw (e, e) more

pub row_other : (id other : Text) (vs : List Text) (rows : List Row) → bytes_eq other id ≡ false
    → has_row id (with_values other AsWritten CommandLine vs rows) ≡ has_row id rows
row_other id other vs [] differ = rw differ refl
row_other id other vs (x ∷ xs) differ = go (bytes_eq x.id other) refl (row_other id other vs xs differ)
  where
    go : (b : Bool) → bytes_eq x.id other ≡ b → has_row id (with_values other AsWritten CommandLine vs xs) ≡ has_row id xs
        → has_row id (with_values other AsWritten CommandLine vs (x ∷ xs)) ≡ has_row id (x ∷ xs)
    go true e more = rw e refl
    go false e more = rw e (ap (λ b. bytes_eq x.id id || b) more)

-- how often an argument was used, as far as one use is told from none
abbrev pub tally : Text → List Row → ℕ
tally id rows = cond (has_row id rows) 1 0

pub tally_most : (id : Text) (rows : List Row) → tally id rows ≤ 1
tally_most id rows = go (has_row id rows)
  where
    go : (b : Bool) → cond b 1 0 ≤ 1
    go true = omega arith
    go false = omega arith
