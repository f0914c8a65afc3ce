-- What is handed over for the cells of a whole statement, and the entries of all its parts.
use Rattle.std.proofs.Common.{◌≡◌, ℕ, List, ap, sym, ◌∙◌, Option, Some, None}
use Rattle.std.specs.Prelude.{option_map, nat_eq}
use Rattle.std.specs.Map.{lookup}
use Rattle.indexmap.specs.IndexMap.{IndexMap, IsEmpty}
use Rattle.task_code.specs.View.{argument_view}
use Rattle.language.specs.Core.{Part}
use Rattle.task_code.specs.Code.{Argument}
use Rattle.task_code.specs.declared.entry.Argument.{Argument as Handed}
use Rattle.emit_cells.specs.Chunk.{Inside, IsPassed, Passes, handed_in}

pub inside_all : (all : List Part) → Inside all all
inside_all all = record { plain = λ l h. h; there = λ x i. i }

none_some : (a : Argument) → ◌≡◌ {A = Option Argument} None (Some a) → ⊥
none_some a e = cc

pub passed_all : {S : Type 0} (k : ℕ) (all : List Part) (old new : IndexMap ℕ Handed S) → ((n : ℕ) → handed_in old n ≡ None) → Passes k all all old new → IsPassed k all new
passed_all k all old new empty passes = record {
  good = passes.good (λ n a e. absurd (none_some a (sym (empty n) ∙ e)));
  found = passes.found;
}

pub nothing_handed : {S : Type 0} (m : IndexMap ℕ Handed S) → IsEmpty m → (n : ℕ) → handed_in m n ≡ None
nothing_handed m empty n = ap (λ (es : List (ℕ × Handed)). option_map argument_view (lookup (nat_eq n) es)) empty
