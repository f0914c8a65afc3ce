-- All parts of a statement are laid as the rules ask.
use Rattle.std.proofs.Common.{◌≡◌, ℕ, ℤ, [], ◌++◌, List, length, refl, sym, ap, ◌∙◌}
use Rattle.std.proofs.lemmas.List.{append-nil}
use Rattle.language.specs.Core.{Part}
use Rattle.task_code.specs.Code.{Entry}
use Rattle.code_rules.specs.Laying.{Kinds, Laying, LaysParts, code_of, counted}
use Rattle.emit_cells.specs.Chunk.{Chunk}

pub parts_laid : (fs : List Kinds) (k : ℕ) (all : List Part) (at : ℕ) (p : ℤ) (s t : Laying) (more : List Entry) → t.entries ≡ s.entries ++ more → t.bodies ≡ s.bodies → Chunk fs k all at p all more
    → LaysParts fs k all at p s t (counted (length s.entries) (length more))
parts_laid fs k all at p s t more entries bodies chunk = record {
  more = more;
  entries = entries;
  bodies = bodies;
  numbers = refl;
  fit = chunk.fit;
  parts_as = λ l plain roots indexes. chunk.parts_as (code_of t) s.entries [] (entries ∙ ap (λ es. s.entries ++ es) (sym (append-nil more))) l plain roots indexes;
}
