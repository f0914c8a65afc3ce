-- Parts that are laid into their block.
use Rattle.std.proofs.Common.{◌≡◌, ◌≤◌, ◌^◌, ℕ, ◌-◌, ℤ, List, ◌++◌, map, length, None}
use Rattle.language.specs.Core.{Part}
use Rattle.task_code.specs.Code.{Body}
use Rattle.task_code.specs.View.{entry_view, variable_view}
use Rattle.task_code.specs.declared.entry.Entry.{Entry as Made}
use Rattle.code_rules.specs.Laying.{Kinds, LaysParts, counted, data_in}
use Rattle.emit_cells.specs.Chunk.{Added}
use Rattle.emit_statements.specs.Into.{laying}
use Rattle.emit_statements.specs.declared.block_builder.BlockBuilder.{BlockBuilder}
use Rattle.emit_statements.proofs.Numbers.{added_numbers}
use Rattle.emit_statements.specs.Blocks.{PartsInto}

pub parts_into : (fs : List Kinds) (k at : ℕ) (p : ℤ) (ps : List Part) (bodies : List Body) (old new : List Made) (before after : BlockBuilder) (from to : ℕ) → length new ≤ 2 ^ 32
    → (added : Added fs k ps at p ps old new) → LaysParts fs k ps at p (laying old bodies) (laying new bodies) (counted (length (map entry_view old)) (length added.more))
    → map variable_view after.makes.items ≡ map variable_view before.makes.items ++ data_in None ps
    → from ≡ length old → to ≡ length new → (from ≤ to → to ≤ 2 ^ 32 → after.entries.items ≡ before.entries.items ++ counted from (to - from))
    → PartsInto fs k ps at p (laying old bodies) (laying new bodies) before after
parts_into fs k at p ps bodies old new before after from to few added parts makes a b numbers = record {
  numbers = counted (length (map entry_view old)) (length added.more);
  laid = parts;
  entries = added_numbers old new added.more from to before.entries.items after.entries.items added.is a b few numbers;
  makes = makes;
}
