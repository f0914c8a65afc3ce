-- Statements that are laid into their block.
use Rattle.std.proofs.Common.{◌≡◌, ◌≤◌, ◌^◌, ℕ, ◌-◌, ℤ, List, [], ◌∷◌, ◌++◌, map, length, ap, ◌∙◌, None, append_assoc}
use Rattle.language.specs.Core.{Call, Part, Action, calls, call_alone, stmt}
use Rattle.task_code.specs.Code.{Body, Entry}
use Rattle.task_code.specs.View.{entry_view, variable_view}
use Rattle.task_code.specs.declared.entry.Entry.{Entry as Made}
use Rattle.language_laws.specs.TypedValues.{own_parts}
use Rattle.code_rules.specs.IsCodeOf.{IsSimple, own_priority}
use Rattle.code_rules.specs.Laying.{Kinds, LaysParts, counted, data_in, data_of, calls_alone, simple}
use Rattle.emit_cells.specs.Chunk.{Added, Chunk}
use Rattle.emit_statements.specs.Into.{LaysInto, OwnAdded, laying}
use Rattle.emit_statements.specs.declared.block_builder.BlockBuilder.{BlockBuilder}
use Rattle.emit_statements.proofs.Numbers.{added_numbers, last_number}

pub call_laid : (fs : List Kinds) (roots node k at : ℕ) (p : ℤ) (ps : List Part) (c : Call) (bodies : List Body) (old new : List Made) (before after : BlockBuilder) (from to : ℕ) → length new ≤ 2 ^ 32
    → (added : Added fs k (ps ++ calls c ∷ []) at p (ps ++ calls c ∷ []) old new)
    → LaysParts fs k (ps ++ calls c ∷ []) at p (laying old bodies) (laying new bodies) (counted (length (map entry_view old)) (length added.more))
    → map variable_view after.makes.items ≡ map variable_view before.makes.items ++ data_in None ps
    → from ≡ length old → to ≡ length new → (from ≤ to → to ≤ 2 ^ 32 → after.entries.items ≡ before.entries.items ++ counted from (to - from))
    → LaysInto fs roots k (stmt at node (call_alone p ps c)) [] (laying old bodies) (laying new bodies) before after
call_laid fs roots node k at p ps c bodies old new before after from to few added parts makes a b numbers = record {
  numbers = counted (length (map entry_view old)) (length added.more);
  data_are = data_in None ps;
  laid = calls_alone parts;
  entries = added_numbers old new added.more from to before.entries.items after.entries.items added.is a b few numbers;
  makes = makes;
}

-- a statement with an entry of its own behind those of its parts
pub own_laid : (fs : List Kinds) (roots node k at : ℕ) (a : Action) (bodies : List Body) (old mid new : List Made) (before after : BlockBuilder) (from to : ℕ) → IsSimple a → length new ≤ 2 ^ 32
    → (added : Added fs k (own_parts a) at (own_priority a) (own_parts a) old mid)
    → ((more : List Entry) → map entry_view mid ≡ map entry_view old ++ more → Chunk fs k (own_parts a) at (own_priority a) (own_parts a) more
    → LaysParts fs k (own_parts a) at (own_priority a) (laying old bodies) (laying mid bodies) (counted (length (map entry_view old)) (length more)))
    → OwnAdded k at node a mid new
    → map variable_view after.makes.items ≡ map variable_view before.makes.items ++ data_of a
    → from ≡ length old → to ≡ length new → (from ≤ to → to ≤ 2 ^ 32 → after.entries.items ≡ before.entries.items ++ counted from (to - from))
    → LaysInto fs roots k (stmt at node a) [] (laying old bodies) (laying new bodies) before after
own_laid fs roots node k at a bodies old mid new before after from to is_simple few added law own makes x y numbers =
    let is : map entry_view new ≡ map entry_view old ++ (added.more ++ own.entry ∷ []) = own.is ∙ ap (λ l. l ++ own.entry ∷ []) added.is ∙ append_assoc (map entry_view old) added.more (own.entry ∷ []) in
    record {
      numbers = counted (length (map entry_view old)) (length (added.more ++ own.entry ∷ []));
      data_are = data_of a;
      laid = simple own.entry is_simple (law added.more added.is added.chunk) own.own (own.node_is, own.offset_is) (ap (λ es. record { entries = es; bodies = bodies }) own.is) (last_number old mid added.more own.entry added.is);
      entries = added_numbers old new (added.more ++ own.entry ∷ []) from to before.entries.items after.entries.items is x y few numbers;
      makes = makes;
    }
