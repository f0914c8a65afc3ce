use Rattle.std.proofs.Common.{rules, ◌≡◌, ◌∙◌, sym, ap, List, length, w64}
use Rattle.std.specs.Prelude.{ℤ}
use Rattle.std.specs.Map.{lookup}
use Rattle.std.specs.Ordering.{int_eq}
use Rattle.std.proofs.lemmas.Int.{to_z-of_z}
use Rattle.std.proofs.lemmas.List.{nil_from_length}
use Rattle.values.specs.declared.value.Scalar.{Scalar}
use Rattle.data_store.proofs.number_elements.in_table.Goals as goal

pub returns-then-is_empty : goal.returns-then-is_empty
returns-then-is_empty c =
    let none : length c.args.by_key.now.entries ≡ 0 = search rules in
    sym (ap (λ (es : List (ℤ × Scalar)). lookup (int_eq c.args.key) es) (nil_from_length c.args.by_key.now.entries none))

pub returns : goal.returns
returns c = c.get.ensures.value ∙ ap (λ (k : ℤ). lookup (int_eq k) c.args.by_key.now.entries) (to_z-of_z w64 c.args.key c.ranges.key)
