use Rattle.std.proofs.Common.{rules, ◌≡◌, ◌++◌, sym, subst, w64, to_z, of_z, None}
use Rattle.std.specs.Prelude.{ℤ}
use Rattle.std.specs.Map.{lookup}
use Rattle.std.specs.Ordering.{int_eq}
use Rattle.std.proofs.lemmas.Int.{to_z-of_z}
use Rattle.data_store.specs.Filled.{IsPut}
use Rattle.data_store.proofs.Filled.{absent_first, put_first, put_in_table}
use Rattle.data_store.proofs.number_elements.put.Goals as goal

pub put-requires : goal.put-requires
put-requires c =
    subst (λ k. lookup (int_eq k) c.args.slots.now ≡ None) (sym (to_z-of_z w64 c.args.key (search rules)))
    (absent_first (int_eq c.args.key) c.args.slots.now c.args.by_key.now.entries c.requires)

pub returns-in-None-clause-ok : goal.returns-in-None-clause-ok
returns-in-None-clause-ok c =
    put_first c.args.key c.args.value c.args.slots.now c.put.new.self c.args.by_key.now.entries
    (subst (λ k. IsPut k c.args.value c.args.slots.now c.put.new.self) (to_z-of_z w64 c.args.key (search rules)) c.in-None.ensures.added)

pub returns-in_ok-insert-in-Some-clause-ok : goal.returns-in_ok-insert-in-Some-clause-ok
returns-in_ok-insert-in-Some-clause-ok c =
    let key : ℤ = to_z w64 (of_z w64 c.args.key) in
    let same : key ≡ c.args.key = to_z-of_z w64 c.args.key (search rules) in
    let slots = c.args.slots.now in
    let old = c.args.by_key.now.entries in
    let new = c.insert.new.self.entries in
    let said = c.in_ok-insert-in-Some.ensures in
    let put : IsPut key c.in-Some.value (slots ++ old) (slots ++ new) =
    put_in_table key c.in-Some.value slots old new c.in_ok-insert-in-Some.field-0 (subst (λ k. lookup (int_eq k) (slots ++ old) ≡ None) (sym same) c.requires) said.old said.updates.0 said.len in
    subst (λ es. IsPut c.args.key c.args.value (slots ++ old) (es ++ new)) (sym c.in-Some.ensures.left.1)
    (subst (λ k. IsPut k c.args.value (slots ++ old) (slots ++ new)) same (subst (λ v. IsPut key v (slots ++ old) (slots ++ new)) c.in-Some.ensures.left.0 put))
