use Rattle.std.proofs.Common.{◌∙◌, w64, to_z, of_z, rules, refl}
use Rattle.std.specs.Prelude.{ℤ}
use Rattle.std.proofs.lemmas.Int.{to_z-of_z}
use Rattle.std.proofs.lemmas.Result.{on_ok_weaker}
use Rattle.values.specs.declared.key.Key.TheVariants.{Number, Text}
use Rattle.data_store.specs.Arrays.{table_of, with_entry, AreParted, Table}
use Rattle.data_store.proofs.Parted.{either_way, kind_inserted, number_got, number_put, text_got, text_put}
use Rattle.data_store.proofs.elements.Elements.insert.Goals as goal

pub insert_number-requires : goal.insert_number-requires
insert_number-requires c =
    let k : ℤ = to_z w64 (of_z w64 c.in-Number.n) in
    let a = rw (← c.self.view_is) at c.requires in
    number_got c.args.key c.in-Number.n k (table_of c.self.inside.numbers) (table_of c.self.inside.texts) c.in-Number.is (to_z-of_z w64 c.in-Number.n (search rules)) c.self.invariant.texts ∙ a

pub insert_text-requires : goal.insert_text-requires
insert_text-requires c =
    let a = rw (← c.self.view_is) at c.requires in
    text_got c.args.key c.in-Text.text (table_of c.self.inside.numbers) (table_of c.self.inside.texts) c.in-Text.is c.self.invariant.numbers ∙ a

pub invariant_of-self : goal.invariant_of-self
invariant_of-self c =
    let k : ℤ = to_z w64 (of_z w64 c.in-Number.n) in
    let old = table_of c.self.inside.numbers in
    let texts = (table_of c.self.inside.texts).entries in
    either_way (λ (t : Table). AreParted t.entries texts) c.insert_number.result (table_of c.insert_number.new.numbers) (with_entry (Number k) c.args.value old) old c.insert_number.ensures.ok c.insert_number.ensures.err
    (record { numbers = kind_inserted _ (Number k) c.args.value old.entries refl c.self.invariant.numbers; texts = c.self.invariant.texts }) c.self.invariant

pub invariant_of-self-in-Text : goal.invariant_of-self-in-Text
invariant_of-self-in-Text c =
    let old = table_of c.self.inside.texts in
    let numbers = (table_of c.self.inside.numbers).entries in
    either_way (λ (t : Table). AreParted numbers t.entries) c.insert_text.result (table_of c.insert_text.new.texts) (with_entry (Text c.in-Text.text) c.args.value old) old c.insert_text.ensures.ok c.insert_text.ensures.err
    (record { numbers = c.self.invariant.numbers; texts = kind_inserted _ (Text c.in-Text.text) c.args.value old.entries refl c.self.invariant.texts }) c.self.invariant

pub returns-in-Number-clause-ok : goal.returns-in-Number-clause-ok
returns-in-Number-clause-ok c =
    let k : ℤ = to_z w64 (of_z w64 c.in-Number.n) in
    rw (← c.self.view_is) (on_ok_weaker c.insert_number.result
    (number_put c.args.key c.in-Number.n k c.args.value (table_of c.insert_number.new.numbers) (table_of c.self.inside.numbers) (table_of c.self.inside.texts) c.in-Number.is (to_z-of_z w64 c.in-Number.n (search rules)) c.self.invariant.texts)
    c.insert_number.ensures.ok)

pub returns-in-Text-clause-ok : goal.returns-in-Text-clause-ok
returns-in-Text-clause-ok c =
    rw (← c.self.view_is) (on_ok_weaker c.insert_text.result
    (text_put c.args.key c.in-Text.text c.args.value (table_of c.self.inside.numbers) (table_of c.insert_text.new.texts) (table_of c.self.inside.texts) c.in-Text.is c.self.invariant.numbers)
    c.insert_text.ensures.ok)
