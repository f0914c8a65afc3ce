use Rattle.std.proofs.Common.{◌∙◌, ap, w64, to_z, of_z, rules}
use Rattle.std.proofs.lemmas.Int.{to_z-of_z}
use Rattle.values.specs.Keys.{key_seen}
use Rattle.data_store.specs.Arrays.{table_of}
use Rattle.data_store.proofs.Parted.{number_got, text_got}
use Rattle.data_store.proofs.elements.Elements.get.Goals as goal

pub returns-in-Number : goal.returns-in-Number
returns-in-Number c =
    rw (← c.self.view_is) (c.under_number.ensures
    ∙ number_got (key_seen c.args.key) c.in-Number.n (to_z w64 (of_z w64 c.in-Number.n)) (table_of c.self.inside.numbers) (table_of c.self.inside.texts) (ap key_seen c.in-Number.is) (to_z-of_z w64 c.in-Number.n (search rules)) c.self.invariant.texts)

pub returns-in-Text : goal.returns-in-Text
returns-in-Text c =
    rw (← c.self.view_is) (c.under_text.ensures
    ∙ text_got (key_seen c.args.key) c.in-Text.text.now (table_of c.self.inside.numbers) (table_of c.self.inside.texts) (ap key_seen c.in-Text.is) c.self.invariant.numbers)
