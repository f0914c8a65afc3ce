use Rattle.std.proofs.Common.{◌≡◌, ◌∙◌, ◌+◌, ap, arith, length, map, None}
use Rattle.std.specs.Prelude.{Option, is_some, if◌then◌else◌}
use Rattle.std.specs.Map.{lookup}
use Rattle.std.specs.Str.{bytes_eq}
use Rattle.values.specs.declared.key.Key.TheVariants.{Text}
use Rattle.values.specs.declared.value.Scalar.{Scalar}
use Rattle.data_store.specs.Arrays.{text_element}
use Rattle.data_store.proofs.Arranged.{arranged_more, kept_more, element_added}
use Rattle.data_store.proofs.Pairs.{found_as_text, longer_elements, texts_more}
use Rattle.data_store.proofs.text_elements.TextElements.insert.Goals as goal

pub invariant_of-self-2 : goal.invariant_of-self-2
invariant_of-self-2 c =
    let old = c.self.inside.by_text.entries in
    let new = c.insert.new.self.entries in
    let said = c.in_ok-insert.ensures in
    let a = rw (← c.self.view_is) at c.requires in
    let absent : lookup (bytes_eq c.args.text) old ≡ None = found_as_text c.args.text old ∙ a in
    let longer : length new ≡ length old + 1 = said.len ∙ ap (λ (o : Option Scalar). length old + (if is_some o then 0 else 1)) (said.old ∙ absent) in
    rw c.saturating_sub-self-inside.ensures (
      kept_more (Text c.args.text) c.args.value (map text_element old) (map text_element new) c.self.invariant.0 a
          (texts_more c.args.text c.args.value old new said.updates.0) (longer_elements text_element old new longer) said.spare,
      omega (arith, longer, c.if-not-has_place.ensures.more, c.len.ensures.len),
    )

pub returns-clause-ok : goal.returns-clause-ok
returns-clause-ok c =
    let old = c.self.inside.by_text.entries in
    let new = c.insert.new.self.entries in
    let e = arranged_more (Text c.args.text) c.args.value (map text_element old) (map text_element new) (texts_more c.args.text c.args.value old new c.in_ok-insert.ensures.updates.0) in
    rw (← c.self.view_is) (element_added (Text c.args.text) c.args.value _ _ _ _ e c.saturating_sub-self-inside.ensures)
