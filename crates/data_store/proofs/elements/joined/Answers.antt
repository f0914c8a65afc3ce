use Rattle.std.proofs.Common.{◌≡◌, ◌∙◌, ◌++◌, sym, subst, List}
use Rattle.std.specs.Prelude.{IsTrue}
use Rattle.values.specs.declared.map.Element.{Element}
use Rattle.values.specs.Maps.{rising}
use Rattle.data_store.proofs.Parted.{rising_both}
use Rattle.data_store.proofs.elements.joined.Goals as goal

pub new-requires : goal.new-requires
new-requires c =
    let first : c.append.new.list.items ≡ c.args.numbers = c.in_ok-append.ensures ∙ (λ i. c.new-list.ensures.items i ++ c.elements.ensures.elements i) in
    let all : c.append-2.new.list.items ≡ c.args.numbers ++ c.args.texts = c.in_ok-append-2.ensures ∙ (λ i. first i ++ c.elements-2.ensures.elements i) in
    subst (λ (es : List Element). IsTrue (rising es)) (sym all) (rising_both c.args.numbers c.args.texts c.requires c.elements.ensures.rising c.elements-2.ensures.rising)
