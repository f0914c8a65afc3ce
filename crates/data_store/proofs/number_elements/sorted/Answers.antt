use Rattle.std.proofs.Common.{◌≡◌, ◌∙◌, ap, sym, subst, List, length}
use Rattle.values.specs.declared.map.Element.{Element}
use Rattle.data_store.specs.Arrays.{arranged, number_element}
use Rattle.data_store.proofs.Pairs.{listed_both}
use Rattle.data_store.proofs.number_elements.sorted.Goals as goal

pub arrange-requires : goal.arrange-requires
arrange-requires c =
    let all = listed_both number_element c.args.slots.now c.args.by_key.now.entries c.in_ok-list.list.items c.append_to.new.list.items c.append_to-2.new.list.items c.in_ok-list.ensures.items c.in_ok-append_to.ensures c.in_ok-append_to-2.ensures in
    subst (λ (xs : List Element). length (arranged xs) ≡ length xs) (sym all) c.requires

pub returns : goal.returns
returns c =
    let all = listed_both number_element c.args.slots.now c.args.by_key.now.entries c.in_ok-list.list.items c.append_to.new.list.items c.append_to-2.new.list.items c.in_ok-list.ensures.items c.in_ok-append_to.ensures c.in_ok-append_to-2.ensures in
    c.arrange.ensures ∙ ap arranged all
