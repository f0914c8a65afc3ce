use Rattle.std.proofs.Common.{◌≡◌, ◌∙◌, ◌++◌, ap, sym, subst, List, length, map}
use Rattle.values.specs.declared.map.Element.{Element}
use Rattle.data_store.specs.Arrays.{arranged, text_element}
use Rattle.data_store.proofs.text_elements.sorted.Goals as goal

pub arrange-requires : goal.arrange-requires
arrange-requires c =
    let all = c.in_ok-append_to.ensures ∙ ap (λ (xs : List Element). xs ++ map text_element c.args.by_text.now.entries) c.in_ok-list.ensures.items in
    subst (λ (xs : List Element). length (arranged xs) ≡ length xs) (sym all) c.requires

pub returns : goal.returns
returns c =
    let all = c.in_ok-append_to.ensures ∙ ap (λ (xs : List Element). xs ++ map text_element c.args.by_text.now.entries) c.in_ok-list.ensures.items in
    c.arrange.ensures ∙ ap arranged all
