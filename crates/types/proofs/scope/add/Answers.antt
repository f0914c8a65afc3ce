use Rattle.std.proofs.Common.{◌≡◌, map, ap, ◌∙◌}
use Rattle.std.specs.Prelude.{None, vec_len}
use Rattle.std.specs.Map.{lookup}
use Rattle.std.specs.Str.{bytes_eq}
use Rattle.indexmap.proofs.CallerLemmas.{insert_entry-new}
use Rattle.syntax_trees.specs.View.{word_of}
use Rattle.types.specs.Known.{seen_at}
use Rattle.types.proofs.lists.ByText.{unseen_lookup, added_last}
use Rattle.types.proofs.visible.Growth.{made}
use Rattle.types.proofs.scope.add.Goals as goal

pub returns : goal.returns
returns g c =
    let letters : c.in_ok-text.text.items ≡ c.args.name.now.text.items = c.in_ok-text.ensures.items ∙ c.as_slice.ensures.value in
    let none : lookup (λ k. bytes_eq c.in_ok-text.text.items k.items) c.args.scope.now.names.entries ≡ None =
    ap (λ t. lookup (λ k. bytes_eq t k.items) c.args.scope.now.names.entries) letters ∙ unseen_lookup (λ k. k.items) c.args.scope.now.names.entries c.args.name.now.text.items c.requires in
    ap (λ es. made (vec_len c.args.scope.now.blocks) (map (λ e. seen_at e.0.items e.1) es)) (c.in_ok-insert.ensures.entries ∙ insert_entry-new (λ x y. bytes_eq x.items y.items) c.args.scope.now.names c.in_ok-text.text _ none)
    ∙ added_last (λ k. k.items) c.args.scope.now.names.entries c.in_ok-text.text _ (word_of c.args.name.now) (vec_len c.args.scope.now.blocks) letters c.len.ensures
