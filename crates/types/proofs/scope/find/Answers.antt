use Rattle.std.proofs.Common.{ap, sym, ◌∙◌, option_map}
use Rattle.types.specs.Known.{seen_at}
use Rattle.types.proofs.lists.ByText.{seen_lookup}
use Rattle.types.proofs.scope.find.Goals as goal

pub returns : goal.returns
returns c =
    seen_lookup (λ k. k.items) c.args.scope.now.names.entries c.args.text.now
    ∙ ap (option_map (seen_at c.args.text.now)) (sym c.get.ensures.value ∙ sym c.copied.ensures)
