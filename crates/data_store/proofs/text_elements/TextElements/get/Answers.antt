use Rattle.std.proofs.Common.{◌∙◌}
use Rattle.data_store.proofs.Pairs.{found_as_text}
use Rattle.data_store.proofs.text_elements.TextElements.get.Goals as goal

pub returns : goal.returns
returns c = rw (← c.self.view_is) (c.get.ensures.value ∙ found_as_text c.args.text.now c.self.inside.by_text.entries)
