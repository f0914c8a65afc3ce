use Rattle.std.proofs.Common.{map}
use Rattle.data_store.specs.Arrays.{text_element}
use Rattle.data_store.proofs.Arranged.{rising_arranged}
use Rattle.data_store.proofs.text_elements.TextElements.listed.Goals as goal

pub new-requires : goal.new-requires
new-requires c = rw c.in_ok-sorted.ensures (rising_arranged (map text_element c.self.inside.by_text.entries))
