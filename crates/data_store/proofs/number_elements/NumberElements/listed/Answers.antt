use Rattle.std.proofs.Common.{◌++◌, map}
use Rattle.data_store.specs.Arrays.{number_element}
use Rattle.data_store.proofs.Arranged.{rising_arranged}
use Rattle.data_store.proofs.number_elements.NumberElements.listed.Goals as goal

pub new-requires : goal.new-requires
new-requires c = rw c.in_ok-sorted.ensures (rising_arranged (map number_element (c.self.inside.slots ++ c.self.inside.by_key.entries)))
