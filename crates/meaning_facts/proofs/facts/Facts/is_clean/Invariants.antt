use Rattle.std.proofs.Common.{◌≡◌}
use Rattle.std.specs.List.{list_all}
use Rattle.std.specs.HashMap.{values}
use Rattle.meaning_facts.specs.Indexed.{one_writer_in}
use Rattle.meaning_facts.proofs.facts.Facts.is_clean.Given as goal

abbrev pub invariant-loop-writes : goal.invariant-loop-writes
invariant-loop-writes l = list_all one_writer_in (values l.self.writes) ≡ list_all one_writer_in l.writes-iterator
