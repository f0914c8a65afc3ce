use Rattle.std.proofs.Common.{◌≡◌, drop}
use Rattle.values.specs.Keys.{key_seen}
use Rattle.meaning_facts.specs.Store.{is_written_in}
use Rattle.meaning_facts.proofs.writes.has_writer.Given as goal

abbrev pub invariant-loop-write : goal.invariant-loop-write
invariant-loop-write l = is_written_in l.writes (key_seen l.key) l.writer ≡ is_written_in (drop l.write-index l.writes) (key_seen l.key) l.writer
