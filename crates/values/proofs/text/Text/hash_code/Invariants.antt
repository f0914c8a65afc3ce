use Rattle.std.proofs.Common.{◌≡◌, drop}
use Rattle.values.specs.Keys.{hashed, text_hash}
use Rattle.values.proofs.text.Text.hash_code.Given as goal

abbrev pub invariant-loop-byte : goal.invariant-loop-byte
invariant-loop-byte l = text_hash l.bytes ≡ hashed l.hash (drop l.byte-index l.bytes)
