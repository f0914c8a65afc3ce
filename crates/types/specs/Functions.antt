-- The signatures of a script, as a list.
use Rattle.std.specs.Prelude.{List, map}
use Rattle.types.specs.declared.signatures.Functions.{Functions}
use Rattle.language.specs.Scopes.{Signature}
use Rattle.types.specs.Known.{signature_of}

abbrev pub signatures_of : Functions → List Signature
signatures_of f = map signature_of f.list.items
