-- What is added to a text under construction.
use Rattle.std.specs.Prelude.{◌≡◌, ℕ, false, List, ◌++◌}
use Rattle.code_listing.specs.declared.text_buffer.TextBuffer.{TextBuffer}

-- these bytes were appended, if no part of the text is missing; nothing is said of a text that lacks one
abbrev pub Adds : TextBuffer → TextBuffer → List ℕ → Type 0
Adds old new bytes = new.lacks ≡ false → (old.lacks ≡ false) × (new.bytes.items ≡ old.bytes.items ++ bytes)

-- the same for the part of some bytes that stands before a rest
abbrev pub Leaves : TextBuffer → TextBuffer → List ℕ → List ℕ → Type 0
Leaves old new whole rest = new.lacks ≡ false → (old.lacks ≡ false) × (new.bytes.items ++ rest ≡ old.bytes.items ++ whole)
