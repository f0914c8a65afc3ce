-- The calls of a program on its machine, with their results, the newest first.
use Rattle.std.specs.Prelude.{◌≡◌, ℕ, Bool, true, false, ◌&&◌, List, [], ◌∷◌, ◌++◌, Option, Some, None, option_to_list, option_map, is_some, bytes_eq, not, if◌then◌else◌}
use Rattle.host.specs.declared.identity.Identity.{Identity}
use Rattle.host.specs.declared.host.Stream.{Stream}
use Rattle.host.specs.declared.host.Stream.TheVariants.{Out, Error}
use Rattle.host.specs.Identities.{is_foreign}

pub data Event : Type 0 where
  -- the next word of the command line, or none after the last
  Argument : (word : Option (List ℕ)) → Event
  -- the links of a name were resolved to this name, or none if there is no such file
  Followed : (name : List ℕ) → Event
  LedTo : (found : Option (List ℕ)) → Event
  -- the identity of the file of a name or of a stream, or none if there is no such file
  Named : (name : List ℕ) (found : Option Identity) → Event
  Streamed : (stream : Stream) (found : Option Identity) → Event
  -- a file was opened for reading; its identity; some of its bytes, or none at its end
  Opened : (name : List ℕ) → Event
  Known : (file : Identity) → Event
  Got : (bytes : List ℕ) → Event
  -- a file could not be opened; it could not be read further
  Unopened : (name : List ℕ) → Event
  Broken : Event
  -- a new file was created, or an existing one truncated; bytes were written to it; it was renamed; a name was removed
  Began : (name : List ℕ) → Event
  Emptied : (name : List ℕ) → Event
  Put : (bytes : List ℕ) → Event
  Renamed : (before name : List ℕ) → Event
  Removed : (name : List ℕ) → Event
  -- a call failed
  Failed : Event

abbrev is_nil : List ℕ → Bool
is_nil [] = true
is_nil (b ∷ bs) = false

-- a name that was opened, its bytes, or none if it could not be read, and whether its end was reached
pub record Read : Type 0 where
  pub name : List ℕ
  pub bytes : Option (List ℕ)
  pub ended : Bool

-- more bytes of the last opened file were read, none at its end
abbrev pub grown : List ℕ → List Read → List Read
grown bytes [] = []
grown bytes (r ∷ rs) = record { name = r.name; bytes = option_map (λ before. before ++ bytes) r.bytes; ended = is_nil bytes } ∷ rs

-- the last opened file cannot be read further
abbrev pub broken : List Read → List Read
broken [] = []
broken (r ∷ rs) = record { name = r.name; bytes = None; ended = false } ∷ rs

-- the files that were read, the last first
abbrev pub reads : List Event → List Read
reads [] = []
reads (Opened name ∷ h) = record { name = name; bytes = Some []; ended = false } ∷ reads h
reads (Got bytes ∷ h) = grown bytes (reads h)
reads (Unopened name ∷ h) = record { name = name; bytes = None; ended = false } ∷ reads h
reads (Broken ∷ h) = broken (reads h)
reads (e ∷ h) = reads h

-- the last file read has this name and could be read so far; the earlier ones are unchanged
abbrev pub IsReading : List ℕ → (before now : List Read) → Type 0
IsReading name before [] = ⊥
IsReading name before (r ∷ rs) = (r.name ≡ name) × (is_some r.bytes ≡ true) × (rs ≡ before)

-- the identities of the files opened for reading, in order
abbrev pub inputs : List Event → List Identity
inputs [] = []
inputs (Known file ∷ h) = inputs h ++ (file ∷ [])
inputs (e ∷ h) = inputs h

-- the words of the command line, in order
abbrev pub words : List Event → List (List ℕ)
words [] = []
words (Argument (Some word) ∷ h) = words h ++ (word ∷ [])
words (e ∷ h) = words h

-- the words of the command line, once all have been read
abbrev pub asked : List Event → Option (List (List ℕ))
asked [] = None
asked (Argument None ∷ h) = Some (words h)
asked (e ∷ h) = asked h

-- a name whose links were resolved, and the result
abbrev pub Link : Type 0
Link = List ℕ × Option (List ℕ)

-- all resolved names, the last first
abbrev pub links : List Event → List Link
links [] = []
links (LedTo found ∷ Followed name ∷ h) = (name, found) ∷ links h
links (e ∷ h) = links h

-- the information received from the machine: all words, resolved names and files
pub record Learnt : Type 0 where
  pub asked : Option (List (List ℕ))
  pub links : List Link
  pub reads : List Read

abbrev pub learnt : List Event → Learnt
learnt h = record { asked = asked h; links = links h; reads = reads h }

-- the last piece that was read is the end of its file
abbrev pub ends : List Event → Bool
ends (Got bytes ∷ h) = is_nil bytes
ends _ = false

-- the bytes written to files
abbrev pub given : List Event → List ℕ
given [] = []
given (Put bytes ∷ h) = given h ++ bytes
given (e ∷ h) = given h

-- the names that files received by renaming
abbrev pub replaced : List Event → List (List ℕ)
replaced [] = []
replaced (Renamed before name ∷ h) = name ∷ replaced h
replaced (e ∷ h) = replaced h

-- the events that create, truncate, write, rename or remove a file
abbrev pub changes : List Event → List Event
changes [] = []
changes (Began name ∷ h) = Began name ∷ changes h
changes (Emptied name ∷ h) = Emptied name ∷ changes h
changes (Put bytes ∷ h) = Put bytes ∷ changes h
changes (Renamed before name ∷ h) = Renamed before name ∷ changes h
changes (Removed name ∷ h) = Removed name ∷ changes h
changes (e ∷ h) = changes h

-- SAFETY OF WRITES

-- the last event is the identity of the name, preceded by those of both streams; it is none of these and none of a file
-- that was read
abbrev pub is_clear : List ℕ → List Event → Bool
is_clear name (Named asked found ∷ Streamed Error error ∷ Streamed Out out ∷ h) =
    bytes_eq asked name && is_foreign found (option_to_list out ++ (option_to_list error ++ inputs h))
is_clear name _ = false

-- the last event is the identity of the file of the name, which exists and is not regular
abbrev pub is_special : List ℕ → List Event → Bool
is_special name (Named asked (Some file) ∷ h) = bytes_eq asked name && not file.regular
is_special name _ = false

-- the new file that was created when the name was clear, and that all later bytes were written to
abbrev pub begun : List ℕ → List Event → Option (List ℕ)
begun name (Began beside ∷ h) = if is_clear name h then Some beside else None
begun name (Put bytes ∷ h) = begun name h
begun name (Failed ∷ h) = begun name h
begun name _ = None

abbrev is_named : List ℕ → Option (List ℕ) → Bool
is_named name None = false
is_named name (Some found) = bytes_eq name found

-- the new file has this name
abbrev pub has_begun : List ℕ → (beside : List ℕ) → List Event → Bool
has_begun name beside h = is_named beside (begun name h)

-- no file is changed except one of this name, and the new file that is renamed to it or removed. An existing file is
-- replaced only if it was neither a file that was read nor that of standard output or standard error; it is truncated
-- only if it is not regular besides
abbrev pub is_safe : List ℕ → List Event → Bool
is_safe name [] = true
is_safe name (Began beside ∷ h) = is_clear name h && is_safe name h
is_safe name (Emptied emptied ∷ h) = ((bytes_eq emptied name && is_clear name h) && is_special name h) && is_safe name h
is_safe name (Renamed before replaced ∷ h) = (bytes_eq replaced name && has_begun name before h) && is_safe name h
is_safe name (Removed gone ∷ h) = has_begun name gone h && is_safe name h
is_safe name (e ∷ h) = is_safe name h

-- the file of this name has the written bytes: a new file was renamed to the name, or the file was truncated and then
-- written
abbrev pub is_kept : List ℕ → List Event → Bool
is_kept name (Renamed before n ∷ h) = bytes_eq n name
is_kept name (Emptied n ∷ h) = bytes_eq n name
is_kept name (Put bytes ∷ h) = is_kept name h
is_kept name (Failed ∷ h) = is_kept name h
is_kept name _ = false

-- the machine refused to rename the new file, which was then removed, or could not be
abbrev pub is_unplaced : List ℕ → List Event → Bool
is_unplaced name (Removed gone ∷ (Failed ∷ h)) = has_begun name gone h
is_unplaced name (Failed ∷ (Failed ∷ h)) = is_some (begun name h)
is_unplaced name _ = false

-- nothing was received, written or made unsafe between the histories
pub record Keeps (name : List ℕ) (old new : List Event) : Type 0 where
  pub learnt_same : learnt new ≡ learnt old
  pub inputs_same : inputs new ≡ inputs old
  pub given_same : given new ≡ given old
  pub replaced_same : replaced new ≡ replaced old
  pub safe_same : is_safe name old ≡ true → is_safe name new ≡ true
