-- The event of a noted call, by its number, the file it found, and its bytes.
use Rattle.std.specs.Prelude.{ℕ, ◌==◌, List, slice_index, Option, Some, None, if◌then◌else◌}
use Rattle.host.specs.declared.identity.Identity.{Identity}
use Rattle.host.specs.declared.host.Stream.TheVariants.{Out, Error}
use Rattle.host.specs.Events.{Event, Argument, Followed, LedTo, Named, Streamed, Opened, Known, Got, Unopened, Broken, Began, Emptied, Put, Renamed, Removed, Failed}

-- the second number is 1 if there is a file; then follow its device, its number, and 1 if it is a regular file
abbrev pub found_of : List ℕ → Option Identity
found_of numbers =
    if slice_index numbers 1 == 1
    then Some (record { device = slice_index numbers 2; number = slice_index numbers 3; regular = slice_index numbers 4 == 1 })
    else None

-- the file that is open for reading, if the machine could identify it
abbrev pub known_of : Option Identity → Event
known_of (Some file) = Known file
known_of None = Broken

-- the call of this number, with the file that it found and its bytes
abbrev pub event_at : ℕ → Option Identity → List ℕ → Event
event_at number found bytes =
    if number == 0 then Named bytes found
    else (if number == 1 then Streamed Out found
    else (if number == 2 then Streamed Error found
    else (if number == 3 then Opened bytes
    else (if number == 4 then known_of found
    else (if number == 5 then Got bytes
    else (if number == 6 then Unopened bytes
    else (if number == 7 then Broken
    else (if number == 8 then Began bytes
    else (if number == 9 then Emptied bytes
    else (if number == 10 then Put bytes
    else (if number == 11 then Removed bytes
    else (if number == 12 then Failed
    else (if number == 13 then Argument (Some bytes)
    else (if number == 14 then Argument None
    else (if number == 15 then Followed bytes
    else (if number == 16 then LedTo (Some bytes)
    else LedTo None))))))))))))))))

-- a call by its numbers, of which the first identifies the call
abbrev pub event_of : List ℕ → List ℕ → Event
event_of numbers bytes = event_at (slice_index numbers 0) (found_of numbers) bytes

-- the file of the first name was renamed to the second
abbrev pub two_names : List ℕ → List ℕ → Event
two_names before name = Renamed before name
