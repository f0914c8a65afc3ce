-- Limits of the language and of a run (docs/LANGUAGE.md, Limits). `constants_are_the_limits` says that the constants of
-- the program are these numbers.
use Rattle.std.specs.Prelude.{ℕ}

-- maximum number of bytes of a script: 1 MiB
abbrev pub max_source : ℕ
max_source = 1048576

-- maximum depth to which expressions and statements of a script are nested
abbrev pub max_nesting : ℕ
max_nesting = 64

-- maximum priority of a call; the minimum is its negative
abbrev pub max_priority : ℕ
max_priority = 1000000

-- maximum number of values of a range: 2^32
abbrev pub max_range : ℕ
max_range = 4294967296

-- maximum number of steps of a path
abbrev pub max_path_steps : ℕ
max_path_steps = 2048

-- maximum number of turns of a loop that are opened at once (docs/MACHINE.md)
abbrev pub chunk_size : ℕ
chunk_size = 64

-- maximum number of entries of a script's code: 2^22
abbrev pub max_entries : ℕ
max_entries = 4194304

-- maximum number of threads of a run, engines and workers together
abbrev pub max_threads : ℕ
max_threads = 64

-- maximum number of events of a run: 2^32 - 1
abbrev pub max_events : ℕ
max_events = 4294967295
