-- The bytes that standard output received, and the number of its failed writes.
use Rattle.std.specs.Prelude.{ℕ, List}
use Rattle.host_system.specs.Streams as Streams
use Rattle.swt.specs.declared.system.output.Output.{Output}

abbrev pub taken_of : Output → List ℕ
taken_of output = Streams.taken_of output.stream

abbrev pub failures_of : Output → ℕ
failures_of output = Streams.failures_of output.stream
