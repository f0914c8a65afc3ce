-- Contents of a standard stream: the bytes that it took, and the number of its failed writes.
use Rattle.std.specs.Prelude.{ℕ, List}
use Rattle.host.specs.Events.{given}
use Rattle.host_system.specs.declared.stream.Standard.{Standard}

abbrev pub taken_of : Standard → List ℕ
taken_of stream = given stream.log.events

abbrev pub failures_of : Standard → ℕ
failures_of stream = stream.failures
