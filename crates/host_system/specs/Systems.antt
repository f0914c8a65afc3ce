-- The history of the system, which is that of its record.
use Rattle.std.specs.Prelude.{List}
use Rattle.host.specs.Events.{Event}
use Rattle.host_system.specs.declared.system.System.{System}

abbrev pub events_of : System → List Event
events_of system = system.log.events
