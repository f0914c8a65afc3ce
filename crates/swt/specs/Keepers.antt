-- The history of a host that keeps what it reads.
use Rattle.std.specs.Prelude.{List}
use Rattle.host.specs.Events.{Event}
use Rattle.host_system.specs.Systems as Systems
use Rattle.swt.specs.declared.system.caching_host.CachingHost.{CachingHost}

abbrev pub events_of : CachingHost → List Event
events_of caching_host = Systems.events_of caching_host.system
