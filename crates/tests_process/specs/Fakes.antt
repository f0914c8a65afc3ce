-- What a machine in memory was asked and answered.
use Rattle.std.specs.Prelude.{List}
use Rattle.host.specs.Events.{Event}
use Rattle.tests_process.specs.declared.fake.FakeHost.{FakeHost}

abbrev pub events_of : FakeHost → List Event
events_of fake = fake.log.events
