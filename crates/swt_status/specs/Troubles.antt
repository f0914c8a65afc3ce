-- The status with which a failure ends a command.
use Rattle.swt_status.specs.declared.status.Status.{Status}
use Rattle.swt_status.specs.declared.status.Status.TheVariants as Ends
use Rattle.swt_status.specs.declared.failure.CommandFailure.{CommandFailure}
use Rattle.swt_status.specs.declared.failure.CommandFailure.TheVariants as Is

abbrev pub trouble_status : CommandFailure → Status
trouble_status Is.Unread = Ends.Failed
trouble_status (Is.Refused r) = Ends.Refused
trouble_status (Is.BadLine n) = Ends.Failed
trouble_status (Is.NotARun n) = Ends.Failed
trouble_status (Is.WrongEnd n) = Ends.Failed
trouble_status Is.BadCount = Ends.Usage
trouble_status Is.NoThread = Ends.Failed
trouble_status Is.Stranger = Ends.Failed
trouble_status Is.Memory = Ends.Memory
trouble_status Is.Unprinted = Ends.Failed
trouble_status Is.Untraced = Ends.Failed
