-- Codes and names of the kinds of warnings.
use Rattle.std.specs.Prelude.{ℕ, List, codes}
use Rattle.explain_warnings.specs.declared.warning.WarningKind.{WarningKind}
use Rattle.explain_warnings.specs.declared.warning.WarningKind.TheVariants as Kind

abbrev pub warning_code : WarningKind → List ℕ
warning_code Kind.NeverUsed = codes "V1"
warning_code Kind.NeverRead = codes "V2"
warning_code Kind.IdleInput = codes "V3"
warning_code Kind.EmptyRange = codes "V4"
warning_code Kind.ExtraLine = codes "V5"
warning_code Kind.NeverWritten = codes "V6"
warning_code Kind.NeverCalled = codes "V7"
warning_code Kind.EmptyBlock = codes "V8"
warning_code Kind.StepBelowOne = codes "V9"
warning_code Kind.AlwaysHolds = codes "V10"
warning_code Kind.WaitsForItself = codes "V11"
warning_code Kind.KeyTwice = codes "V12"
warning_code Kind.IdleGuard = codes "V13"
warning_code Kind.AlwaysFails = codes "V14"
warning_code Kind.EndlessCall = codes "V15"
warning_code Kind.CircularWait = codes "V16"

abbrev pub warning_name : WarningKind → List ℕ
warning_name Kind.NeverUsed = codes "NeverUsed"
warning_name Kind.NeverRead = codes "NeverRead"
warning_name Kind.IdleInput = codes "IdleInput"
warning_name Kind.EmptyRange = codes "EmptyRange"
warning_name Kind.ExtraLine = codes "ExtraLine"
warning_name Kind.NeverWritten = codes "NeverWritten"
warning_name Kind.NeverCalled = codes "NeverCalled"
warning_name Kind.EmptyBlock = codes "EmptyBlock"
warning_name Kind.StepBelowOne = codes "StepBelowOne"
warning_name Kind.AlwaysHolds = codes "AlwaysHolds"
warning_name Kind.WaitsForItself = codes "WaitsForItself"
warning_name Kind.KeyTwice = codes "KeyTwice"
warning_name Kind.IdleGuard = codes "IdleGuard"
warning_name Kind.AlwaysFails = codes "AlwaysFails"
warning_name Kind.EndlessCall = codes "EndlessCall"
warning_name Kind.CircularWait = codes "CircularWait"
