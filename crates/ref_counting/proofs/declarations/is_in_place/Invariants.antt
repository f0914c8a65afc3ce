use Rattle.std.proofs.Common.{◌≡◌, take}
use Rattle.dataflow.specs.System.{In}
use Rattle.task_code.specs.Code.{InPlace}
use Rattle.ref_counting.specs.declared.openings.BodyOpening.{BodyOpening}
use Rattle.ref_counting.specs.Openings.{way_of}
use Rattle.ref_counting.proofs.declarations.is_in_place.Given as goal

abbrev pub invariant-loop-opening : goal.invariant-loop-opening
invariant-loop-opening l = (o : BodyOpening) → In o (take l.opening-index l.openings) → way_of o.way ≡ InPlace → ⊥
