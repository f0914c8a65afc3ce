-- Where a script is refused.
use Rattle.std.proofs.Common.{◌≡◌, refl, sym, subst, ℕ, List, Option, Some, None}
use Rattle.compile.specs.declared.fault.CompileFault.{CompileFault}
use Rattle.compile.specs.Accepted.{IsUnfit}
use Rattle.swt_status.specs.declared.refusal.Refusal.{Refusal}
use Rattle.swt_status.specs.Names.{refusal_of}
use Rattle.swt_status.proofs.Refused.{is_unfit}
use Rattle.swt_status.specs.declared.failure.CommandFailure.{CommandFailure}
use Rattle.swt_command.specs.Files.{Files, StopsAt, source_of}
use Rattle.swt_command.specs.Troubles.{trouble_of}

-- a command stops at a text that is no script
pub unfit_stops : (files : Files) (src : List ℕ) (fault : CompileFault) (t : CommandFailure) → source_of files 0 ≡ Some src → t ≡ trouble_of (refusal_of fault) → IsUnfit src fault → StopsAt files 0 t
unfit_stops files src fault t read e h = subst (λ (x : CommandFailure). StopsAt files 0 x) (sym e) (by (refusal_of fault) refl)
  where
    by : (o : Option Refusal) → o ≡ refusal_of fault → StopsAt files 0 (trouble_of o)
    by None is = (src, read, tt)
    by (Some r) is = (src, read, is_unfit src fault r is h)
