-- What every run of some code owes to a core, it owes to one that is the same but for expressions of literals.
use Rattle.std.specs.Prelude.{Bool, true, false}
use Rattle.dataflow.specs.Machine.{Fault as MachineFault}
use Rattle.values.specs.declared.key.Key.{Key}
use Rattle.values.specs.declared.value.Scalar.{Scalar}
use Rattle.language.specs.Core.{Core}
use Rattle.language.specs.Meaning.{Meaning}
use Rattle.language.specs.Places.{Place}
use Rattle.task_code.specs.Code.{Code}
use Rattle.task_code.specs.Compute.{EntryFault}
use Rattle.task_code.specs.Effects.{Task, Main, Item}
use Rattle.task_code.specs.Machine.{CodeState}
use Rattle.task_code.specs.Places as CodePlaces
use Rattle.task_code.specs.Places.{Datum, Constant, Nowhere}
use Rattle.headline.specs.Headline.{IsMeantIn, IsMeant, IsMeantFault, Agrees, IsAll, Headline}
use Rattle.fold_laws.specs.Same.{SameCore}
use Rattle.fold_laws.proofs.Turned.{turned_core}
use Rattle.fold_laws.proofs.Views.{closed_too, lines_too, meant, meant_back, same_blocked, same_clean, value_too}

module _ (c d : Core) (same : SameCore c d) where
  meant_in : (b : Bool) (at : Place) (k : Key) (v : Scalar) → IsMeantIn c b at k v → IsMeantIn d b at k v
  meant_in false at k v h = value_too c d same h
  meant_in true at k v h = (h.0, meant c d same _ h.1)

  is_meant : (a : CodePlaces.Place) (k : Key) (x : Scalar) → IsMeant c a k x → IsMeant d a k x
  is_meant (Datum path v) k x h = meant_in v.array _ k x h
  is_meant (Constant v) k x h = h
  is_meant Nowhere k x h = h

  fault_meant : (C : Code) (t : Task) (f : MachineFault EntryFault) → IsMeantFault c C t f → IsMeantFault d C t f
  fault_meant C Main f h = h
  fault_meant C (Item e path n) f h = (h.0, meant c d same _ h.1)

  agrees_too : (C : Code) (st : CodeState) → Agrees c C st → Agrees d C st
  agrees_too C st a =
      record {
        stored = λ w i. is_meant w.place w.key w.value (a.stored w i);
        closed = λ path v is h. closed_too c d same (a.closed path v is h);
        printed = a.printed;
        printed_is = a.printed_is;
        lines = record { listing = a.lines.listing; once = a.lines.once; known = λ w bytes i. meant c d same _ (a.lines.known w bytes i); is = a.lines.is };
        fault = λ t f is. fault_meant C t f (a.fault t f is);
      }

  all_too : (C : Code) (st : CodeState) → IsAll c C st → IsAll d C st
  all_too C st a =
      record {
        no_fault = λ f at path h. a.no_fault f at path (h.0, meant_back c d same _ h.1);
        printed = a.printed;
        printed_is = a.printed_is;
        lines = lines_too c d same a.lines;
        blocked = λ at path b. same_blocked c d same (Meaning c) (Meaning d) (meant c d same) (meant_back c d same) (a.blocked at path b);
        blocked_all = λ at path b. a.blocked_all at path (same_blocked d c (turned_core same) (Meaning d) (Meaning c) (meant_back c d same) (meant c d same) b);
      }

  pub headline_too : (C : Code) → Headline c C → Headline d C
  headline_too C h =
      record {
        agrees = λ clean events st run. agrees_too C st (h.agrees (same_clean d c (turned_core same) clean) events st run);
        all = λ events st run quiet. all_too C st (h.all events st run quiet);
      }
