-- The answers that are whole arrays.
use Rattle.std.proofs.Common.{◌≡◌, ◌∙◌, refl, sym, ap, ℕ, List, option_map, Option, Some, None}
use Rattle.std.specs.Prelude.{if◌then◌else◌}
use Rattle.data_store.specs.Data.{array_in}
use Rattle.data_store.specs.Stores.{Store, at, or_none}
use Rattle.data_store.specs.declared.datum.Content.{Content}
use Rattle.data_store.specs.declared.datum.Content.TheVariants.{OfArray, OfScalar}
use Rattle.data_store.specs.declared.datum.Datum.{Datum}
use Rattle.dataflow.specs.System as flow
use Rattle.board_history.specs.Fields.{slot_at}
use Rattle.task_code.specs.Compute.{pairs}
use Rattle.values.specs.declared.key.Key.{Key}
use Rattle.values.specs.declared.map.Element.{Element}
use Rattle.values.specs.declared.value.Scalar.{Scalar}
use Rattle.board_data.specs.Answered.{cell_answer}
use Rattle.board_data.specs.Data.{is_keyed, listed_at}
use Rattle.board_data.specs.View.{cell_view, cells_view}
use Rattle.board_data.proofs.Cells.{cell_there}

abbrev pub list_answer : Option (List Element) → flow.Answer Key Scalar
list_answer None = flow.Missing
list_answer (Some es) = flow.Content (pairs es)

abbrev list_of : Option Datum → Option (List Element)
list_of c = if is_keyed c then Some (array_in (or_none c).content).elements else None

seen : (c : Content) (r w : ℕ) → cell_answer (Some (cell_view (record { content = c; reads = r; writes = w }))) ≡ list_answer (list_of (Some (record { content = c; reads = r; writes = w })))
seen (OfScalar None) r w = refl
seen (OfScalar (Some v)) r w = refl
seen (OfArray a) r w = refl

by_cell : (c : Option Datum) → cell_answer (option_map cell_view c) ≡ list_answer (list_of c)
by_cell None = refl
by_cell (Some x) = seen x.content x.reads x.writes

pub whole : (s : Store) (d : ℕ) → cell_answer (slot_at (cells_view s.cells) d) ≡ list_answer (listed_at s d)
whole s d = ap cell_answer (cell_there s.cells d) ∙ by_cell (at s d)

pub listed_answer : (s : Store) (d : ℕ) (es : List Element) → Some es ≡ listed_at s d → flow.Content (pairs es) ≡ cell_answer (slot_at (cells_view s.cells) d)
listed_answer s d es e = ap list_answer e ∙ sym (whole s d)

pub unlisted_answer : (s : Store) (d : ℕ) → None ≡ listed_at s d → flow.Missing ≡ cell_answer (slot_at (cells_view s.cells) d)
unlisted_answer s d e = ap list_answer e ∙ sym (whole s d)
