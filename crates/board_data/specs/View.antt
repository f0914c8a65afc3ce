-- The views of data and of missing inputs.
use Rattle.std.specs.Prelude.{ℕ, List, [], ◌∷◌, Option, Some, None, option_map, map}
use Rattle.data_store.specs.declared.datum.Content.{Content}
use Rattle.data_store.specs.declared.datum.Content.TheVariants as Holds
use Rattle.data_store.specs.declared.datum.Datum.{Datum}
use Rattle.rules.specs.declared.input.Input.{Input}
use Rattle.rules.specs.declared.input.Input.TheVariants as Inputs
use Rattle.task_code.specs.Compute.{pairs}
use Rattle.board_history.specs.Fields as Pure

-- data
abbrev pub content_view : Content → Pure.Content
content_view (Holds.OfScalar None) = Pure.Unset
content_view (Holds.OfScalar (Some v)) = Pure.Holding v
content_view (Holds.OfArray a) = Pure.Mapping (pairs a.elements)

abbrev pub cell_view : Datum → Pure.Counted
cell_view x = record { reads = x.reads; writes = x.writes; content = content_view x.content }

abbrev pub cells_view : List (Option Datum) → List (Option Pure.Counted)
cells_view cs = map (λ c. option_map cell_view c) cs

-- missing inputs
abbrev pub want_view : Input → Pure.Want ℕ
want_view (Inputs.Whole d) = Pure.Whole d
want_view (Inputs.Element d k) = Pure.AnElement d k

abbrev pub wants_in : Option Input → List (Pure.Want ℕ)
wants_in None = []
wants_in (Some i) = want_view i ∷ []
