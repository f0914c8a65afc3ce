-- The entry of an offset after one more statement is added to the table.
use Rattle.std.specs.Prelude.{ℕ, Bool, true, false, Option, Some, None}
use Rattle.flow_index.specs.declared.statement_index.SiteEntry.{SiteEntry}
use Rattle.flow_index.specs.declared.statement_index.SiteEntry.TheVariants as Is

abbrev pub noted_if : Bool → ℕ → Option SiteEntry → Option SiteEntry
noted_if true i None = Some (Is.Once i)
noted_if true i (Some f) = Some Is.Often
noted_if false i o = o
