use Rattle.std.proofs.Common.{◌≡◌, ℕ, ◌≤◌, length}
use Rattle.code_listing.specs.Labels.{name_in}
use Rattle.code_listing.proofs.source_map.add_name.Given as goal

abbrev pub invariant-loop-lacking : goal.invariant-loop-lacking
invariant-loop-lacking l = record {
  as_before : (n : ℕ) → name_in l.names.items n ≡ name_in l.fn.names.items n;
  filled : l._lacking ≤ length l.names.items;
}
