use Rattle.std.proofs.Common.{◌≡◌, rules}
use Rattle.std.specs.Prelude.{IsPermutation}
use Rattle.std.specs.Cmp.Lexicographic.{slice_cmp}
use Rattle.std.specs.Ordering.{is_lt, nat_cmp}
use Rattle.std.proofs.lemmas.Cmp.{nat_list_cmp_total}
use Rattle.std.proofs.lemmas.Fn.{always_returns_same}
use Rattle.std.proofs.lemmas.List.MinMax.{ranks_by}
use Rattle.language.specs.Meaning.{Known}
use Rattle.meaning_facts.specs.Store.{all_lines}
use Rattle.meaning_outcomes.proofs.Printed.{lines_read}
use Rattle.meaning_outcomes.proofs.knowledge.Knowledge.lines_sorted.Goals as goal

pub returns-clause-sorted : goal.returns-clause-sorted
returns-clause-sorted c =
    c.in_ok-sort_by.ensures.sorted (λ x y. is_lt (slice_cmp nat_cmp x y)) (ranks_by nat_list_cmp_total (λ x. x))
    (always_returns_same _ (λ a r. is_lt r ≡ is_lt (slice_cmp nat_cmp a.0.now a.1.0.now)) _ (λ a r q k. search rules))

pub returns-clause-lines : goal.returns-clause-lines
returns-clause-lines c = λ s h.
    let moved : IsPermutation (all_lines c.args.self.now.fact_base.facts) c.sort_by.new.self.items = search rules in
    lines_read (Known s c.args.self.now.rounds) c.args.self.now.fact_base h.placed.tree h.holds c.all_lines.ensures.once c.sort_by.new.self.items moved
