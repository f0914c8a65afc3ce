use Rattle.std.proofs.Common.{rules, ◌≡◌, ◌∷◌, ◌∙◌, ◌&&◌, Bool, false, [], ap}
use Rattle.std.specs.List.{list_all, IsDistinct}
use Rattle.std.specs.Map.{keys_of}
use Rattle.meaning_facts.specs.Indexed.{one_writer_in}
use Rattle.meaning_facts.specs.Store.{same_pair}
use Rattle.meaning_facts.proofs.Clean.{clean_all, not_clean}
use Rattle.meaning_facts.proofs.facts.Facts.is_clean.Goals as goal

pub returns-then-not-has_one_writer : goal.returns-then-not-has_one_writer
returns-then-not-has_one_writer c =
    let k = c.args.self.now in
    let unique : IsDistinct same_pair (keys_of c.args.self.now.writes.entries) = search rules in
    let step : c.loop-writes.writes-iterator ≡ c.in-Some.writes.now ∷ c.next.new.self = search rules in
    let fails : one_writer_in c.in-Some.writes.now ≡ false = search rules in
    not_clean k unique (c.loop-writes.invariant ∙ ap (list_all one_writer_in) step ∙ ap (λ (z : Bool). z && list_all one_writer_in c.next.new.self) fails)

pub returns : goal.returns
returns c =
    let k = c.args.self.now in
    let unique : IsDistinct same_pair (keys_of c.args.self.now.writes.entries) = search rules in
    let none : c.loop-writes.writes-iterator ≡ [] = search rules in
    clean_all k unique (c.loop-writes.invariant ∙ ap (list_all one_writer_in) none)
