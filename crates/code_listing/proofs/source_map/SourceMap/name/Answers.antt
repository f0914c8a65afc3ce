use Rattle.std.proofs.Common.{rules, sym, ap, ◌∙◌, ◌≡◌, [], map, length, ℕ, List, Bor}
use Rattle.task_code.specs.Code.{nth}
use Rattle.code_listing.proofs.Adding.{nth_at, nth_beyond, none_in}
use Rattle.code_listing.proofs.source_map.SourceMap.name.Goals as goal
use Rattle.code_listing.proofs.source_map.SourceMap.name.Goals.{in_default-via-in-Some+else-not-is_empty, in_default-via-in_default}

pub returns-in-Some-clause-some : goal.returns-in-Some-clause-some
returns-in-Some-clause-some c =
    let is = nth_at (λ (b : Bor (List ℕ)). b.now) [] c.deref.result.now c.args.node c.in-Some.name.now c.in-Some.ensures.lookup.3.0 c.in-Some.ensures.lookup.1 in
    let named = ap (λ (z : List (Bor (List ℕ))). nth [] (map (λ (b : Bor (List ℕ)). b.now) z) c.args.node) (sym c.deref.ensures.value) ∙ is in
    (sym named, search rules)

pub returns-in_default-clause-none : goal.returns-in_default-clause-none
returns-in_default-clause-none c = elim c.in_default.branch [
  | in_default-via-in-Some+else-not-is_empty w ↦
      let is = nth_at (λ (b : Bor (List ℕ)). b.now) [] c.deref.result.now c.args.node w.in-Some.name.now w.in-Some.ensures.lookup.3.0 w.in-Some.ensures.lookup.1 in
      let named = ap (λ (z : List (Bor (List ℕ))). nth [] (map (λ (b : Bor (List ℕ)). b.now) z) c.args.node) (sym c.deref.ensures.value) ∙ is in
      let none : length w.in-Some.name.now.now ≡ 0 = search rules in
      named ∙ none_in w.in-Some.name.now.now none
  | in_default-via-in_default w ↦
      ap (λ (z : List (Bor (List ℕ))). nth [] (map (λ (b : Bor (List ℕ)). b.now) z) c.args.node) (sym c.deref.ensures.value) ∙ nth_beyond (λ (b : Bor (List ℕ)). b.now) [] c.deref.result.now c.args.node w.in_default.ensures.lookup.3
]
