use Rattle.std.proofs.Common.{rules, ◌≡◌, ◌∷◌, ◌++◌, [], ℕ, length, map, refl, ap, ◌∙◌}
use Rattle.std.specs.Prelude.{Some, if◌then◌else◌}
use Rattle.values.specs.declared.key.Key.{Key}
use Rattle.meaning_facts.specs.declared.instances.Instance.{Instance}
use Rattle.meaning_facts.specs.declared.instances.Instances.{Instances}
use Rattle.meaning_facts.specs.Paths.{child_at, path_of, same_step, step_view}
use Rattle.meaning_facts.proofs.Tree.{grows, same_child}
use Rattle.meaning_facts.proofs.instances.Instances.open.Goals as goal

pub returns-clause-opened : goal.returns-clause-opened
returns-clause-opened c =
    let t = c.args.self.now in
    let u : Instances = record { all = c.push.new.self; opened = c.note.new.self.opened; named = c.note.new.self.named } in
    let n : Instance = record { parent = c.args.parent; path = c.in_ok-path.path; given = c.args.given } in
    let count : c.len-number.result ≡ length c.args.self.now.all.items = search rules in
    let found : (i at : ℕ) (k : Key) → child_at u i at k ≡ (if same_step (c.args.parent, c.args.step.offset, c.args.step.key) (i, at, k) then Some (length t.all.items) else child_at t i at k) = λ i at k.
    same_child c.note.new.self u refl refl i at k ∙ c.in_ok-note.ensures.found i at k
    ∙ ap (λ (m : ℕ). if same_step (c.args.parent, c.args.step.offset, c.args.step.key) (i, at, k) then Some m else child_at t i at k) count in
    let all : c.push.new.self.items ≡ c.args.self.now.all.items ++ record { parent = c.args.parent; path = c.in_ok-path.path; given = c.args.given } ∷ [] = search rules in
    let path : map step_view c.in_ok-path.path.items ≡ step_view c.args.step ∷ path_of c.args.self.now.all.items c.args.parent = search rules in
    record { made = n; all = all; parent_is = refl; path_is = path; given_is = refl; found = found }

pub returns-clause-tree : goal.returns-clause-tree
returns-clause-tree c = λ h within lacks fits.
    grows c.args.self.now (record { all = c.push.new.self; opened = c.note.new.self.opened; named = c.note.new.self.named }) c.args.parent c.args.step c.args.given (returns-clause-opened c) h within lacks fits
