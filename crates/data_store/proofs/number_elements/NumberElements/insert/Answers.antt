use Rattle.std.proofs.Common.{rules, ◌≡◌, ◌∙◌, ◌++◌, ap, map, subst, w64, to_z, of_z}
use Rattle.std.specs.Prelude.{ℤ}
use Rattle.std.proofs.lemmas.Int.{to_z-of_z}
use Rattle.values.specs.declared.key.Key.TheVariants.{Number}
use Rattle.values.specs.Maps.{found, inserted}
use Rattle.data_store.specs.Arrays.{arranged, number_element}
use Rattle.data_store.proofs.Arranged.{arranged_more, kept_more, element_added}
use Rattle.data_store.proofs.Pairs.{found_as_number, longer_elements, numbers_more}
use Rattle.data_store.proofs.number_elements.NumberElements.insert.Goals as goal

pub put-requires : goal.put-requires
put-requires c =
    let k : ℤ = to_z w64 (of_z w64 c.args.n) in
    let a = rw (← c.self.view_is) at c.requires in
    found_as_number c.args.n k (c.self.inside.slots ++ c.self.inside.by_key.entries) (to_z-of_z w64 c.args.n (search rules)) ∙ a

pub invariant_of-self-2 : goal.invariant_of-self-2
invariant_of-self-2 c =
    let k : ℤ = to_z w64 (of_z w64 c.args.n) in
    let is : k ≡ c.args.n = to_z-of_z w64 c.args.n (search rules) in
    let a = rw (← c.self.view_is) at c.requires in
    let old = c.self.inside.slots ++ c.self.inside.by_key.entries in
    let new = c.put.new.slots ++ c.put.new.by_key.entries in
    let put = c.in_ok-put.ensures.ok in
    rw c.saturating_sub-self-inside.ensures
    (kept_more (Number k) c.args.value (map number_element old) (map number_element new) c.self.invariant (ap (λ j. found (Number j) (arranged (map number_element old))) is ∙ a)
    (numbers_more k c.args.value old new put) (longer_elements number_element old new put.longer) c.in_ok-put.ensures.spare)

pub returns-clause-ok : goal.returns-clause-ok
returns-clause-ok c =
    let k : ℤ = to_z w64 (of_z w64 c.args.n) in
    let is : k ≡ c.args.n = to_z-of_z w64 c.args.n (search rules) in
    let old = c.self.inside.slots ++ c.self.inside.by_key.entries in
    let new = c.put.new.slots ++ c.put.new.by_key.entries in
    let more = arranged_more (Number k) c.args.value (map number_element old) (map number_element new) (numbers_more k c.args.value old new c.in_ok-put.ensures.ok) in
    let e = subst (λ (j : ℤ). arranged (map number_element new) ≡ inserted (Number j) c.args.value (arranged (map number_element old))) is more in
    rw (← c.self.view_is) (element_added (Number c.args.n) c.args.value _ _ _ _ e c.saturating_sub-self-inside.ensures)
