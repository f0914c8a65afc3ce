-- The goals of a statement, of a turn and of an output among those of a block.
use Rattle.std.specs.Prelude.{◌≡◌, ℕ, zero, suc, ◌+◌, ◌<◌, ◌≤◌, Bool, true, false, List, [], ◌∷◌, ◌++◌, Option, Some, None, slice_get, if◌then◌else◌, refl}
use Rattle.std.proofs.Common.{arith, inl, inr, sym, ap, ◌∙◌, subst}
use Rattle.std.proofs.lemmas.Bool.{cases_lt}
use Rattle.language.specs.Core.{Owned, output, Name, Stmt, Block, no_stmts, stmts, Core}
use Rattle.language.specs.Members.{◌∈◌, first, later}
use Rattle.language.specs.Parts.{block_list}
use Rattle.language.proofs.Members.{to_left, to_right}
use Rattle.meaning_facts.specs.declared.fact_base.FactBase.{FactBase}
use Rattle.meaning_cells.specs.Chosen.{Chosen, key_in}
use Rattle.meaning_cells.specs.Ending.{Goal, Goals, both, child_goals, goals_in, output_goals, statement_goals, turn_goals, where_so}
use Rattle.meaning_facts.specs.Paths.{child_at}
use Rattle.meaning_cells.specs.Targeted.{same_owned}
use Rattle.meaning_invariants.proofs.Aiming.{same_all}

-- there are goals, and these are among others
pub record Part (o : Goals) (gs : List Goal) : Type 0 where
  pub goals : List Goal
  pub is : o ≡ Some goals
  pub within : (h : Goal) → h ∈ goals → h ∈ gs

record Parted (m n : Goals) (gs : List Goal) : Type 0 where
  left : List Goal
  right : List Goal
  left_is : m ≡ Some left
  right_is : n ≡ Some right
  whole : left ++ right ≡ gs

parted : (m n : Goals) (gs : List Goal) → both m n ≡ Some gs → Parted m n gs
parted (Some hs) (Some ks) gs e = record { left = hs; right = ks; left_is = refl; right_is = refl; whole = cc (e) }
parted (Some hs) None gs e = absurd (cc (e))
parted None n gs e = absurd (cc (e))

left_part : (m n : Goals) (gs : List Goal) → both m n ≡ Some gs → Part m gs
left_part m n gs e = let p = parted m n gs e in record { goals = p.left; is = p.left_is; within = λ h i. subst (λ (z : List Goal). h ∈ z) p.whole (to_left p.left p.right i) }

right_part : (m n : Goals) (gs : List Goal) → both m n ≡ Some gs → Part n gs
right_part m n gs e = let p = parted m n gs e in record { goals = p.right; is = p.right_is; within = λ h i. subst (λ (z : List Goal). h ∈ z) p.whole (to_right p.left p.right i) }

part_in : {o : Goals} (gs hs : List Goal) → Part o gs → ((h : Goal) → h ∈ gs → h ∈ hs) → Part o hs
part_in gs hs p f = record { goals = p.goals; is = p.is; within = λ h i. f h (p.within h i) }

pub part_of_block : (s : Core) (l : FactBase) (i : ℕ) (a : Owned) (b : Block) (gs : List Goal) → goals_in s l i a b ≡ Some gs → (st : Stmt) → st ∈ block_list b → Part (statement_goals s l i a st) gs
part_of_block s l i a no_stmts gs e st m = elim m [ ]
part_of_block s l i a (stmts x b) gs e st first = left_part (statement_goals s l i a x) (goals_in s l i a b) gs e
part_of_block s l i a (stmts x b) gs e st (later m) =
    let r = right_part (statement_goals s l i a x) (goals_in s l i a b) gs e in
    part_in r.goals gs (part_of_block s l i a b r.goals r.is st m) r.within

pub part_of_turns : (l : FactBase) (i : ℕ) (a : Owned) (at : ℕ) (b : Block) (c : Chosen) (k n : ℕ) (gs : List Goal) → turn_goals l i a at b c k n ≡ Some gs
    → (t : ℕ) → k ≤ t → t < k + n → Part (child_goals (child_at l.instances i at (key_in c t)) a b) gs
part_of_turns l i a at b c k zero gs e t p q = absurd (omega (arith, p, q))
part_of_turns l i a at b c k (suc n) gs e t p q = elim (cases_lt k t) [
  | inl w ↦
      let r = right_part (child_goals (child_at l.instances i at (key_in c k)) a b) (turn_goals l i a at b c (suc k) n) gs e in
      part_in r.goals gs (part_of_turns l i a at b c (suc k) n r.goals r.is t w (omega (arith, q))) r.within
  | inr w ↦
      let same : k ≡ t = omega (arith, p, w) in
      subst (λ (z : ℕ). Part (child_goals (child_at l.instances i at (key_in c z)) a b) gs) same (left_part (child_goals (child_at l.instances i at (key_in c k)) a b) (turn_goals l i a at b c (suc k) n) gs e)
]

-- the instance of a block that is among goals
pub record Child (o : Option ℕ) (a : Owned) (b : Block) (gs : List Goal) : Type 0 where
  pub instance : ℕ
  pub is : o ≡ Some instance
  pub there : record { instance = instance; what = a; block = b } ∈ gs

pub child_of : (o : Option ℕ) (a : Owned) (b : Block) (gs : List Goal) → Part (child_goals o a b) gs → Child o a b gs
child_of (Some j) a b gs p =
    let same : record { instance = j; what = a; block = b } ∷ [] ≡ p.goals = cc (p.is) in
    record { instance = j; is = refl; there = p.within (record { instance = j; what = a; block = b }) (subst (λ (z : List Goal). record { instance = j; what = a; block = b } ∈ z) same first) }
child_of None a b gs p = absurd (cc (p.is))

pub output_there : (j : ℕ) (a : Owned) (b : Block) (k : ℕ) (xs : List Name) (t : ℕ) (x : Name) → slice_get xs t ≡ Some x → x.what ≡ a
    → record { instance = j; what = output (k + t); block = b } ∈ output_goals j a b k xs
output_there j a b k [] zero x e q = absurd (cc (e))
output_there j a b k [] (suc t) x e q = absurd (cc (e))
output_there j a b k (y ∷ ys) zero x e q =
    let same : y ≡ x = cc (e) in
    let hit : same_owned y.what a ≡ true = same_all y.what a (ap (λ (z : Name). z.what) same ∙ q) in
    let at : k + 0 ≡ k = omega arith in
    let goal : Goal = record { instance = j; what = output (k + 0); block = b } in
    let is : record { instance = j; what = output k; block = b } ≡ goal = ap (λ (z : ℕ). record { instance = j; what = output z; block = b }) (sym at) in
    subst (λ (z : Bool). record { instance = j; what = output (k + 0); block = b } ∈ (if z then record { instance = j; what = output k; block = b } ∷ output_goals j a b (suc k) ys else output_goals j a b (suc k) ys)) (sym hit)
    (subst (λ (z : Goal). z ∈ (record { instance = j; what = output k; block = b } ∷ output_goals j a b (suc k) ys)) is first)
output_there j a b k (y ∷ ys) (suc t) x e q =
    let at : suc k + t ≡ k + suc t = omega arith in
    by (same_owned y.what a) (subst (λ (z : ℕ). record { instance = j; what = output z; block = b } ∈ output_goals j a b (suc k) ys) at (output_there j a b (suc k) ys t x e q))
  where
    by : (z : Bool) → record { instance = j; what = output (k + suc t); block = b } ∈ output_goals j a b (suc k) ys
        → record { instance = j; what = output (k + suc t); block = b } ∈ (if z then record { instance = j; what = output k; block = b } ∷ output_goals j a b (suc k) ys else output_goals j a b (suc k) ys)
    by true m = later m
    by false m = m

pub output_first : (j : ℕ) (a : Owned) (b : Block) (xs : List Name) (t : ℕ) (x : Name) → slice_get xs t ≡ Some x → x.what ≡ a
    → record { instance = j; what = output t; block = b } ∈ output_goals j a b 0 xs
output_first j a b xs t x e q =
    let at : 0 + t ≡ t = omega arith in
    subst (λ (z : ℕ). record { instance = j; what = output z; block = b } ∈ output_goals j a b 0 xs) at (output_there j a b 0 xs t x e q)

-- what is left where a test holds
pub where_parts : (b : Bool) (gs hs : List Goal) → where_so b gs ≡ Some hs → (b ≡ true) × (gs ≡ hs)
where_parts true gs hs e = (refl, cc (e))
where_parts false gs hs e = absurd (cc (e))
