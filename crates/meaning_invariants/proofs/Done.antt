-- Blocks whose goals are done, put together from statements and taken apart.
use Rattle.std.specs.Prelude.{◌≡◌, ◌⊎◌, ℕ, zero, suc, ◌+◌, ◌<◌, ◌≤◌, Bool, true, false, List, [], ◌∷◌, ◌++◌, Some, slice_get, if◌then◌else◌, refl}
use Rattle.std.proofs.Common.{arith, inl, inr, sym, ap, ◌∙◌, subst}
use Rattle.language.specs.Core.{Owned, output, Name, Stmt, Block, no_stmts, stmts, Core}
use Rattle.language.specs.Members.{◌∈◌, first, later}
use Rattle.language.specs.Parts.{block_list}
use Rattle.language.proofs.Members.{either, split_in}
use Rattle.meaning_facts.specs.declared.fact_base.FactBase.{FactBase}
use Rattle.meaning_cells.specs.Chosen.{Chosen, key_in}
use Rattle.meaning_cells.specs.Ending.{Goal, Goals, behind, both, child_goals, goals_in, IsDone, done, output_goals, statement_goals, turn_goals, where_so}
use Rattle.meaning_facts.specs.Paths.{child_at}
use Rattle.meaning_cells.specs.Targeted.{same_owned}
use Rattle.meaning_invariants.proofs.Aiming.{same_so}

-- there are goals, and each is done
pub record AllDone (s : Core) (l : FactBase) (o : Goals) : Type 0 where
  pub goals : List Goal
  pub is : o ≡ Some goals
  pub each : (h : Goal) → h ∈ goals → IsDone s l h

pub done_none : {s : Core} {l : FactBase} → AllDone s l (Some [])
done_none = record { goals = []; is = refl; each = λ h m. elim m [ ] }

pub done_one : {s : Core} {l : FactBase} (g : Goal) → IsDone s l g → AllDone s l (Some (g ∷ []))
done_one {s} {l} g d = record { goals = g ∷ []; is = refl; each = only }
  where
    only : (h : Goal) → h ∈ (g ∷ []) → IsDone s l h
    only h first = d
    only h (later m) = elim m [ ]

pub done_both : {s : Core} {l : FactBase} (m n : Goals) → AllDone s l m → AllDone s l n → AllDone s l (both m n)
done_both {s} {l} m n x y = record {
  goals = x.goals ++ y.goals;
  is = ap (λ (z : Goals). both z n) x.is ∙ ap (behind x.goals) y.is;
  each = λ h q. by h (either x.goals y.goals q);
}
  where
    by : (h : Goal) → (h ∈ x.goals) ⊎ (h ∈ y.goals) → IsDone s l h
    by h (inl q) = x.each h q
    by h (inr q) = y.each h q

pub done_where : {s : Core} {l : FactBase} (b : Bool) (gs : List Goal) → b ≡ true → AllDone s l (Some gs) → AllDone s l (where_so b gs)
done_where {s} {l} b gs e x = subst (λ (z : Bool). AllDone s l (where_so z gs)) (sym e) x

-- a block of which each statement's goals are done is done
pub done_block : (s : Core) (l : FactBase) (i : ℕ) (a : Owned) (b : Block) → ((st : Stmt) → st ∈ block_list b → AllDone s l (statement_goals s l i a st)) → AllDone s l (goals_in s l i a b)
done_block s l i a no_stmts f = done_none
done_block s l i a (stmts st b) f = done_both (statement_goals s l i a st) (goals_in s l i a b) (f st first) (done_block s l i a b (λ x m. f x (later m)))

pub done_goal : {s : Core} {l : FactBase} (g : Goal) → AllDone s l (goals_in s l g.instance g.what g.block) → IsDone s l g
done_goal g x = done {g = g} x.is x.each

-- TURNS

pub done_turns : (s : Core) (l : FactBase) (i : ℕ) (a : Owned) (at : ℕ) (b : Block) (c : Chosen) (k n : ℕ)
    → ((t : ℕ) → k ≤ t → t < k + n → AllDone s l (child_goals (child_at l.instances i at (key_in c t)) a b)) → AllDone s l (turn_goals l i a at b c k n)
done_turns s l i a at b c k zero f = done_none
done_turns s l i a at b c k (suc n) f =
    done_both (child_goals (child_at l.instances i at (key_in c k)) a b) (turn_goals l i a at b c (suc k) n) (f k (omega arith) (omega arith))
    (done_turns s l i a at b c (suc k) n (λ t p q. f t (omega (arith, p)) (omega (arith, q))))

-- OUTPUTS

pub done_outputs : (s : Core) (l : FactBase) (j : ℕ) (a : Owned) (b : Block) (k : ℕ) (xs : List Name)
    → ((t : ℕ) (x : Name) → slice_get xs t ≡ Some x → x.what ≡ a → IsDone s l (record { instance = j; what = output (k + t); block = b }))
    → (h : Goal) → h ∈ output_goals j a b k xs → IsDone s l h
done_outputs s l j a b k [] f h m = elim m [ ]
done_outputs s l j a b k (x ∷ xs) f h m =
    by (λ g i. done_outputs s l j a b (suc k) xs (λ t y e q. subst (λ (z : ℕ). IsDone s l (record { instance = j; what = output z; block = b })) (omega arith) (f (suc t) y e q)) g i) (same_owned x.what a) refl m
  where
    by : ((g : Goal) → g ∈ output_goals j a b (suc k) xs → IsDone s l g) → (t : Bool) → same_owned x.what a ≡ t
        → h ∈ (if t then record { instance = j; what = output k; block = b } ∷ output_goals j a b (suc k) xs else output_goals j a b (suc k) xs) → IsDone s l h
    by rest true e i = elim (split_in i) [
      | inl q ↦ subst (λ (z : Goal). IsDone s l z) (sym q) (subst (λ (z : ℕ). IsDone s l (record { instance = j; what = output z; block = b })) (omega arith) (f 0 x refl (same_so x.what a e)))
      | inr q ↦ rest h q
    ]
    by rest false e i = rest h i
