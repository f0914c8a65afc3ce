-- Lists of items of which none runs.
use Rattle.std.proofs.Common.{◌≡◌, ◌∙◌, sym, subst, inl, inr, ◌⊎◌, ℕ, List, [], ◌∷◌, ◌++◌, None}
use Rattle.dataflow.specs.Machine.{After, Begin, End}
use Rattle.dataflow.specs.System.{Bad, Good, In, Outcome}
use Rattle.dataflow.proofs.Lists.{in_left, in_right, in_split, new_idle, seam_here}
use Rattle.values.specs.declared.key.Key.{Key}
use Rattle.values.specs.declared.value.Scalar.{Scalar}
use Rattle.task_code.specs.Code.{Code}
use Rattle.task_code.specs.Compute.{EntryFault}
use Rattle.task_code.specs.Effects.{Task}
use Rattle.task_code.specs.Machine.{CodeItem, CodeState, CodeStep}
use Rattle.task_code.specs.Places.{Place}
use Rattle.task_code.specs.System.{code_system}

-- none of the items runs
abbrev pub AllIdle : List CodeItem → Type 0
AllIdle items = (i : CodeItem) → In i items → i.runs ≡ None

-- none runs, or a fault stands
abbrev pub IdleOrFault : CodeState → Type 0
IdleOrFault s = AllIdle s.items ⊎ (s.fault ≡ None → ⊥)

both_idle : (xs ys : List CodeItem) → AllIdle xs → AllIdle ys → AllIdle (xs ++ ys)
both_idle xs ys p q = λ i there. elim (in_split i xs ys there) [ inl l ↦ p i l | inr r ↦ q i r ]

-- where one item alone may run, the others than one that runs are idle
others_idle : (before before' after after' : List CodeItem) (one item : CodeItem) → AllIdle before → AllIdle after → (item.runs ≡ None → ⊥) → before ++ one ∷ after ≡ before' ++ item ∷ after' → AllIdle (before' ++ after')
others_idle [] [] after after' one item p q runs e = let same : after ≡ after' = cc in subst (λ (xs : List CodeItem). AllIdle xs) same q
others_idle [] (x ∷ before') after after' one item p q runs e =
    let same : before' ++ item ∷ after' ≡ after = cc in
    absurd (runs (q item (subst (λ (xs : List CodeItem). In item xs) same (seam_here item before' after'))))
others_idle (y ∷ before) [] after after' one item p q runs e =
    let same : item ≡ y = cc in
    absurd (runs (p item (inl same)))
others_idle (y ∷ before) (x ∷ before') after after' one item p q runs e =
    let same : x ≡ y = cc in
    let rest : before ++ one ∷ after ≡ before' ++ item ∷ after' = cc in
    λ i there. elim there [ inl is ↦ p i (inl (is ∙ same)) | inr r ↦ others_idle before before' after after' one item (λ j s. p j (inr s)) q runs rest i r ]

-- after an item's end the others are still idle, or its fault stands
after_idle : (C : Code) (old : CodeState) (t : Task) (others : List CodeItem) (outcome : Outcome Task Place Key Scalar EntryFault) (new : CodeState) → AllIdle others → After (code_system C) old t others outcome new → IdleOrFault new
after_idle C old t others (Bad f) new idle r = inr (λ n. absurd (cc (n, r.fault)))
after_idle C old t others (Good e) new idle (inl r) = inr (λ n. absurd (cc (n, r.1.fault)))
after_idle C old t others (Good e) new idle (inr r) =
    inl (subst (λ (xs : List CodeItem). AllIdle xs) (sym r.1.items) (both_idle others _ idle (new_idle old.next _)))

-- where none runs, one item begins and ends: then none runs again, or a fault stands
pub turn_idle : (C : Code) (old mid new : CodeState) (w n : ℕ) → AllIdle old.items → CodeStep C old (Begin w n) mid → CodeStep C mid (End w n) new → IdleOrFault new
turn_idle C old mid new w n idle b e =
    let begins = b.1 in let ends = e.1 in
    let p : AllIdle begins.before = λ i there. idle i (subst (λ (xs : List CodeItem). In i xs) (sym begins.at.items) (in_left i begins.before (begins.item ∷ begins.after) there)) in
    let q : AllIdle begins.after = λ i there. idle i (subst (λ (xs : List CodeItem). In i xs) (sym begins.at.items) (in_right i begins.before (begins.item ∷ begins.after) (inr there))) in
    after_idle C mid ends.item.task (ends.before ++ ends.after) _ new
    (others_idle begins.before ends.before begins.after ends.after _ ends.item p q (λ none. absurd (cc (none, ends.runs))) (sym begins.result.items ∙ ends.at.items))
    ends.result
