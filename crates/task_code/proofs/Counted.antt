-- The items of code are counted by its live blocks and loops.
use Rattle.std.proofs.lemmas.List.{length-map, length-drop}
use Rattle.std.proofs.lemmas.List.Concat.{length-flat_map}
use Rattle.std.proofs.lemmas.List.Sums.{sum_by-cons}
use Rattle.std.proofs.Common.{◌≡◌, ◌⊎◌, inl, inr, ℕ, zero, suc, ◌+◌, ◌-◌, ◌*◌, ◌<◌, ◌≤◌, Bool, true, false, List, [], ◌∷◌, ◌++◌, map, refl, sym, ap, ◌∙◌, subst, Option, None, Some, length, arith, length-append}
use Rattle.std.specs.Prelude.{drop}
use Rattle.dataflow.specs.Facts.{Clean, Comes, Known, Live, live_main, live_opened}
use Rattle.dataflow.specs.Laws.{Can}
use Rattle.dataflow.specs.System.{Effect, Good, In, Opening, Outcome}
use Rattle.std.specs.List.{flat_map, sum_by}
use Rattle.task_code.proofs.Kept.{code_laws}
use Rattle.task_code.proofs.Opens.{effect_is, found}
use Rattle.task_code.specs.Code.{Code, Loop, body, entry, loop_of}
use Rattle.task_code.specs.Compute.{EntryFault}
use Rattle.task_code.specs.Count.{HasAllBlocks, HasAllLoops, items_in, rest_from, rests_of, turns_at}
use Rattle.task_code.specs.Effects.{Item, Main, Task, block, instances, is_some_list, left_at, rest, rest_if, turns_of}
use Rattle.task_code.specs.Places.{Place, Step}
use Rattle.task_code.specs.System.{code_system}
use Rattle.task_code.specs.Whole.{IsCode}
use Rattle.values.specs.declared.key.Key.{Key}
use Rattle.values.specs.declared.value.Scalar.{Scalar}
use Rattle.dataflow.proofs.Lists.{in_left, in_right, in_unmap, in_split}
use Rattle.dataflow.proofs.Settled.{Settled, can_of_comes}
use Rattle.dataflow.proofs.Theorem.{known_settled}
use Rattle.values.specs.Limits.{chunk_size}

sum_same : {A : Type 0} (f g : A → ℕ) → ((x : A) → f x ≡ g x) → (xs : List A) → sum_by f xs ≡ sum_by g xs
sum_same f g h [] = refl
sum_same f g h (x ∷ xs) = sum_by-cons f x xs ∙ (λ i. h x i + sum_same f g h xs i) ∙ sym (sum_by-cons g x xs)

one_more : (n m : ℕ) → n ≡ m → suc n ≡ 1 + m
one_more n m h = omega arith

pub gather_in : {A B : Type 0} (f : A → List B) (xs : List A) (x : A) (y : B) → In x xs → In y (f x) → In y (flat_map f xs)
gather_in f [] x y h i = absurd h
gather_in {A} f (z ∷ xs) x y h i =
    elim h [
      | inl p ↦ in_left y (f z) (flat_map f xs) (subst (λ (w : A). In y (f w)) p i)
      | inr j ↦ in_right y (f z) (flat_map f xs) (gather_in f xs x y j i)
    ]

left_long : {X : Type 0} (c : ℕ) (xs : List X) → is_some_list (left_at c xs) ≡ true → chunk_size * c < length xs
left_long zero [] h = absurd (cc)
left_long zero (x ∷ xs) h = omega arith
left_long (suc c) xs h = let l = left_long c (drop chunk_size xs) h in let d = length-drop chunk_size xs in omega arith

few_rests : (c m : ℕ) → chunk_size * suc c < m → suc c ≤ rests_of m
few_rests c m h = grind arith

last_or : (c k : ℕ) → suc c ≤ suc k → (c ≡ k) ⊎ (suc c ≤ k)
last_or c k h = grind arith

in_rests : (i : ℕ) (p : List Step) (c k : ℕ) → suc c ≤ k → In (Item i p (suc c)) (rest_from i p k)
in_rests i p c zero h = absurd (omega arith)
in_rests i p c (suc k) h = elim (last_or c k h) [ inl e ↦ inl (ap (λ (n : ℕ). Item i p (suc n)) e) | inr l ↦ inr (in_rests i p c k l) ]

length_rests : (i : ℕ) (p : List Step) (k : ℕ) → length (rest_from i p k) ≡ k
length_rests i p zero = refl
length_rests i p (suc k) = let h = length_rests i p k in omega arith

module _ (C : Code) (I : IsCode C) (clean : Clean (code_system C)) (blocks : List (ℕ × List Step)) (loops : List (ℕ × List Step × ℕ)) (has_blocks : HasAllBlocks C blocks) (has_loops : HasAllLoops C loops) where
  abbrev rest_items : ℕ × List Step × ℕ → List Task
  rest_items l = rest_from l.0 l.1 (rests_of l.2)

  abbrev block_items : ℕ × List Step → List Task
  block_items s = map (λ j. Item j s.1 0) (body C s.0).entries

  abbrev pub all_items : List Task
  all_items = Main ∷ (flat_map block_items blocks ++ flat_map rest_items loops)

  abbrev can_at : (n i c : ℕ) (p : List Step) (e : Effect Task Place Key Scalar) → Comes (code_system C) (Known (code_system C) n) (Item i p c) (Good e) → Can (code_system C) (Item i p c) e
  can_at n i c p e comes = can_of_comes (code_system C) (code_laws C I) (Known (code_system C) n) (known_settled (code_system C) (code_laws C I) clean n) comes

  in_instance : (n : ℕ) (t u : Task) (e : Effect Task Place Key Scalar) (o : Opening Task Place) (s : ℕ × List Step) → Known (code_system C) n t e → In o e.opens → o ≡ block C s → In u o.tasks → In u all_items
  in_instance n t u e o s f io q iu =
      inr (in_left u (flat_map block_items blocks) (flat_map rest_items loops) (gather_in block_items blocks s u (has_blocks n t e s f (subst (λ (x : Opening Task Place). In x e.opens) q io)) (subst (λ (x : Opening Task Place). In u x.tasks) q iu)))

  pub live_in : (n : ℕ) {t : Task} → Live (code_system C) (Known (code_system C) n) t → In t all_items
  live_in n live_main = inl refl
  live_in n (live_opened Main u e o l f io iu) =
      let c = (known_settled (code_system C) (code_laws C I) clean n).comes Main e f in
      let same : ◌≡◌ {A = Effect Task Place Key Scalar} (record { writes = []; lines = []; opens = block C (0, []) ∷ [] }) e = good_is c.is in
      in_instance n Main u e o (0, []) f io (elim (subst (λ (x : Effect Task Place Key Scalar). In o x.opens) (sym same) io) [ inl q ↦ q | inr z ↦ absurd z ]) iu
    where
      good_is : {x y : Effect Task Place Key Scalar} → ◌≡◌ {A = Outcome Task Place Key Scalar EntryFault} (Good x) (Good y) → x ≡ y
      good_is h = cc
  live_in n (live_opened (Item i p c) u e o l f io iu) =
      by (in_split o (map (block C) (instances (entry C i).act (entry C i).offset p c (found C (can_at n i c p e comes)))) (rest (loop_of (entry C i).act) i p c (found C (can_at n i c p e comes))) (subst (λ (x : Effect Task Place Key Scalar). In o x.opens) (sym (effect_is C i c p e (can_at n i c p e comes))) io))
    where
      settled : Settled (code_system C) (Known (code_system C) n)
      settled = known_settled (code_system C) (code_laws C I) clean n

      comes : Comes (code_system C) (Known (code_system C) n) (Item i p c) (Good e)
      comes = settled.comes (Item i p c) e f

      by_rest : (k : Option Loop) → loop_of (entry C i).act ≡ k → In o (rest k i p c (found C (can_at n i c p e comes))) → In u all_items
      by_rest None q h = absurd h
      by_rest (Some w) q h = by_left (is_some_list (left_at (suc c) (turns_of (found C (can_at n i c p e comes))))) refl h
        where
          by_left : (b : Bool) → is_some_list (left_at (suc c) (turns_of (found C (can_at n i c p e comes)))) ≡ b → In o (rest_if b i p c) → In u all_items
          by_left false z h = absurd h
          by_left true z h =
              let oq : o ≡ record { makes = []; tasks = Item i p (suc c) ∷ [] } = elim h [ inl y ↦ y | inr y ↦ absurd y ] in
              let uq : u ≡ Item i p (suc c) = elim (subst (λ (x : Opening Task Place). In u x.tasks) oq iu) [ inl y ↦ y | inr y ↦ absurd y ] in
              let m = turns_at C i p comes.answers in
              let there = in_rests i p c (rests_of m) (few_rests c m (left_long (suc c) (turns_of (found C (can_at n i c p e comes))) z)) in
              inr (in_right u (flat_map block_items blocks) (flat_map rest_items loops) (gather_in rest_items loops (i, p, m) u (has_loops n i c p (Good e) w q comes) (subst (λ (x : Task). In x (rest_from i p (rests_of m))) (sym uq) there)))

      by : In o (map (block C) (instances (entry C i).act (entry C i).offset p c (found C (can_at n i c p e comes)))) ⊎ In o (rest (loop_of (entry C i).act) i p c (found C (can_at n i c p e comes))) → In u all_items
      by (inl g) = (let r = in_unmap (block C) o (instances (entry C i).act (entry C i).offset p c (found C (can_at n i c p e comes))) g in in_instance n (Item i p c) u e o r.0 f io (sym r.2) iu)
      by (inr g) = by_rest (loop_of (entry C i).act) refl g

  pub items_counted : length all_items ≡ items_in C blocks loops
  items_counted =
      let a = length-flat_map block_items blocks in
      let b = length-flat_map rest_items loops in
      let x = sum_same (λ s. length (block_items s)) (λ s. length (body C s.0).entries) (λ s. length-map (body C s.0).entries (λ j. Item j s.1 0)) blocks in
      let y = sum_same (λ l. length (rest_items l)) (λ l. rests_of l.2) (λ l. length_rests l.0 l.1 (rests_of l.2)) loops in
      one_more (length (flat_map block_items blocks ++ flat_map rest_items loops)) _ (length-append (flat_map block_items blocks) (flat_map rest_items loops) ∙ (λ i. (a ∙ x) i + (b ∙ y) i))
