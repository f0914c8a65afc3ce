-- Needs each once, where they stand first.
use Rattle.std.proofs.Common.{◌≡◌, inl, inr, true, false, ◌||◌, List, [], ◌∷◌, ◌++◌, refl, sym, ap, ◌∙◌, true≢false}
use Rattle.std.specs.Prelude.{if◌then◌else◌}
use Rattle.std.specs.List.{list_any}
use Rattle.std.proofs.lemmas.Bool.{cases_Bool}
use Rattle.std.proofs.lemmas.List.{append-nil}
use Rattle.task_code.specs.Code.{Need, Stored, Closed, At, AtKey}
use Rattle.task_code.specs.Shape.{is_same_plain}
use Rattle.task_code.proofs.Equal.{name_sound}
use Rattle.code_rules.specs.CodeNames.{without, each_once}

pub same_sound : (n m : Need) → is_same_plain n m ≡ true → n ≡ m
same_sound (Stored r) (Stored s) h = ap Stored (name_sound r s h)
same_sound (Closed r) (Closed s) h = ap Closed (name_sound r s h)
same_sound (Stored r) (Closed s) h = absurd (true≢false (sym h))
same_sound (Stored r) (At s i) h = absurd (true≢false (sym h))
same_sound (Stored r) (AtKey s k) h = absurd (true≢false (sym h))
same_sound (Closed r) (Stored s) h = absurd (true≢false (sym h))
same_sound (Closed r) (At s i) h = absurd (true≢false (sym h))
same_sound (Closed r) (AtKey s k) h = absurd (true≢false (sym h))
same_sound (At r j) (Stored s) h = absurd (true≢false (sym h))
same_sound (At r j) (Closed s) h = absurd (true≢false (sym h))
same_sound (At r j) (At s i) h = absurd (true≢false (sym h))
same_sound (At r j) (AtKey s k) h = absurd (true≢false (sym h))
same_sound (AtKey r j) (Stored s) h = absurd (true≢false (sym h))
same_sound (AtKey r j) (Closed s) h = absurd (true≢false (sym h))
same_sound (AtKey r j) (At s i) h = absurd (true≢false (sym h))
same_sound (AtKey r j) (AtKey s k) h = absurd (true≢false (sym h))

pub without_here : (n m : Need) (ms : List Need) → is_same_plain n m ≡ true → without n (m ∷ ms) ≡ without n ms
without_here n m ms q = ap (λ t. if t then without n ms else m ∷ without n ms) q

pub without_past : (n m : Need) (ms : List Need) → is_same_plain n m ≡ false → without n (m ∷ ms) ≡ m ∷ without n ms
without_past n m ms q = ap (λ t. if t then without n ms else m ∷ without n ms) q

pub without_twice : (n : Need) (ms : List Need) → without n (without n ms) ≡ without n ms
without_twice n [] = refl
without_twice n (m ∷ ms) =
    elim (cases_Bool (is_same_plain n m)) [
      | inl q ↦ ap (without n) (without_here n m ms q) ∙ without_twice n ms ∙ sym (without_here n m ms q)
      | inr q ↦ ap (without n) (without_past n m ms q) ∙ without_past n m (without n ms) q ∙ ap (λ l. m ∷ l) (without_twice n ms) ∙ sym (without_past n m ms q)
    ]

pub without_swap : (n m : Need) (ks : List Need) → without n (without m ks) ≡ without m (without n ks)
without_swap n m [] = refl
without_swap n m (k ∷ ks) =
    elim (cases_Bool (is_same_plain n k)) [
      | inl p ↦ elim (cases_Bool (is_same_plain m k)) [
        | inl q ↦ ap (without n) (without_here m k ks q) ∙ without_swap n m ks ∙ sym (ap (without m) (without_here n k ks p))
        | inr q ↦ ap (without n) (without_past m k ks q) ∙ without_here n k (without m ks) p ∙ without_swap n m ks ∙ sym (ap (without m) (without_here n k ks p))
      ]
      | inr p ↦ elim (cases_Bool (is_same_plain m k)) [
        | inl q ↦ ap (without n) (without_here m k ks q) ∙ without_swap n m ks ∙ sym (ap (without m) (without_past n k ks p) ∙ without_here m k (without n ks) q)
        | inr q ↦ ap (without n) (without_past m k ks q) ∙ without_past n k (without m ks) p ∙ ap (λ l. k ∷ l) (without_swap n m ks) ∙ sym (ap (without m) (without_past n k ks p) ∙ without_past m k (without n ks) q)
      ]
    ]

-- a number that is taken out in the end need not be there before
absorbed : (n : Need) (ms b : List Need) → without n (each_once (without n ms ++ b)) ≡ without n (each_once (ms ++ b))
absorbed n [] b = refl
absorbed n (m ∷ ms) b =
    elim (cases_Bool (is_same_plain n m)) [
      | inl p ↦
          ap (λ l. without n (each_once (l ++ b))) (without_here n m ms p) ∙ absorbed n ms b
          ∙ sym (without_here n m (without m (each_once (ms ++ b))) p
          ∙ ap (λ k. without n (without k (each_once (ms ++ b)))) (sym (same_sound n m p))
          ∙ without_twice n (each_once (ms ++ b)))
      | inr p ↦
          ap (λ l. without n (each_once (l ++ b))) (without_past n m ms p)
          ∙ without_past n m (without m (each_once (without n ms ++ b))) p
          ∙ ap (λ l. m ∷ l) (without_swap n m (each_once (without n ms ++ b)) ∙ ap (without m) (absorbed n ms b) ∙ without_swap m n (each_once (ms ++ b)))
          ∙ sym (without_past n m (without m (each_once (ms ++ b))) p)
    ]

-- what is once each may stand in front of what comes
pub once_again : (a b : List Need) → each_once (each_once a ++ b) ≡ each_once (a ++ b)
once_again [] b = refl
once_again (n ∷ a) b = ap (λ l. n ∷ l) (absorbed n (each_once a) b ∙ ap (without n) (once_again a b))

pub once_twice : (a : List Need) → each_once (each_once a) ≡ each_once a
once_twice a = ap each_once (sym (append-nil (each_once a))) ∙ once_again a [] ∙ ap each_once (append-nil a)

-- the last number is taken out
without_last : (n : Need) (ms : List Need) → is_same_plain n n ≡ true → without n (each_once (ms ++ n ∷ [])) ≡ without n (each_once ms)
without_last n [] self = without_here n n [] self
without_last n (m ∷ ms) self =
    elim (cases_Bool (is_same_plain n m)) [
      | inl p ↦
          without_here n m (without m (each_once (ms ++ n ∷ []))) p
          ∙ without_swap n m (each_once (ms ++ n ∷ [])) ∙ ap (without m) (without_last n ms self) ∙ without_swap m n (each_once ms)
          ∙ sym (without_here n m (without m (each_once ms)) p)
      | inr p ↦
          without_past n m (without m (each_once (ms ++ n ∷ []))) p
          ∙ ap (λ l. m ∷ l) (without_swap n m (each_once (ms ++ n ∷ [])) ∙ ap (without m) (without_last n ms self) ∙ without_swap m n (each_once ms))
          ∙ sym (without_past n m (without m (each_once ms)) p)
    ]

without_behind : (m n : Need) (xs : List Need) → is_same_plain m n ≡ false → without m (xs ++ n ∷ []) ≡ without m xs ++ n ∷ []
without_behind m n [] q = without_past m n [] q
without_behind m n (x ∷ xs) q =
    elim (cases_Bool (is_same_plain m x)) [
      | inl p ↦ without_here m x (xs ++ n ∷ []) p ∙ without_behind m n xs q ∙ sym (ap (λ l. l ++ n ∷ []) (without_here m x xs p))
      | inr p ↦ without_past m x (xs ++ n ∷ []) p ∙ ap (λ l. x ∷ l) (without_behind m n xs q) ∙ sym (ap (λ l. l ++ n ∷ []) (without_past m x xs p))
    ]

-- one that is there already adds nothing, one that is not stands last
pub once_there : (n : Need) (ms : List Need) → is_same_plain n n ≡ true → list_any (λ m. is_same_plain m n) ms ≡ true → each_once (ms ++ n ∷ []) ≡ each_once ms
once_there n [] self h = absurd (true≢false (sym h))
once_there n (m ∷ ms) self h =
    elim (cases_Bool (is_same_plain m n)) [
      | inl p ↦ ap (λ l. m ∷ l) (ap (λ k. without k (each_once (ms ++ n ∷ []))) (same_sound m n p) ∙ without_last n ms self ∙ sym (ap (λ k. without k (each_once ms)) (same_sound m n p)))
      | inr p ↦ ap (λ l. m ∷ without m l) (once_there n ms self (ap (λ t. t || list_any (λ m. is_same_plain m n) ms) (sym p) ∙ h))
    ]

pub once_new : (n : Need) (ms : List Need) → list_any (λ m. is_same_plain m n) ms ≡ false → each_once (ms ++ n ∷ []) ≡ each_once ms ++ n ∷ []
once_new n [] h = refl
once_new n (m ∷ ms) h =
    elim (cases_Bool (is_same_plain m n)) [
      | inl p ↦ absurd (true≢false (sym (ap (λ t. t || list_any (λ m. is_same_plain m n) ms) p) ∙ h))
      | inr p ↦ ap (λ l. m ∷ l) (ap (without m) (once_new n ms (sym (ap (λ t. t || list_any (λ m. is_same_plain m n) ms) p) ∙ h)) ∙ without_behind m n (each_once ms) p)
    ]
