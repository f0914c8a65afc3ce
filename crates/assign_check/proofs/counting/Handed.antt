-- How often parts of a block assign a variable, and what the branches of an `if` hand up.
use Rattle.std.specs.Prelude.{◌≡◌, ◌⊎◌, ℕ, ◌+◌, ◌<◌, Bool, true, false, ◌&&◌, ◌||◌, cond, List, [], ◌∷◌, ◌++◌, map, drop, length, get_or, Option, refl}
use Rattle.std.specs.List.{list_any}
use Rattle.std.proofs.Common.{zero, suc, inl, inr, sym, ap, ap₂, ◌∙◌, arith}
use Rattle.std.proofs.lemmas.List.{drop_more}
use Rattle.lexer.specs.declared.token.Span.{Span}
use Rattle.language.specs.Core.{Owned}
use Rattle.language.specs.Members.{◌∈◌}
use Rattle.language.proofs.Members.{to_left, to_right}
use Rattle.types.specs.Typed.{owned_name}
use Rattle.assign_check.specs.declared.counts.count.AssignCounts.{AssignCounts}
use Rattle.assign_check.specs.declared.fault.AssignFault.{AssignFault}
use Rattle.assign_check.specs.declared.fault.AssignFault.TheVariants.{PartlyAssigned}
use Rattle.assign_check.specs.Outline.{Kind, named, Outline, nothing, followed, outlined, Step, declares, uses, splits, repeats, encloses}
use Rattle.assign_check.specs.Faults.{same, one_if, times, is_among, is_before, is_outer, named_by, way, step_way, sums, counts, step_counts, is_uneven, branch_faults, split_faults, split_step, first_among}
use Rattle.assign_check.specs.Sets.{numbers, Same, differ, names, part_sums, parts_apart}
use Rattle.assign_check.proofs.faults.Answered.{first_among-append}
use Rattle.assign_check.proofs.counting.Counts.{same_is, times_zero, among_in, any_false, false_any}
use Rattle.assign_check.proofs.counting.Even.{owned_in}
use Rattle.assign_check.proofs.counting.Sums.{same_self, same_from, turned, same_on, both_same, sums_same, sums_swap, sums_group, zero_first, zero_last, twice_zero, differ_same, not_differ}
use Rattle.std.proofs.lemmas.Bool.{false_from_ne_true}

-- PARTS

pub pushed_part : (x : Owned) (ps : List AssignCounts) (p : AssignCounts) → Same (part_sums x (ps ++ p ∷ [])) (sums (part_sums x ps) (cond (same (owned_name p.of) x) (numbers p.set.items) (0 ∷ [])))
pushed_part x [] p = by (same (owned_name p.of) x)
  where
    by : (b : Bool) → Same (cond b (sums (numbers p.set.items) (0 ∷ [])) (0 ∷ [])) (sums (0 ∷ []) (cond b (numbers p.set.items) (0 ∷ [])))
    by true = same_on (zero_last (numbers p.set.items)) (turned (zero_first (numbers p.set.items)))
    by false = turned (zero_first (0 ∷ []))
pushed_part x (q ∷ ps) p = by (same (owned_name q.of) x) (pushed_part x ps p)
  where
    one : List ℕ
    one = cond (same (owned_name p.of) x) (numbers p.set.items) (0 ∷ [])

    by : (b : Bool) → Same (part_sums x (ps ++ p ∷ [])) (sums (part_sums x ps) one)
        → Same (cond b (sums (numbers q.set.items) (part_sums x (ps ++ p ∷ []))) (part_sums x (ps ++ p ∷ []))) (sums (cond b (sums (numbers q.set.items) (part_sums x ps)) (part_sums x ps)) one)
    by true h = same_on (sums_same (numbers q.set.items) (numbers q.set.items) (part_sums x (ps ++ p ∷ [])) (sums (part_sums x ps) one) (same_self (numbers q.set.items)) h)
        (turned (sums_group (numbers q.set.items) (part_sums x ps) one))
    by false h = h

pub no_part : (x : Owned) (ps : List AssignCounts) → is_among x (names ps) ≡ false → part_sums x ps ≡ 0 ∷ []
no_part x [] h = refl
no_part x (p ∷ ps) h = by (same (owned_name p.of) x) h (λ k. no_part x ps k)
  where
    by : (b : Bool) → (b || is_among x (names ps)) ≡ false → (is_among x (names ps) ≡ false → part_sums x ps ≡ 0 ∷ []) → cond b (sums (numbers p.set.items) (part_sums x ps)) (part_sums x ps) ≡ 0 ∷ []
    by true k rec = absurd (cc (k))
    by false k rec = rec k

-- a variable of no part is not that of one of them
pub not_named : (x : Owned) (ps : List AssignCounts) (i : ℕ) (p : AssignCounts) → i < length ps → p ≡ get_or ps i p → is_among x (names ps) ≡ false → same (owned_name p.of) x ≡ false
not_named x [] i p below is h = absurd (omega arith)
not_named x (q ∷ ps) zero p below is h = by (same (owned_name q.of) x) refl h
  where
    by : (b : Bool) → same (owned_name q.of) x ≡ b → (b || is_among x (names ps)) ≡ false → same (owned_name p.of) x ≡ false
    by true e k = absurd (cc (k))
    by false e k = ap (λ (z : AssignCounts). same (owned_name z.of) x) is ∙ e
not_named x (q ∷ ps) (suc i) p below is h = by (same (owned_name q.of) x) h (λ k. not_named x ps i p (omega arith) is k)
  where
    by : (b : Bool) → (b || is_among x (names ps)) ≡ false → (is_among x (names ps) ≡ false → same (owned_name p.of) x ≡ false) → same (owned_name p.of) x ≡ false
    by true k rec = absurd (cc (k))
    by false k rec = rec k

-- ADDING

-- one more part is added to the sets
pub added_part : (x y : Owned) (old new sum : List Bool) (set : List Bool) (rest : List ℕ) → new ≡ cond (same y x) sum old → (y ≡ x → Same (numbers sum) (sums (numbers set) (numbers old)))
    → Same (sums (numbers new) rest) (sums (numbers old) (cond (same y x) (sums (numbers set) rest) rest))
added_part x y old new sum set rest is adds = by (same y x) refl is
  where
    by : (b : Bool) → same y x ≡ b → new ≡ cond b sum old → Same (sums (numbers new) rest) (sums (numbers old) (cond b (sums (numbers set) rest) rest))
    by true e q =
        let here = same_on (same_from (ap numbers q)) (same_on (adds (same_is y x e)) (sums_swap (numbers set) (numbers old))) in
        same_on (sums_same (numbers new) (sums (numbers old) (numbers set)) rest rest here (same_self rest)) (sums_group (numbers old) (numbers set) rest)
    by false e q = same_from (ap (λ (z : List Bool). sums (numbers z) rest) q)

-- HANDING UP

-- one more part is handed up, and its sets are emptied
pub handed_part : (x : Owned) (up : List AssignCounts) (p : AssignCounts) (up' : List AssignCounts) (one other one' other' of_one of_other : List Bool) → up' ≡ up ++ p ∷ []
    → (owned_name p.of ≡ x → (of_one ≡ one) × (of_other ≡ other)) → Same (numbers p.set.items) (numbers of_one ++ numbers of_other)
    → one' ≡ cond (same (owned_name p.of) x) [] one → other' ≡ cond (same (owned_name p.of) x) [] other
    → Same (sums (part_sums x up') (numbers one' ++ numbers other')) (sums (part_sums x up) (numbers one ++ numbers other))
handed_part x up p up' one other one' other' of_one of_other is at joins clears too =
    same_on (sums_same (part_sums x up') (sums (part_sums x up) (cond (same (owned_name p.of) x) (numbers p.set.items) (0 ∷ []))) (numbers one' ++ numbers other') (numbers one' ++ numbers other')
    (same_on (same_from (ap (part_sums x) is)) (pushed_part x up p)) (same_self (numbers one' ++ numbers other'))) (by (same (owned_name p.of) x) refl clears too)
  where
    by : (b : Bool) → same (owned_name p.of) x ≡ b → one' ≡ cond b [] one → other' ≡ cond b [] other
        → Same (sums (sums (part_sums x up) (cond b (numbers p.set.items) (0 ∷ []))) (numbers one' ++ numbers other')) (sums (part_sums x up) (numbers one ++ numbers other))
    by true e q r =
        let empty : Same (numbers one' ++ numbers other') (0 ∷ []) = same_on (same_from (ap₂ (λ (a b : List Bool). numbers a ++ numbers b) q r)) twice_zero in
        let there = at (same_is (owned_name p.of) x e) in
        let here : Same (numbers p.set.items) (numbers one ++ numbers other) = same_on joins (same_from (ap₂ (λ (a b : List Bool). numbers a ++ numbers b) there.0 there.1)) in
        same_on
        (sums_same (sums (part_sums x up) (numbers p.set.items)) (sums (part_sums x up) (numbers one ++ numbers other)) (numbers one' ++ numbers other') (0 ∷ [])
        (sums_same (part_sums x up) (part_sums x up) (numbers p.set.items) (numbers one ++ numbers other) (same_self (part_sums x up)) here) empty)
        (zero_last (sums (part_sums x up) (numbers one ++ numbers other)))
    by false e q r =
        sums_same (sums (part_sums x up) (0 ∷ [])) (part_sums x up) (numbers one' ++ numbers other') (numbers one ++ numbers other) (zero_last (part_sums x up))
        (same_from (ap₂ (λ (a b : List Bool). numbers a ++ numbers b) q r))

-- a set that is emptied, and those of the variables that follow
pub emptied : (x y : Owned) (ns : List Owned) (old new : List Bool) → new ≡ cond (same y x) [] old → cond (is_among x ns) [] new ≡ cond (is_among x (y ∷ ns)) [] old
emptied x y ns old new is = by (same y x) is (is_among x ns)
  where
    by : (b : Bool) → new ≡ cond b [] old → (a : Bool) → cond a [] new ≡ cond (b || a) [] old
    by true q true = refl
    by true q false = q
    by false q true = refl
    by false q false = q

pub names_more : (ps : List AssignCounts) (i : ℕ) (p : AssignCounts) → i < length ps → p ≡ get_or ps i p → names (drop i ps) ≡ owned_name p.of ∷ names (drop (i + 1) ps)
names_more ps i p below is = ap names (drop_more ps i p below) ∙ ap (λ (z : AssignCounts). owned_name z.of ∷ names (drop (i + 1) ps)) (sym is)

pub sums_more : (x : Owned) (ps : List AssignCounts) (i : ℕ) (p : AssignCounts) → i < length ps → p ≡ get_or ps i p
    → part_sums x (drop i ps) ≡ cond (same (owned_name p.of) x) (sums (numbers p.set.items) (part_sums x (drop (i + 1) ps))) (part_sums x (drop (i + 1) ps))
sums_more x ps i p below is =
    ap (part_sums x) (drop_more ps i p below)
    ∙ ap (λ (z : AssignCounts). cond (same (owned_name z.of) x) (sums (numbers z.set.items) (part_sums x (drop (i + 1) ps))) (part_sums x (drop (i + 1) ps))) (sym is)

-- both branches are handed up, and the sets are empty again
pub both_handed : (x : Owned) (ps qs : List AssignCounts) (one other one' other' one'' other'' : List Bool) → (is_among x (names ps) ≡ false → one ≡ []) → (is_among x (names qs) ≡ false → other ≡ [])
    → one' ≡ cond (is_among x (names ps)) [] one → one'' ≡ cond (is_among x (names qs)) [] one' → other' ≡ cond (is_among x (names ps)) [] other → other'' ≡ cond (is_among x (names qs)) [] other'
    → (one'' ≡ []) × (other'' ≡ [])
both_handed x ps qs one other one' other' one'' other'' h k a b c d = by (is_among x (names ps)) refl (is_among x (names qs)) refl a b c d
  where
    by : (v : Bool) → is_among x (names ps) ≡ v → (w : Bool) → is_among x (names qs) ≡ w → one' ≡ cond v [] one → one'' ≡ cond w [] one' → other' ≡ cond v [] other → other'' ≡ cond w [] other'
        → (one'' ≡ []) × (other'' ≡ [])
    by v e true f a b c d = (b, d)
    by true e false f a b c d = (b ∙ a, d ∙ c)
    by false e false f a b c d = (b ∙ a ∙ h e, d ∙ c ∙ k f)

-- sets that began empty
pub from_empty : (old : List Bool) (new ms : List ℕ) → old ≡ [] → Same new (sums (numbers old) ms) → Same new ms
from_empty old new ms none is = same_on is (same_on (same_from (ap (λ (s : List Bool). sums (numbers s) ms) none)) (zero_first ms))

pub handed_all : (up0 up1 up2 : List ℕ) (a0 b0 a1 b1 a2 b2 : List Bool) (ms ns : List ℕ) → (a2 ≡ []) × (b2 ≡ []) → Same (sums up2 (numbers a2 ++ numbers b2)) (sums up1 (numbers a1 ++ numbers b1))
    → Same (sums up1 (numbers a1 ++ numbers b1)) (sums up0 (numbers a0 ++ numbers b0)) → Same (numbers a0) ms → Same (numbers b0) ns → Same up2 (sums up0 (ms ++ ns))
handed_all up0 up1 up2 a0 b0 a1 b1 a2 b2 ms ns none last near one other =
    let nothing : Same (numbers a2 ++ numbers b2) (0 ∷ []) = same_on (same_from (ap₂ (λ (a b : List Bool). numbers a ++ numbers b) none.0 none.1)) twice_zero in
    same_on (turned (zero_last up2))
    (same_on (sums_same up2 up2 (0 ∷ []) (numbers a2 ++ numbers b2) (same_self up2) (turned nothing))
    (same_on last (same_on near (sums_same up0 up0 (numbers a0 ++ numbers b0) (ms ++ ns) (same_self up0) (both_same (numbers a0) ms (numbers b0) ns one other)))))

pub any_alike : (f g : Owned → Bool) (xs : List Owned) → ((x : Owned) → f x ≡ g x) → list_any f xs ≡ list_any g xs
any_alike f g [] h = refl
any_alike f g (x ∷ xs) h = ap₂ (λ (a b : Bool). a || b) (h x) (any_alike f g xs h)

-- one more step of a block
pub view_more : {X : Type 0} (view : X → Step) (xs : List X) (i : ℕ) (x : X) → i < length xs → x ≡ get_or xs i x
    → outlined (map view (drop i xs)) ≡ followed (view x) (outlined (map view (drop (i + 1) xs)))
view_more {X} view xs i x below is =
    ap (λ (ys : List X). outlined (map view ys)) (drop_more xs i x below) ∙ ap (λ (y : X). followed (view y) (outlined (map view (drop (i + 1) xs)))) (sym is)

pub counted_more : (l : Option ℕ) (x : Owned) (before now : List ℕ) (s : Step) (o whole : Outline) → Same now (sums before (step_counts l x s)) → whole ≡ followed s o
    → Same (sums now (counts l x o)) (sums before (counts l x whole))
counted_more l x before now s o whole adds is =
    same_on (sums_same now (sums before (step_counts l x s)) (counts l x o) (counts l x o) adds (same_self (counts l x o)))
    (same_on (sums_group before (step_counts l x s) (counts l x o)) (same_from (ap (λ (p : Outline). sums before (counts l x p)) (sym is))))

-- THE SAME FAULT

any_on : (f g : Owned → Bool) (xs ys : List Owned) → ((x : Owned) → f x ≡ g x) → ((x : Owned) → f x ≡ true → x ∈ ys) → list_any f xs ≡ true → list_any g ys ≡ true
any_on f g xs ys alike listed h = elim (either (list_any g ys) refl) [
  | inl e ↦ e
  | inr none ↦ (
      let no : false ≡ true = sym (any_false f xs (λ x i. false_from_ne_true (f x) (λ e.
      let there : true ≡ false = sym (sym (alike x) ∙ e) ∙ false_any g ys none x (listed x e) in
      absurd (cc (there))))) ∙ h in
      absurd (cc (no))
      )
]
  where
    either : (b : Bool) → list_any g ys ≡ b → (list_any g ys ≡ true) ⊎ (list_any g ys ≡ false)
    either true e = inl e
    either false e = inr e

pub any_same : (f g : Owned → Bool) (xs ys : List Owned) → ((x : Owned) → f x ≡ g x) → ((x : Owned) → f x ≡ true → x ∈ xs) → ((x : Owned) → g x ≡ true → x ∈ ys) → list_any f xs ≡ list_any g ys
any_same f g xs ys alike one other = by (list_any f xs) refl (list_any g ys) refl
  where
    to : list_any f xs ≡ true → list_any g ys ≡ true
    to h = any_on f g xs ys alike (λ x e. other x (sym (alike x) ∙ e)) h

    back : list_any g ys ≡ true → list_any f xs ≡ true
    back h = any_on g f ys xs (λ x. sym (alike x)) (λ x e. one x (alike x ∙ e)) h

    by : (a : Bool) → list_any f xs ≡ a → (b : Bool) → list_any g ys ≡ b → list_any f xs ≡ list_any g ys
    by true e true k = e ∙ sym k
    by false e false k = e ∙ sym k
    by true e false k = let no : true ≡ false = sym (to e) ∙ k in absurd (cc (no))
    by false e true k = let no : true ≡ false = sym (back k) ∙ e in absurd (cc (no))

mutual
  -- a variable that no way assigns counts nowhere
  unlisted : (l : Option ℕ) (x : Owned) (o : Outline) → (x ∈ way l o → ⊥) → Same (counts l x o) (0 ∷ [])
  unlisted l x nothing h = same_self (0 ∷ [])
  unlisted l x (followed s o) h =
      same_on (sums_same (step_counts l x s) (0 ∷ []) (counts l x o) (0 ∷ []) (unlisted_step l x s (λ i. h (to_left (step_way l s) (way l o) i))) (unlisted l x o (λ i. h (to_right (step_way l s) (way l o) i))))
      (zero_first (0 ∷ []))

  unlisted_step : (l : Option ℕ) (x : Owned) (s : Step) → (x ∈ step_way l s → ⊥) → Same (step_counts l x s) (0 ∷ [])
  unlisted_step l x (declares d) h = same_self (0 ∷ [])
  unlisted_step l x (uses u) h = same_from (ap (λ (n : ℕ). n ∷ []) (times_zero x (named_by l u.kind u.of) h))
  unlisted_step l x (splits n at p q) h =
      same_on (both_same (counts l x p) (0 ∷ []) (counts l x q) (0 ∷ []) (unlisted l x p (λ i. h (to_left (way l p) (way l q) i))) (unlisted l x q (λ i. h (to_right (way l p) (way l q) i)))) twice_zero
  unlisted_step l x (repeats n p) h = same_self (0 ∷ [])
  unlisted_step l x (encloses p) h = unlisted l x p h

behind_and : (a b : Bool) → (a && b) ≡ true → b ≡ true
behind_and true b h = h
behind_and false b h = absurd (cc (h))

-- what two lists of parts tell of an `if` is what its branches tell
pub same_branches : (l : Option ℕ) (n : ℕ) (p q : Outline) (ps qs : List AssignCounts) → ((x : Owned) → Same (part_sums x ps) (counts l x p)) → ((x : Owned) → Same (part_sums x qs) (counts l x q))
    → list_any (parts_apart n ps qs) (names ps ++ names qs) ≡ list_any (is_uneven l n p q) (way l p ++ way l q)
same_branches l n p q ps qs one other = any_same (parts_apart n ps qs) (is_uneven l n p q) (names ps ++ names qs) (way l p ++ way l q) alike in_names in_way
  where
    alike : (x : Owned) → parts_apart n ps qs x ≡ is_uneven l n p q x
    alike x = ap (λ (b : Bool). is_before n x && b) (differ_same (part_sums x ps) (counts l x p) (part_sums x qs) (counts l x q) (one x) (other x))

    in_names : (x : Owned) → parts_apart n ps qs x ≡ true → x ∈ (names ps ++ names qs)
    in_names x h = elim (owned_in x (names ps ++ names qs)) [
      | inl i ↦ i
      | inr none ↦ (
          let left = no_part x ps (false_from_ne_true (is_among x (names ps)) (λ e. none (to_left (names ps) (names qs) (among_in x (names ps) e)))) in
          let right = no_part x qs (false_from_ne_true (is_among x (names qs)) (λ e. none (to_right (names ps) (names qs) (among_in x (names qs) e)))) in
          let no : true ≡ false = sym (behind_and (is_before n x) (differ (part_sums x ps) (part_sums x qs)) h) ∙ not_differ (part_sums x ps) (part_sums x qs) (same_from (left ∙ sym right)) in
          absurd (cc (no))
          )
    ]

    in_way : (x : Owned) → is_uneven l n p q x ≡ true → x ∈ (way l p ++ way l q)
    in_way x h = elim (owned_in x (way l p ++ way l q)) [
      | inl i ↦ i
      | inr none ↦ (
          let left = unlisted l x p (λ i. none (to_left (way l p) (way l q) i)) in
          let right = unlisted l x q (λ i. none (to_right (way l p) (way l q) i)) in
          let no : true ≡ false = sym (behind_and (is_before n x) (differ (counts l x p) (counts l x q)) h) ∙ not_differ (counts l x p) (counts l x q) (same_on left (turned right)) in
          absurd (cc (no))
          )
    ]

pub split_best : (l : Option ℕ) (n : ℕ) (at : Span) (p q : Outline) (b b' a a' : Option AssignFault) (uneven : Bool) → b' ≡ first_among b (split_faults l p) → a ≡ first_among b' (split_faults l q)
    → uneven ≡ list_any (is_uneven l n p q) (way l p ++ way l q) → a' ≡ first_among a (cond uneven (PartlyAssigned at ∷ []) []) → a' ≡ first_among b (split_step l (splits n at p q))
split_best l n at p q b b' a a' uneven one other tells notes =
    notes
    ∙ ap (λ (v : Bool). first_among a (cond v (PartlyAssigned at ∷ []) [])) tells
    ∙ ap (λ (z : Option AssignFault). first_among z (branch_faults l n at p q)) (other ∙ ap (λ (z : Option AssignFault). first_among z (split_faults l q)) one ∙ sym (first_among-append b (split_faults l p) (split_faults l q)))
    ∙ sym (first_among-append b (split_faults l p ++ split_faults l q) (branch_faults l n at p q))

-- TARGETS

pub no_more_part : (ms : List ℕ) (n : ℕ) → n ≡ 0 → Same ms (sums ms (n ∷ []))
no_more_part ms n e = turned (same_on (same_from (ap (λ (k : ℕ). sums ms (k ∷ [])) e)) (zero_last ms))

pub outer_times : (l : Option ℕ) (k : Kind) (x y : Owned) → k ≡ named → true ≡ is_outer l y → times x (named_by l k y) ≡ 0
outer_times l k x y e out = ap (λ (z : Kind). times x (named_by l z y)) e ∙ ap (λ (b : Bool). times x (cond b [] (y ∷ []))) (sym out)

pub target_part : (l : Option ℕ) (k : Kind) (x : Owned) (ps qs : List AssignCounts) (p : AssignCounts) → k ≡ named → is_outer l (owned_name p.of) ≡ false → p.set.items ≡ false ∷ true ∷ [] → qs ≡ ps ++ p ∷ []
    → Same (part_sums x qs) (sums (part_sums x ps) (times x (named_by l k (owned_name p.of)) ∷ []))
target_part l k x ps qs p e out once is =
    same_on (same_from (ap (part_sums x) is)) (same_on (pushed_part x ps p) (same_from (ap (sums (part_sums x ps)) one)))
  where
    either : (b : Bool) → cond b (numbers (false ∷ true ∷ [])) (0 ∷ []) ≡ (one_if b + 0) ∷ []
    either true = refl
    either false = refl

    one : cond (same (owned_name p.of) x) (numbers p.set.items) (0 ∷ []) ≡ times x (named_by l k (owned_name p.of)) ∷ []
    one =
        ap (λ (s : List Bool). cond (same (owned_name p.of) x) (numbers s) (0 ∷ [])) once
        ∙ either (same (owned_name p.of) x)
        ∙ ap (λ (b : Bool). times x (cond b [] (owned_name p.of ∷ [])) ∷ []) (sym out)
        ∙ ap (λ (z : Kind). times x (named_by l z (owned_name p.of)) ∷ []) (sym e)
