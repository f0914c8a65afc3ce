-- Variables found by their numbers, and names counted at the places of their variables.
use Rattle.std.proofs.Common.{◌≡◌, ◌∙◌, refl, sym, ap, subst, ℕ, zero, suc, ◌+◌, ◌*◌, ◌<◌, ◌≤◌, List, [], ◌∷◌, ◌++◌, length, map, take, drop, Option, Some, None, Bool, true, false, arith}
use Rattle.std.specs.Prelude.{is_some, nat_eq, replicate, set, slice_index_or, if◌then◌else◌}
use Rattle.std.proofs.lemmas.Bool.{and_parts}
use Rattle.std.proofs.lemmas.List.{map-append}
use Rattle.board_history.specs.Static.{name_times, names_in}
use Rattle.task_code.proofs.Equal.{nat_same, nat_sound, name_sound, variable_same, variable_sound}
use Rattle.task_code.specs.Check.{is_declared}
use Rattle.task_code.specs.Code.{Body, body, Code, Entry, entry, here, Local, Name, Owned, Parameter, scalar, Variable}
use Rattle.task_code.specs.Places.{name_eq, variable_eq}
use Rattle.task_code.specs.View.{body_view, entry_view, name_view, variable_view}
use Rattle.task_code.specs.declared.code.Body.{Body as BodyValue}
use Rattle.task_code.specs.declared.entry.Entry.{Entry as EntryValue}
use Rattle.task_code.specs.declared.entry.Name.{Name as NameValue}
use Rattle.task_code.specs.declared.entry.Variable.{Variable as VariableValue}
use Rattle.board_program.proofs.Counts.{blank_there, place_told, times_append}
use Rattle.board_program.proofs.Homes.{cut, emptied, next, taken, whole}
use Rattle.board_program.specs.Places.{CountsMore, CountsOf, FindsPlaces, NotesPlace, counts_from, number_of, own_place, place_at, place_in, with_counts}
use Rattle.board_program.specs.Spots.{place_from}
use Rattle.board_program.specs.Tables.{first_count, is_place, names_of, own_from, shape_of}
use Rattle.board_program.specs.declared.variable_index.VariableIndex.{VariableIndex}
use Rattle.board_program.specs.declared.program.LocalVariable.{LocalVariable}

-- numbers of variables
both : (n m : ℕ) (b c : Bool) → 2 * n + (if b then 1 else 0) ≡ 2 * m + (if c then 1 else 0) → (n ≡ m) × (b ≡ c)
both n m true true h = (omega (arith, h), refl)
both n m true false h = absurd (omega (arith, h))
both n m false true h = absurd (omega (arith, h))
both n m false false h = (omega (arith, h), refl)

number_sound : (w v : Variable) → number_of w ≡ number_of v → w ≡ v
number_sound w v h = let p = both w.node v.node w.array v.array h in λ i. record { node = p.0 i; array = p.1 i }

no_both : ◌≡◌ {A = Bool} false true → ⊥
no_both h = absurd (cc)

numbers_apart : (w v : Variable) → nat_eq (number_of w) (number_of v) ≡ variable_eq w v
numbers_apart w v = by (nat_eq (number_of w) (number_of v)) (variable_eq w v) refl refl
  where
    by : (a b : Bool) → nat_eq (number_of w) (number_of v) ≡ a → variable_eq w v ≡ b → nat_eq (number_of w) (number_of v) ≡ variable_eq w v
    by true true p q = p ∙ sym q
    by false false p q = p ∙ sym q
    by true false p q = absurd (no_both (sym q ∙ subst (λ (z : Variable). variable_eq w z ≡ true) (number_sound w v (nat_sound _ _ p)) (variable_same w)))
    by false true p q = absurd (no_both (sym p ∙ subst (λ (z : Variable). nat_eq (number_of w) (number_of z) ≡ true) (variable_sound w v q) (nat_same (number_of w))))

-- a list of variables is noted from its end
pub none_found : (m : VariableIndex) (xs : List VariableValue) → ((n : ℕ) → place_at m n ≡ None) → (v : Variable) → place_in m v ≡ place_from (length xs) v (map variable_view (drop (length xs) xs))
none_found m xs h v = h (number_of v) ∙ sym (ap (λ l. place_from (length xs) v (map variable_view l)) (emptied xs (length xs) (omega arith)))

pub one_found : (old new : VariableIndex) (xs : List VariableValue) (i : ℕ) (d : VariableValue) → i < length xs → ((v : Variable) → place_in old v ≡ place_from (i + 1) v (map variable_view (drop (i + 1) xs))) → NotesPlace old new (number_of (variable_view (slice_index_or xs i d))) i → (v : Variable) → place_in new v ≡ place_from i v (map variable_view (drop i xs))
one_found old new xs i d h before noted v =
    noted.each (number_of v)
    ∙ ap (λ b. if b then Some i else place_in old v) (numbers_apart (variable_view (slice_index_or xs i d)) v)
    ∙ ap (λ p. if variable_eq (variable_view (slice_index_or xs i d)) v then Some i else p) (before v)
    ∙ ap (λ n. if variable_eq (variable_view (slice_index_or xs i d)) v then Some i else place_from n v (map variable_view (drop n xs))) (sym (next i))
    ∙ sym (ap (λ (l : List VariableValue). place_from i v (map variable_view l)) (cut xs i d h))

pub all_found : (m : VariableIndex) (xs : List VariableValue) → ((v : Variable) → place_in m v ≡ place_from 0 v (map variable_view xs)) → FindsPlaces (map variable_view xs) m
all_found m xs h = record { each = h }

-- what a name adds to the count of a variable at a place
some_same : (a b : ℕ) → ◌≡◌ {A = Option ℕ} (Some a) (Some b) → a ≡ b
some_same a b h = ap (λ o. elim o [ None ↦ 0 | Some n ↦ n ]) h

none_some : {A : Type 0} {n : ℕ} → ◌≡◌ {A = Option ℕ} None (Some n) → A
none_some h = absurd (cc)

module _ (ms : List Variable) (rs : List Name) (r : Name) where
  -- the variable is the name, and this is its first place
  abbrev IsCounted : ℕ → Variable → Type 0
  IsCounted k x = (place_from 0 x ms ≡ Some k) × (name_eq (here x) r ≡ true)

  at_first : (k : ℕ) (x : Variable) (p : Option ℕ) → (p ≡ Some k → name_eq (here x) r ≡ true → ⊥) → (if is_place k p then name_times (here x) (rs ++ r ∷ []) else 0) ≡ (if is_place k p then name_times (here x) rs else 0)
  at_first k x None never = refl
  at_first k x (Some j) never = by (nat_eq k j) refl
    where
      last : (n : ℕ) → n + (0 + 0) ≡ n
      last n = omega arith

      off : nat_eq k j ≡ true → (b : Bool) → name_eq (here x) r ≡ b → name_eq (here x) r ≡ false
      off q false z = z
      off q true z = absurd (never (ap Some (sym (nat_sound k j q))) z)

      by : (b : Bool) → nat_eq k j ≡ b → (if nat_eq k j then name_times (here x) (rs ++ r ∷ []) else 0) ≡ (if nat_eq k j then name_times (here x) rs else 0)
      by false q = ap (λ b. if b then name_times (here x) (rs ++ r ∷ []) else 0) q ∙ sym (ap (λ b. if b then name_times (here x) rs else 0) q)
      by true q = ap (λ n. if nat_eq k j then n else 0) (times_append (here x) rs (r ∷ []) ∙ ap (λ b. name_times (here x) rs + ((if b then 1 else 0) + 0)) (off q (name_eq (here x) r) refl) ∙ last _)

  first_same : (k : ℕ) (x : Variable) → (IsCounted k x → ⊥) → first_count ms k x (rs ++ r ∷ []) ≡ first_count ms k x rs
  first_same k x never = at_first k x (place_from 0 x ms) (λ e h. never (e, h))

  counts_same : (n : ℕ) (xs : List Variable) → ((k : ℕ) (x : Variable) → n ≤ k → IsCounted k x → ⊥) → counts_from ms (rs ++ r ∷ []) n xs ≡ counts_from ms rs n xs
  counts_same n [] never = refl
  counts_same n (x ∷ xs) never = λ i. first_same n x (never n x (omega arith)) i ∷ counts_same (suc n) xs (λ k y l. never k y (omega (arith, l))) i

-- the variable that a name is, at its first place
module _ (ms : List Variable) (rs : List Name) (v : Variable) where
  same_variable : (x : Variable) → name_eq (here x) (here v) ≡ true → x ≡ v
  same_variable x h = ap (λ (s : Name). owner s.owned) (name_sound (here x) (here v) h)
    where
      owner : Owned → Variable
      owner (Local w) = w
      owner (Parameter n b) = v

  same_place : (j : ℕ) (x : Variable) → IsCounted ms rs (here v) j x → place_from 0 v ms ≡ Some j
  same_place j x h = ap (λ z. place_from 0 z ms) (sym (same_variable x h.1)) ∙ h.0

  nat_true : (k : ℕ) (x y : ℕ) → (if nat_eq k k then x else y) ≡ x
  nat_true k x y = ap (λ b. if b then x else y) (nat_same k)

  here_true : name_eq (here v) (here v) ≡ true
  here_true = variable_same v

  module _ (k : ℕ) (p : place_from 0 v ms ≡ Some k) where
    first_more : first_count ms k v (rs ++ here v ∷ []) ≡ 1 + first_count ms k v rs
    first_more =
        ap (λ q. if is_place k q then name_times (here v) (rs ++ here v ∷ []) else 0) p
        ∙ nat_true k (name_times (here v) (rs ++ here v ∷ [])) 0
        ∙ times_append (here v) rs (here v ∷ [])
        ∙ ap (λ b. name_times (here v) rs + ((if b then 1 else 0) + 0)) here_true
        ∙ turn (name_times (here v) rs)
        ∙ ap (λ n. 1 + n) (sym (nat_true k (name_times (here v) rs) 0) ∙ sym (ap (λ q. if is_place k q then name_times (here v) rs else 0) p))
      where
        turn : (n : ℕ) → n + (1 + 0) ≡ 1 + n
        turn n = omega arith

    -- the count at that place, and no other, is one more
    counts_set : (n j : ℕ) (xs : List Variable) (d : Variable) → n + j ≡ k → j < length xs → slice_index_or xs j d ≡ v → set (counts_from ms rs n xs) j (1 + slice_index_or (counts_from ms rs n xs) j 0) ≡ counts_from ms (rs ++ here v ∷ []) n xs
    counts_set n j [] d e l s = absurd (omega (arith, l))
    counts_set n zero (x ∷ xs) d e l s = λ i. head i ∷ sym (counts_same ms rs (here v) (suc n) xs (λ q y m h. absurd (omega (arith, e, m, some_same k q (sym p ∙ same_place q y h))))) i
      where
        at_k : n ≡ k
        at_k = omega (arith, e)

        head : 1 + first_count ms n x rs ≡ first_count ms n x (rs ++ here v ∷ [])
        head =
            ap (λ y. 1 + first_count ms n y rs) s
            ∙ ap (λ m. 1 + first_count ms m v rs) at_k
            ∙ sym first_more
            ∙ ap (λ m. first_count ms m v (rs ++ here v ∷ [])) (sym at_k)
            ∙ ap (λ y. first_count ms n y (rs ++ here v ∷ [])) (sym s)
    counts_set n (suc j) (x ∷ xs) d e l s = λ i. sym (first_same ms rs (here v) n x (λ h. absurd (omega (arith, e, some_same k n (sym p ∙ same_place n x h))))) i ∷ counts_set (suc n) j xs d (omega (arith, e)) (omega (arith, l)) s i

-- a variable stands at its first place
place_there : (v : Variable) (n : ℕ) (xs : List Variable) (k : ℕ) (d : Variable) → place_from n v xs ≡ Some k → (j : ℕ) × (n + j ≡ k) × (j < length xs) × (slice_index_or xs j d ≡ v)
place_there v n [] k d h = none_some h
place_there v n (x ∷ xs) k d h = by (variable_eq x v) refl (place_there v (suc n) xs k d)
  where
    by : (b : Bool) → variable_eq x v ≡ b → (place_from (suc n) v xs ≡ Some k → (j : ℕ) × (suc n + j ≡ k) × (j < length xs) × (slice_index_or xs j d ≡ v)) → (j : ℕ) × (n + j ≡ k) × (j < length (x ∷ xs)) × (slice_index_or (x ∷ xs) j d ≡ v)
    by true e f = let q = some_same n k (sym (ap (λ b. if b then Some n else place_from (suc n) v xs) e) ∙ h) in (0, omega (arith, q), omega arith, variable_sound x v e)
    by false e f =
        let r = f (sym (ap (λ b. if b then Some n else place_from (suc n) v xs) e) ∙ h) in
        (suc r.0, omega (arith, r.1), omega (arith, r.2), r.3)

counts_length : (ms : List Variable) (rs : List Name) (n : ℕ) (xs : List Variable) → length (counts_from ms rs n xs) ≡ length xs
counts_length ms rs n [] = refl
counts_length ms rs n (x ∷ xs) = ap suc (counts_length ms rs (suc n) xs)

module _ (m : VariableIndex) where
  -- one name
  pub one_counted : (r : Name) (old : List ℕ) (k x : ℕ) (d : ℕ) → own_place m r ≡ Some k → k < length old → x ≡ slice_index_or old k d + 1 → CountsMore m (r ∷ []) old (set old k x)
  one_counted r old k x d e l q = by r.up r.owned e
    where
      same_index : (xs : List ℕ) (i : ℕ) (a b : ℕ) → i < length xs → slice_index_or xs i a ≡ slice_index_or xs i b
      same_index [] i a b h = absurd (omega (arith, h))
      same_index (y ∷ xs) zero a b h = refl
      same_index (y ∷ xs) (suc i) a b h = same_index xs i a b (omega (arith, h))

      at_it : (k j : ℕ) → 0 + j ≡ k → k ≡ j
      at_it k j h = omega (arith, h)

      commute : (n : ℕ) → n + 1 ≡ 1 + n
      commute n = omega arith

      local : (v : Variable) → place_in m v ≡ Some k → CountsMore m (here v ∷ []) old (set old k x)
      local v p = record {
        counts = λ ms rs f c.
            let there = place_there v 0 ms k v (sym (f.each v) ∙ p) in
            ap (λ y. set old k y) (q ∙ ap (λ n. n + 1) (same_index old k d 0 l) ∙ commute (slice_index_or old k 0))
            ∙ ap (λ cs. set cs k (1 + slice_index_or cs k 0)) c
            ∙ ap (λ j. set (counts_from ms rs 0 ms) j (1 + slice_index_or (counts_from ms rs 0 ms) j 0)) (at_it k there.0 there.1)
            ∙ counts_set ms rs v k (sym (f.each v) ∙ p) 0 there.0 ms v there.1 there.2 there.3;
      }

      by : (up : ℕ) (x' : Owned) → own_place m (record { up = up; owned = x' }) ≡ Some k → CountsMore m (record { up = up; owned = x' } ∷ []) old (set old k x)
      by zero (Local v) p = local v p
      by zero (Parameter n a) p = none_some p
      by (suc up) x' p = none_some p

  -- what is no variable of the block changes no count
  pub none_counted : (r : Name) (old : List ℕ) → own_place m r ≡ None → CountsMore m (r ∷ []) old old
  none_counted r old e = by r.up r.owned e
    where
      other : (s : Name) → ((v : Variable) → name_eq (here v) s ≡ true → ⊥) → CountsMore m (s ∷ []) old old
      other s never = record { counts = λ ms rs f c. c ∙ sym (counts_same ms rs s 0 ms (λ k x l h. never x h.1)) }

      no_truth : ◌≡◌ {A = Bool} false true → ⊥
      no_truth h = absurd (cc)

      by : (up : ℕ) (x : Owned) → own_place m (record { up = up; owned = x }) ≡ None → CountsMore m (record { up = up; owned = x } ∷ []) old old
      by zero (Local v) p = record { counts = λ ms rs f c. c ∙ sym (counts_same ms rs (here v) 0 ms (λ k x l h. none_some (sym (sym (f.each v) ∙ p) ∙ same_place ms rs v k x h))) }
      by zero (Parameter n a) p = other (record { up = zero; owned = Parameter n a }) (λ v h. no_truth h)
      by (suc up) x p = other (record { up = suc up; owned = x }) (λ v h. absurd (omega (arith, nat_sound 0 (suc up) (and_parts (nat_eq 0 (suc up)) _ h).0)))

  -- a place past the counts is none's
  pub past_counted : (r : Name) (old : List ℕ) (k : ℕ) → own_place m r ≡ Some k → length old ≤ k → CountsMore m (r ∷ []) old old
  past_counted r old k e l = by r.up r.owned e
    where
      by : (up : ℕ) (x : Owned) → own_place m (record { up = up; owned = x }) ≡ Some k → CountsMore m (record { up = up; owned = x } ∷ []) old old
      by zero (Local v) p = record {
        counts = λ ms rs f c.
            let there = place_there v 0 ms k v (sym (f.each v) ∙ p) in
            let long = ap length c ∙ counts_length ms rs 0 ms in
            absurd (omega (arith, l, long, there.1, there.2));
      }
      by zero (Parameter n a) p = none_some p
      by (suc up) x p = none_some p

  -- names one after the other
  pub counted_none : (xs : List NameValue) (cs : List ℕ) → CountsMore m (map name_view (take 0 xs)) cs cs
  counted_none xs cs = record { counts = λ ms rs f c. c ∙ ap (λ l. counts_from ms l 0 ms) (sym (right rs)) }
    where
      right : (l : List Name) → l ++ [] ≡ l
      right [] = refl
      right (y ∷ l) = ap (λ z. y ∷ z) (right l)

  more_after : (rs ss : List Name) (old mid new : List ℕ) → CountsMore m rs old mid → CountsMore m ss mid new → CountsMore m (rs ++ ss) old new
  more_after rs ss old mid new f g = record { counts = λ ms qs h c. g.counts ms (qs ++ rs) h (f.counts ms qs h c) ∙ ap (λ l. counts_from ms l 0 ms) (joined qs rs ss) }
    where
      joined : (xs ys zs : List Name) → (xs ++ ys) ++ zs ≡ xs ++ (ys ++ zs)
      joined [] ys zs = refl
      joined (x ∷ xs) ys zs = ap (λ l. x ∷ l) (joined xs ys zs)

  pub counted_next : (xs : List NameValue) (i : ℕ) (d : NameValue) (old mid new : List ℕ) → i < length xs → CountsMore m (map name_view (take i xs)) old mid → CountsMore m (name_view (slice_index_or xs i d) ∷ []) mid new → CountsMore m (map name_view (take (i + 1) xs)) old new
  counted_next xs i d old mid new l f g = subst (λ rs. CountsMore m rs old new) (sym (ap (map name_view) (taken xs i d l) ∙ map-append name_view (take i xs) (slice_index_or xs i d ∷ []))) (more_after _ _ old mid new f g)

  pub counted_all : (xs : List NameValue) (i : ℕ) (old new : List ℕ) → length xs ≤ i → CountsMore m (map name_view (take i xs)) old new → CountsMore m (map name_view xs) old new
  counted_all xs i old new l f = subst (λ l. CountsMore m (map name_view l) old new) (whole xs i l) f

  -- entries one after the other
  module _ (C : Code) (many : ℕ) where
    pub all_none : (cs : List ℕ) → cs ≡ replicate many 0 → CountsOf m many [] cs
    all_none cs h = record { counts = λ ms f l. h ∙ ap (λ n. replicate n 0) (sym l) ∙ zeros ms 0 ms }
      where
        zero_if : (b : Bool) → ◌≡◌ {A = ℕ} 0 (if b then 0 else 0)
        zero_if true = refl
        zero_if false = refl

        zeros : (ms : List Variable) (n : ℕ) (xs : List Variable) → replicate (length xs) 0 ≡ counts_from ms [] n xs
        zeros ms n [] = refl
        zeros ms n (x ∷ xs) = λ i. zero_if (is_place n (place_from 0 x ms)) i ∷ zeros ms (suc n) xs i

    names_more : (rights : Entry → List Name) (js : List ℕ) (i d : ℕ) → i < length js → names_of C rights (take (i + 1) js) ≡ names_of C rights (take i js) ++ rights (entry C (slice_index_or js i d))
    names_more rights js i d l = ap (names_of C rights) (taken js i d l) ∙ spread (take i js) (slice_index_or js i d)
      where
        right : (l : List Name) → l ++ [] ≡ l
        right [] = refl
        right (y ∷ l) = ap (λ z. y ∷ z) (right l)

        joined : (xs ys zs : List Name) → xs ++ (ys ++ zs) ≡ (xs ++ ys) ++ zs
        joined [] ys zs = refl
        joined (x ∷ xs) ys zs = ap (λ l. x ∷ l) (joined xs ys zs)

        spread : (is : List ℕ) (j : ℕ) → names_of C rights (is ++ j ∷ []) ≡ names_of C rights is ++ rights (entry C j)
        spread [] j = right (rights (entry C j))
        spread (i ∷ is) j = ap (λ l. rights (entry C i) ++ l) (spread is j) ∙ joined (rights (entry C i)) (names_of C rights is) (rights (entry C j))

    one_entry : (rights : Entry → List Name) (js : List ℕ) (i d : ℕ) (more : List Name) (old new : List ℕ) → i < length js → more ≡ rights (entry C (slice_index_or js i d)) → CountsOf m many (names_of C rights (take i js)) old → CountsMore m more old new → CountsOf m many (names_of C rights (take (i + 1) js)) new
    one_entry rights js i d more old new l q f g = record { counts = λ ms h n. g.counts ms (names_of C rights (take i js)) h (f.counts ms h n) ∙ ap (λ rs. counts_from ms (names_of C rights (take i js) ++ rs) 0 ms) q ∙ ap (λ rs. counts_from ms rs 0 ms) (sym (names_more rights js i d l)) }

    pub reads_next : (js : List ℕ) (i d : ℕ) (e : EntryValue) (old new : List ℕ) → i < length js → entry_view e ≡ entry C (slice_index_or js i d) → CountsOf m many (names_of C (λ e. e.reads) (take i js)) old → CountsMore m (map name_view e.reads.items) old new → CountsOf m many (names_of C (λ e. e.reads) (take (i + 1) js)) new
    reads_next js i d e old new l q f g = one_entry (λ x. x.reads) js i d (map name_view e.reads.items) old new l (ap (λ (x : Entry). x.reads) q) f g

    pub writes_next : (js : List ℕ) (i d : ℕ) (e : EntryValue) (old new : List ℕ) → i < length js → entry_view e ≡ entry C (slice_index_or js i d) → CountsOf m many (names_of C (λ e. e.writes) (take i js)) old → CountsMore m (map name_view e.writes.items) old new → CountsOf m many (names_of C (λ e. e.writes) (take (i + 1) js)) new
    writes_next js i d e old new l q f g = one_entry (λ x. x.writes) js i d (map name_view e.writes.items) old new l (ap (λ (x : Entry). x.writes) q) f g

    pub reads_past : (js : List ℕ) (i d : ℕ) (old : List ℕ) → i < length js → length C.entries ≤ slice_index_or js i d → CountsOf m many (names_of C (λ e. e.reads) (take i js)) old → CountsOf m many (names_of C (λ e. e.reads) (take (i + 1) js)) old
    reads_past js i d old l q f = one_entry (λ x. x.reads) js i d [] old old l (sym (ap (λ (x : Entry). x.reads) (blank_there C.entries (slice_index_or js i d) q))) f (counted_none [] old)

    pub writes_past : (js : List ℕ) (i d : ℕ) (old : List ℕ) → i < length js → length C.entries ≤ slice_index_or js i d → CountsOf m many (names_of C (λ e. e.writes) (take i js)) old → CountsOf m many (names_of C (λ e. e.writes) (take (i + 1) js)) old
    writes_past js i d old l q f = one_entry (λ x. x.writes) js i d [] old old l (sym (ap (λ (x : Entry). x.writes) (blank_there C.entries (slice_index_or js i d) q))) f (counted_none [] old)

    pub all_entries : (rights : Entry → List Name) (js : List ℕ) (i : ℕ) (cs : List ℕ) → length js ≤ i → CountsOf m many (names_of C rights (take i js)) cs → CountsOf m many (names_of C rights js) cs
    all_entries rights js i cs l f = subst (λ l. CountsOf m many (names_of C rights l) cs) (whole js i l) f

  -- variables with their counts
  own_counted : (xs : List VariableValue) (rs ws : List Name) (cs ds : List ℕ) → FindsPlaces (map variable_view xs) m → CountsOf m (length xs) rs cs → CountsOf m (length xs) ws ds → with_counts 0 cs ds (map variable_view xs) ≡ own_from (map variable_view xs) rs ws 0 (map variable_view xs)
  own_counted xs rs ws cs ds f g h =
      let ms = map variable_view xs in
      ap (λ l. with_counts 0 l ds ms) (g.counts ms f (mapped xs))
      ∙ ap (λ l. with_counts 0 (counts_from ms rs 0 ms) l ms) (h.counts ms f (mapped xs))
      ∙ each ms rs ws 0 ms (λ j d l. ap (λ k. slice_index_or (counts_from ms rs 0 ms) k 0) (zeroed j) ∙ at ms rs 0 j ms d l) (λ j d l. ap (λ k. slice_index_or (counts_from ms ws 0 ms) k 0) (zeroed j) ∙ at ms ws 0 j ms d l)
    where
      zeroed : (j : ℕ) → 0 + j ≡ j
      zeroed j = omega arith

      mapped : (ys : List VariableValue) → length (map variable_view ys) ≡ length ys
      mapped [] = refl
      mapped (y ∷ ys) = ap suc (mapped ys)

      at : (ms : List Variable) (qs : List Name) (n j : ℕ) (ys : List Variable) (d : Variable) → j < length ys → slice_index_or (counts_from ms qs n ys) j 0 ≡ first_count ms (n + j) (slice_index_or ys j d) qs
      at ms qs n j [] d l = absurd (omega (arith, l))
      at ms qs n zero (y ∷ ys) d l = ap (λ k. first_count ms k y qs) (sums n)
        where
          sums : (n : ℕ) → n ≡ n + 0
          sums n = omega arith
      at ms qs n (suc j) (y ∷ ys) d l = at ms qs (suc n) j ys d (omega (arith, l)) ∙ ap (λ k. first_count ms k (slice_index_or ys j d) qs) (sums n j)
        where
          sums : (n j : ℕ) → suc n + j ≡ n + suc j
          sums n j = omega arith

      each : (ms : List Variable) (qs us : List Name) (n : ℕ) (ys : List Variable) → ((j : ℕ) (d : Variable) → j < length ys → slice_index_or (counts_from ms qs 0 ms) (n + j) 0 ≡ first_count ms (n + j) (slice_index_or ys j d) qs) → ((j : ℕ) (d : Variable) → j < length ys → slice_index_or (counts_from ms us 0 ms) (n + j) 0 ≡ first_count ms (n + j) (slice_index_or ys j d) us) → with_counts n (counts_from ms qs 0 ms) (counts_from ms us 0 ms) ys ≡ own_from ms qs us n ys
      each ms qs us n [] a b = refl
      each ms qs us n (y ∷ ys) a b =
          λ i. record { shape = shape_of y.array; reads = here_at qs a i; writes = here_at us b i } ∷ each ms qs us (suc n) ys (later qs a) (later us b) i
        where
          here_at : (ps : List Name) → ((j : ℕ) (d : Variable) → j < length (y ∷ ys) → slice_index_or (counts_from ms ps 0 ms) (n + j) 0 ≡ first_count ms (n + j) (slice_index_or (y ∷ ys) j d) ps) → slice_index_or (counts_from ms ps 0 ms) n 0 ≡ first_count ms n y ps
          here_at ps c = subst (λ k. slice_index_or (counts_from ms ps 0 ms) k 0 ≡ first_count ms k y ps) (sums n) (c 0 y (omega arith))
            where
              sums : (n : ℕ) → n + 0 ≡ n
              sums n = omega arith

          later : (ps : List Name) → ((j : ℕ) (d : Variable) → j < length (y ∷ ys) → slice_index_or (counts_from ms ps 0 ms) (n + j) 0 ≡ first_count ms (n + j) (slice_index_or (y ∷ ys) j d) ps) → (j : ℕ) (d : Variable) → j < length ys → slice_index_or (counts_from ms ps 0 ms) (suc n + j) 0 ≡ first_count ms (suc n + j) (slice_index_or ys j d) ps
          later ps c j d l = subst (λ k. slice_index_or (counts_from ms ps 0 ms) k 0 ≡ first_count ms k (slice_index_or ys j d) ps) (sums n j) (c (suc j) d (omega (arith, l)))
            where
              sums : (n j : ℕ) → n + suc j ≡ suc n + j
              sums n j = omega arith

  pub own_told : (C : Code) (b : ℕ) (v : BodyValue) (cs ds : List ℕ) → body_view v ≡ body C b → FindsPlaces (body_view v).makes m → CountsOf m (length v.makes.items) (names_of C (λ e. e.reads) v.entries.items) cs → CountsOf m (length v.makes.items) (names_of C (λ e. e.writes) v.entries.items) ds → with_counts 0 cs ds (map variable_view v.makes.items) ≡ own_from (body C b).makes (names_in C (λ e. e.reads) b) (names_in C (λ e. e.writes) b) 0 (body C b).makes
  own_told C b v cs ds h f g k =
      own_counted v.makes.items (names_of C (λ e. e.reads) v.entries.items) (names_of C (λ e. e.writes) v.entries.items) cs ds f g k
      ∙ ap (λ (t : Body). own_from t.makes (names_of C (λ e. e.reads) t.entries) (names_of C (λ e. e.writes) t.entries) 0 t.makes) h

  -- a name that is found so is one that the body declares
  told : (C : Code) (b : ℕ) (r : Name) → FindsPlaces (body C b).makes m → is_some (own_place m r) ≡ is_declared C b r
  told C b r f = by r.up r.owned
    where
      by : (up : ℕ) (x : Owned) → is_some (own_place m (record { up = up; owned = x })) ≡ is_declared C b (record { up = up; owned = x })
      by zero (Local v) = ap is_some (f.each v) ∙ place_told v 0 (body C b).makes
      by zero (Parameter n a) = refl
      by (suc up) x = refl

  pub declared_if : (C : Code) (b : ℕ) (r : Name) (is : Bool) → FindsPlaces (body C b).makes m → is_some (own_place m r) ≡ is → is_declared C b r ≡ is
  declared_if C b r is f h = sym (told C b r f) ∙ h

-- counts of nothing, and variables one after the other
pub one_more_none : (n : ℕ) → ◌≡◌ {A = List ℕ} (replicate n 0 ++ 0 ∷ []) (replicate (n + 1) 0)
one_more_none zero = refl
one_more_none (suc n) = ap (λ l. 0 ∷ l) (one_more_none n) ∙ ap (λ m. replicate m 0) (later n)
  where
    later : (n : ℕ) → suc (n + 1) ≡ suc n + 1
    later n = omega arith

module _ (cs ds : List ℕ) where
  abbrev row : ℕ → Variable → LocalVariable
  row n v = record { shape = shape_of v.array; reads = slice_index_or cs n 0; writes = slice_index_or ds n 0 }

  pub owns_next : (xs : List VariableValue) (i : ℕ) (d : VariableValue) (all done : List LocalVariable) → i < length xs → all ≡ done ++ with_counts i cs ds (map variable_view (drop i xs)) → all ≡ (done ++ record { shape = shape_of (slice_index_or xs i d).array; reads = slice_index_or cs i 0; writes = slice_index_or ds i 0 } ∷ []) ++ with_counts (i + 1) cs ds (map variable_view (drop (i + 1) xs))
  owns_next xs i d all done h e =
      e
      ∙ ap (λ (l : List VariableValue). done ++ with_counts i cs ds (map variable_view l)) (cut xs i d h)
      ∙ ap (λ n. done ++ row i (variable_view (slice_index_or xs i d)) ∷ with_counts n cs ds (map variable_view (drop n xs))) (next i)
      ∙ seam done (row i (variable_view (slice_index_or xs i d))) (with_counts (i + 1) cs ds (map variable_view (drop (i + 1) xs)))
    where
      seam : (xs : List LocalVariable) (x : LocalVariable) (ys : List LocalVariable) → xs ++ x ∷ ys ≡ (xs ++ x ∷ []) ++ ys
      seam [] x ys = refl
      seam (z ∷ xs) x ys = ap (λ l. z ∷ l) (seam xs x ys)

  pub owns_all : (xs : List VariableValue) (i : ℕ) (all done : List LocalVariable) → length xs ≤ i → all ≡ done ++ with_counts i cs ds (map variable_view (drop i xs)) → done ≡ all
  owns_all xs i all done h e = sym (e ∙ ap (λ (l : List VariableValue). done ++ with_counts i cs ds (map variable_view l)) (emptied xs i h) ∙ right done)
    where
      right : (xs : List LocalVariable) → xs ++ [] ≡ xs
      right [] = refl
      right (x ∷ xs) = ap (λ l. x ∷ l) (right xs)

-- a scalar is found at its first place
pub scalar_placed : (ms : List Variable) (m : VariableIndex) (n : ℕ) → FindsPlaces ms m → place_in m (scalar n) ≡ place_from 0 (scalar n) ms
scalar_placed ms m n f = f.each (scalar n)
