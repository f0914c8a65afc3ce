-- The keys of a set of needs: equal keys are equal needs.
use Rattle.std.proofs.Common.{◌≡◌, inl, inr, Bool, true, false, ◌&&◌, ◌||◌, List, [], ◌∷◌, ◌++◌, map, ℕ, suc, refl, sym, ap, subst, ◌∙◌, true≢false, cond, ◌+◌, ◌≤◌, arith, length, append_assoc}
use Rattle.std.specs.Prelude.{if◌then◌else◌, Option, Some, None, position, nat_lt, slice_get, take}
use Rattle.std.specs.List.{list_any, position_or_len}
use Rattle.std.proofs.Math.Bool.{beq}
use Rattle.std.proofs.Math.Dec.{eqb}
use Rattle.std.proofs.lemmas.Bool.{eqb-true, eq-eqb, cases_Bool, and_from, and_parts}
use Rattle.std.proofs.lemmas.List.{map-append, append-nil, take_more}
use Rattle.std.proofs.lemmas.Option.{get_or_from_slice_get, slice_get_within}
use Rattle.std.proofs.lemmas.List.Recursion.{is_position_or_len}
use Rattle.indexmap.specs.IndexSet.{insert_key}
use Rattle.language.specs.Core as Core
use Rattle.task_code.specs.Code.{Owned, Local, Parameter, Name, Need, Stored, Closed, At, AtKey, is_array_owned}
use Rattle.task_code.specs.Shape.{is_same_plain}
use Rattle.task_code.proofs.Equal.{name_same}
use Rattle.code_rules.specs.CodeNames.{each_once, name_as, place_in}
use Rattle.code_rules.specs.Room.{Each}
use Rattle.emit_cells.specs.declared.needs.PlainNeed.{PlainNeed}
use Rattle.emit_cells.specs.PlainNeeds.{name_of, need_of, need_named, IsPlainAs, IsPlain, Noted, Notes}
use Rattle.emit_cells.proofs.Once.{same_sound, once_again, once_twice, once_there, once_new}

same_flag : (a b : Bool) → beq a b ≡ true → a ≡ b
same_flag true true h = refl
same_flag false false h = refl
same_flag true false h = sym h
same_flag false true h = h

-- two keys are the same where all their fields are
abbrev pub same_fields : PlainNeed → PlainNeed → Bool
same_fields a b = eqb a.up b.up && (beq a.local b.local && (eqb a.node b.node && (eqb a.place b.place && beq a.array b.array)))

pub same_wanted : (a b : PlainNeed) → same_fields a b ≡ true → a ≡ b
same_wanted a b h =
    let x = and_parts (eqb a.up b.up) _ h in
    let y = and_parts (beq a.local b.local) _ x.1 in
    let z = and_parts (eqb a.node b.node) _ y.1 in
    let w = and_parts (eqb a.place b.place) _ z.1 in
    let u : a.up ≡ b.up = eqb-true a.up b.up x.0 in
    let l : a.local ≡ b.local = same_flag a.local b.local y.0 in
    let n : a.node ≡ b.node = eqb-true a.node b.node z.0 in
    let p : a.place ≡ b.place = eqb-true a.place b.place w.0 in
    let r : a.array ≡ b.array = same_flag a.array b.array w.1 in
    λ i. record { up = u i; local = l i; node = n i; place = p i; array = r i }

flag_self : (b : Bool) → beq b b ≡ true
flag_self true = refl
flag_self false = refl

pub fields_self : (a : PlainNeed) → same_fields a a ≡ true
fields_self a =
    and_from (eqb a.up a.up) _ (eq-eqb a.up a.up refl)
    (and_from (beq a.local a.local) _ (flag_self a.local)
    (and_from (eqb a.node a.node) _ (eq-eqb a.node a.node refl)
    (and_from (eqb a.place a.place) _ (eq-eqb a.place a.place refl) (flag_self a.array))))

-- WHAT A NEED TELLS

abbrev name_in : Need → Name
name_in (Stored r) = r
name_in (Closed r) = r
name_in (At r i) = r
name_in (AtKey r k) = r

abbrev closed_in : Need → Bool
closed_in (Closed r) = true
closed_in _ = false

abbrev local_in : Owned → Bool
local_in (Local v) = true
local_in (Parameter p b) = false

abbrev node_in : Owned → ℕ
node_in (Local v) = v.node
node_in (Parameter p b) = 0

abbrev parameter_in : Owned → ℕ
parameter_in (Local v) = 0
parameter_in (Parameter p b) = p

abbrev owned_for : Bool → ℕ → ℕ → Bool → Owned
owned_for l n p b = if l then Local (record { node = n; array = b }) else Parameter p b

name_told : (b : Bool) (r : Name) → name_in (if b then Closed r else Stored r) ≡ r
name_told true r = refl
name_told false r = refl

closed_told : (b : Bool) (r : Name) → closed_in (if b then Closed r else Stored r) ≡ b
closed_told true r = refl
closed_told false r = refl

local_told : (l : Bool) (n p : ℕ) (b : Bool) → local_in (owned_for l n p b) ≡ l
local_told true n p b = refl
local_told false n p b = refl

node_told : (l : Bool) (n p : ℕ) (b : Bool) → IsPlainAs l n p → node_in (owned_for l n p b) ≡ n
node_told true n p b h = refl
node_told false n p b h = sym h

parameter_told : (l : Bool) (n p : ℕ) (b : Bool) → IsPlainAs l n p → parameter_in (owned_for l n p b) ≡ p
parameter_told true n p b h = sym h
parameter_told false n p b h = refl

need_tells : (a b : PlainNeed) → IsPlain a → IsPlain b → need_of a ≡ need_of b → a ≡ b
need_tells a b pa pb e =
    let name : name_of a ≡ name_of b = sym (name_told a.array (name_of a)) ∙ ap name_in e ∙ name_told b.array (name_of b) in
    let r : a.array ≡ b.array = sym (closed_told a.array (name_of a)) ∙ ap closed_in e ∙ closed_told b.array (name_of b) in
    let u : a.up ≡ b.up = ap (λ (x : Name). x.up) name in
    let l : a.local ≡ b.local = sym (local_told a.local a.node a.place a.array) ∙ ap (λ (x : Name). local_in x.owned) name ∙ local_told b.local b.node b.place b.array in
    let n : a.node ≡ b.node = sym (node_told a.local a.node a.place a.array pa) ∙ ap (λ (x : Name). node_in x.owned) name ∙ node_told b.local b.node b.place b.array pb in
    let p : a.place ≡ b.place = sym (parameter_told a.local a.node a.place a.array pa) ∙ ap (λ (x : Name). parameter_in x.owned) name ∙ parameter_told b.local b.node b.place b.array pb in
    λ i. record { up = u i; local = l i; node = n i; place = p i; array = r i }

self_as : (b : Bool) (r : Name) → is_same_plain (if b then Closed r else Stored r) (if b then Closed r else Stored r) ≡ true
self_as true r = name_same r
self_as false r = name_same r

pub need_self : (w : PlainNeed) → is_same_plain (need_of w) (need_of w) ≡ true
need_self w = self_as w.array (name_of w)

need_fields : (a b : PlainNeed) → IsPlain a → IsPlain b → need_of a ≡ need_of b → same_fields a b ≡ true
need_fields a b pa pb e = subst (λ c. same_fields a c ≡ true) (need_tells a b pa pb e) (fields_self a)

-- keys are told apart as needs are
pub same_test : (a b : PlainNeed) → IsPlain a → IsPlain b → same_fields a b ≡ is_same_plain (need_of a) (need_of b)
same_test a b pa pb =
    elim (cases_Bool (same_fields a b)) [
      | inl p ↦ p ∙ sym (subst (λ c. is_same_plain (need_of a) (need_of c) ≡ true) (same_wanted a b p) (need_self a))
      | inr p ↦ elim (cases_Bool (is_same_plain (need_of a) (need_of b))) [
        | inl q ↦ absurd (true≢false (sym (need_fields a b pa pb (same_sound (need_of a) (need_of b) q)) ∙ p))
        | inr q ↦ p ∙ sym q
      ]
    ]

pub same_test_back : (a b : PlainNeed) → IsPlain a → IsPlain b → same_fields a b ≡ is_same_plain (need_of b) (need_of a)
same_test_back a b pa pb =
    elim (cases_Bool (same_fields a b)) [
      | inl p ↦ p ∙ sym (subst (λ c. is_same_plain (need_of c) (need_of a) ≡ true) (same_wanted a b p) (need_self a))
      | inr p ↦ elim (cases_Bool (is_same_plain (need_of b) (need_of a))) [
        | inl q ↦ absurd (true≢false (sym (need_fields a b pa pb (sym (same_sound (need_of b) (need_of a) q))) ∙ p))
        | inr q ↦ p ∙ sym q
      ]
    ]

any_test : (w : PlainNeed) (ks : List PlainNeed) → IsPlain w → Each IsPlain ks → list_any (same_fields w) ks ≡ list_any (λ m. is_same_plain m (need_of w)) (map need_of ks)
any_test w [] pw h = refl
any_test w (k ∷ ks) pw (pk, h) = ap (λ t. t || list_any (same_fields w) ks) (same_test_back w k pw pk) ∙ ap (λ t. is_same_plain (need_of k) (need_of w) || t) (any_test w ks pw h)

each_behind : (ks : List PlainNeed) (w : PlainNeed) → Each IsPlain ks → IsPlain w → Each IsPlain (ks ++ w ∷ [])
each_behind [] w h pw = (pw, tt)
each_behind (k ∷ ks) w (pk, h) pw = (pk, each_behind ks w h pw)

-- one more need is noted
pub noted_one : (ks : List PlainNeed) (w : PlainNeed) → IsPlain w → Notes ks (insert_key same_fields ks w) (need_of w ∷ [])
noted_one ks w pw ns h =
    let ms = map need_of ks in
    let n = need_of w in
    let behind : each_once (ns ++ n ∷ []) ≡ each_once (ms ++ n ∷ []) = sym (once_again ns (n ∷ [])) ∙ ap (λ l. each_once (l ++ n ∷ [])) (sym h.are) in
    let once : each_once ms ≡ ms = ap each_once h.are ∙ once_twice ns ∙ sym h.are in
    let test = any_test w ks pw h.plain in
    elim (cases_Bool (list_any (same_fields w) ks)) [
      | inl t ↦ subst (Noted (ns ++ n ∷ [])) (sym (ap (λ c. if c then ks else ks ++ w ∷ []) t)) (record {
        are = sym (behind ∙ once_there n ms (need_self w) (sym test ∙ t) ∙ once);
        plain = h.plain;
      })
      | inr t ↦ subst (Noted (ns ++ n ∷ [])) (sym (ap (λ c. if c then ks else ks ++ w ∷ []) t)) (record {
        are = map-append need_of ks (w ∷ []) ∙ sym (behind ∙ once_new n ms (sym test ∙ t) ∙ ap (λ l. l ++ n ∷ []) once);
        plain = each_behind ks w h.plain pw;
      })
    ]

pub noted_none : Noted [] []
noted_none = record { are = refl; plain = tt }

-- the place of a need is that of its key
abbrev first_at : (PlainNeed → Bool) → List PlainNeed → ℕ
first_at p [] = 0
first_at p (x ∷ xs) = cond (p x) 0 (1 + first_at p xs)

one_more : (b : Bool) (n : ℕ) → cond b 0 (1 + n) ≡ (if b then 0 else suc n)
one_more true n = refl
one_more false n = omega arith

first_is : (w : PlainNeed) (ks : List PlainNeed) → IsPlain w → Each IsPlain ks → first_at (same_fields w) ks ≡ place_in (need_of w) (map need_of ks)
first_is w [] pw h = refl
first_is w (k ∷ ks) pw (pk, h) =
    ap (λ t. cond t 0 (1 + first_at (same_fields w) ks)) (same_test w k pw pk)
    ∙ ap (λ n. cond (is_same_plain (need_of w) (need_of k)) 0 (1 + n)) (first_is w ks pw h)
    ∙ one_more (is_same_plain (need_of w) (need_of k)) (place_in (need_of w) (map need_of ks))

pub place_is : (w : PlainNeed) (ks : List PlainNeed) → IsPlain w → Each IsPlain ks → position_or_len (same_fields w) ks ≡ place_in (need_of w) (map need_of ks)
place_is w ks pw h = sym (is_position_or_len (first_at (same_fields w)) (same_fields w) refl (λ x xs. refl) ks) ∙ first_is w ks pw h

-- what a name's need is
array_told : (l : Bool) (n p : ℕ) (b : Bool) → is_array_owned (owned_for l n p b) ≡ b
array_told true n p b = refl
array_told false n p b = refl

pub need_is_named : (w : PlainNeed) → need_of w ≡ need_named (name_of w)
need_is_named w = ap (λ b. if b then Closed (name_of w) else Stored (name_of w)) (sym (array_told w.local w.node w.place w.array))

first_within : (p : PlainNeed → Bool) (ks : List PlainNeed) → first_at p ks ≤ length ks
first_within p [] = omega arith
first_within p (k ∷ ks) = by (p k) (first_within p ks)
  where
    by : (b : Bool) → first_at p ks ≤ length ks → cond b 0 (1 + first_at p ks) ≤ length (k ∷ ks)
    by true h = omega arith
    by false h = omega arith

within : (p : PlainNeed → Bool) (ks : List PlainNeed) → position_or_len p ks ≤ length ks
within p ks = subst (λ n. n ≤ length ks) (is_position_or_len (first_at p) p refl (λ x xs. refl) ks) (first_within p ks)

some_is : (n m i : ℕ) → ◌≡◌ {A = Option ℕ} (Some i) (cond (nat_lt n m) (Some n) None) → i ≡ n
some_is n m i e = grind (arith, e)

none_is : (n m : ℕ) → ◌≡◌ {A = Option ℕ} None (cond (nat_lt n m) (Some n) None) → m ≤ n
none_is n m e = grind (arith, e)

pub some_place : (w : PlainNeed) (ks : List PlainNeed) (i : ℕ) → IsPlain w → Each IsPlain ks → ◌≡◌ {A = Option ℕ} (Some i) (position (same_fields w) ks) → i ≡ place_in (need_of w) (map need_of ks)
some_place w ks i pw h e = some_is (position_or_len (same_fields w) ks) (length ks) i e ∙ place_is w ks pw h

pub none_place : (w : PlainNeed) (ks : List PlainNeed) → IsPlain w → Each IsPlain ks → ◌≡◌ {A = Option ℕ} None (position (same_fields w) ks) → length ks ≡ place_in (need_of w) (map need_of ks)
none_place w ks pw h e =
    let le : length ks ≤ position_or_len (same_fields w) ks = none_is (position_or_len (same_fields w) ks) (length ks) e in
    let is : length ks ≡ position_or_len (same_fields w) ks = omega (arith, within (same_fields w) ks) in
    is ∙ place_is w ks pw h

pub stored_named : (k : ℕ) (x : Core.Name) → need_named (name_as k false x) ≡ Stored (name_as k false x)
stored_named k x = by x.up x.what
  where
    by : (u : ℕ) (o : Core.Owned) → need_named (name_as k false (record { up = u; what = o })) ≡ Stored (name_as k false (record { up = u; what = o }))
    by u (Core.local n) = refl
    by u (Core.input i) = refl
    by u (Core.output j) = refl

pub closed_named : (k : ℕ) (x : Core.Name) → need_named (name_as k true x) ≡ Closed (name_as k true x)
closed_named k x = by x.up x.what
  where
    by : (u : ℕ) (o : Core.Owned) → need_named (name_as k true (record { up = u; what = o })) ≡ Closed (name_as k true (record { up = u; what = o }))
    by u (Core.local n) = refl
    by u (Core.input i) = refl
    by u (Core.output j) = refl

pub notes_none : (ks : List PlainNeed) → Notes ks ks []
notes_none ks ns h = subst (λ l. Noted l ks) (sym (append-nil ns)) h

pub notes_both : (a b d : List PlainNeed) (xs ys : List Need) → Notes a b xs → Notes b d ys → Notes a d (xs ++ ys)
notes_both a b d xs ys f g ns h = subst (λ l. Noted l d) (append_assoc ns xs ys) (g (ns ++ xs) (f ns h))

-- one more need is listed
pub listed_more : (ks : List PlainNeed) (i : ℕ) (w : PlainNeed) (before after : List Need) (n : Need) → slice_get ks i ≡ Some w → before ≡ map need_of (take i ks) → n ≡ need_of w → after ≡ before ++ n ∷ []
    → after ≡ map need_of (take (i + 1) ks)
listed_more ks i w before after n at b o a =
    a ∙ ap (λ l. l ++ n ∷ []) b ∙ ap (λ m. map need_of (take i ks) ++ m ∷ []) o
    ∙ sym (ap (map need_of) (take_more ks i w (slice_get_within ks i w at) ∙ ap (λ x. take i ks ++ x ∷ []) (get_or_from_slice_get ks i w w at)) ∙ map-append need_of (take i ks) (w ∷ []))
