-- The tests say just when a core is whole.
use Rattle.std.specs.Prelude.{◌≡◌, ℕ, zero, suc, ◌<◌, Bool, true, false, ◌&&◌, List, [], ◌∷◌, ◌++◌, length, Some, slice_get, nat_lt, refl}
use Rattle.std.specs.List.{flat_map, list_all}
use Rattle.std.proofs.Common.{inl, inr, sym, ap, ◌∙◌, subst}
use Rattle.std.proofs.lemmas.Bool.{eqb-true, eq-eqb, ltb-true, lt-ltb, and_from}
use Rattle.language.specs.Core.{Owned, local, input, output, Name, Call, Part, inner, calls, Stmt, stmt, Action, declare, call_alone, assign, fill, insert, print, assert, when, choose, range, each, wait, Block, no_stmts, stmts, Core}
use Rattle.language.specs.Members.{◌∈◌, first, later}
use Rattle.language.specs.Parts.{block_list, parts, part_calls}
use Rattle.language.proofs.Members.{either, to_left, to_right}
use Rattle.flow.specs.Names.{form_names, names_used, Opened, opens, own_names, part_names}
use Rattle.flow.specs.Tests.{are_declared, declares, fits, fits_inside, fits_stmt, function_fits, is_declared, is_fit, is_whole, leads, part_fits, parts_fit}
use Rattle.flow.specs.Whole.{Declares, IsDeclared, IsWhole, IsWithin, in_content, in_wait, of_function, of_script, opened, Owner, opened_owner, script_owner, times}

-- TESTS OF LISTS

both : (a b : Bool) → a && b ≡ true → (a ≡ true) × (b ≡ true)
both true b h = (refl, h)
both false b h = absurd (cc (h))

all_in : {X : Type 0} (p : X → Bool) {x : X} (xs : List X) → list_all p xs ≡ true → x ∈ xs → p x ≡ true
all_in p [] h m = elim m [ ]
all_in p (x ∷ xs) h first = (both (p x) (list_all p xs) h).0
all_in p (x ∷ xs) h (later m) = all_in p xs (both (p x) (list_all p xs) h).1 m

in_all : {X : Type 0} (p : X → Bool) (xs : List X) → ((x : X) → x ∈ xs → p x ≡ true) → list_all p xs ≡ true
in_all p [] h = refl
in_all p (x ∷ xs) h = and_from _ _ (h x first) (in_all p xs (λ y m. h y (later m)))

all_at : {X : Type 0} (p : X → Bool) (xs : List X) (i : ℕ) {x : X} → list_all p xs ≡ true → slice_get xs i ≡ Some x → p x ≡ true
all_at p [] i h e = absurd (cc (e))
all_at p (x ∷ xs) zero h e = subst (λ z. p z ≡ true) (cc (e)) (both (p x) (list_all p xs) h).0
all_at p (x ∷ xs) (suc i) h e = all_at p xs i (both (p x) (list_all p xs) h).1 e

at_of : {X : Type 0} {x : X} (xs : List X) → x ∈ xs → (i : ℕ) × (slice_get xs i ≡ Some x)
at_of [] m = elim m [ ]
at_of (x ∷ xs) first = (zero, refl)
at_of (x ∷ xs) (later m) = let r = at_of xs m in (suc r.0, r.1)

flat_member : {X Y : Type 0} (f : X → List Y) {y : Y} (xs : List X) → y ∈ flat_map f xs → (x : X) × (x ∈ xs) × (y ∈ f x)
flat_member f [] m = elim m [ ]
flat_member f (x ∷ xs) m = elim (either (f x) (flat_map f xs) m) [ inl i ↦ (x, first, i) | inr i ↦ (let r = flat_member f xs i in (r.0, later r.1, r.2)) ]

member_flat : {X Y : Type 0} (f : X → List Y) {x : X} {y : Y} (xs : List X) → x ∈ xs → y ∈ f x → y ∈ flat_map f xs
member_flat f [] m i = elim m [ ]
member_flat f (x ∷ xs) first i = to_left (f x) (flat_map f xs) i
member_flat f (z ∷ xs) (later m) i = to_right (f z) (flat_map f xs) (member_flat f xs m i)

call_part : {c : Call} (ps : List Part) → c ∈ part_calls ps → calls c ∈ ps
call_part [] m = elim m [ ]
call_part (inner d ∷ ps) m = later (call_part ps m)
call_part (calls d ∷ ps) first = first
call_part (calls d ∷ ps) (later m) = later (call_part ps m)

part_call : {c : Call} (ps : List Part) → calls c ∈ ps → c ∈ part_calls ps
part_call [] m = elim m [ ]
part_call (inner d ∷ ps) (later m) = part_call ps m
part_call (calls d ∷ ps) first = first
part_call (calls d ∷ ps) (later m) = later (part_call ps m)

-- NAMES

declares_so : (o : Owner) (w : Owned) → declares o w ≡ true → Declares o w
declares_so o (local n) h = eqb-true (times n o.nodes) 1 h
declares_so o (input i) h = ltb-true i o.inputs h
declares_so o (output i) h = ltb-true i o.outputs h

so_declares : (o : Owner) (w : Owned) → Declares o w → declares o w ≡ true
so_declares o (local n) h = eq-eqb (times n o.nodes) 1 h
so_declares o (input i) h = lt-ltb i o.inputs h
so_declares o (output i) h = lt-ltb i o.outputs h

leads_so : (os : List Owner) (k : ℕ) (w : Owned) → leads os k w ≡ true → (o : Owner) × (slice_get os k ≡ Some o) × Declares o w
leads_so [] k w h = absurd (cc (h))
leads_so (o ∷ os) zero w h = (o, refl, declares_so o w h)
leads_so (o ∷ os) (suc k) w h = leads_so os k w h

so_leads : (os : List Owner) (k : ℕ) (w : Owned) (o : Owner) → slice_get os k ≡ Some o → Declares o w → leads os k w ≡ true
so_leads [] k w o e d = absurd (cc (e))
so_leads (p ∷ os) zero w o e d = so_declares p w (subst (λ z. Declares z w) (sym (cc (e))) d)
so_leads (p ∷ os) (suc k) w o e d = so_leads os k w o e d

declared_so : (os : List Owner) (x : Name) → is_declared os x ≡ true → IsDeclared os x
declared_so os x h = let r = leads_so os x.up x.what h in record { owner = r.0; there = r.1; declares = r.2 }

so_declared : (os : List Owner) (x : Name) → IsDeclared os x → is_declared os x ≡ true
so_declared os x d = so_leads os x.up x.what d.owner d.there d.declares

-- STATEMENTS

part_named : (os : List Owner) (n : ℕ) (p : Part) {x : Name} → part_fits os n p ≡ true → x ∈ part_names p → is_declared os x ≡ true
part_named os n (inner c) h m = all_in (is_declared os) (form_names c.form) h m
part_named os n (calls c) h m = all_in (is_declared os) (c.inputs ++ c.outputs) (both (are_declared os (c.inputs ++ c.outputs)) (nat_lt c.function n) h).0 m

named_part : (os : List Owner) (n : ℕ) (p : Part) → ((x : Name) → x ∈ part_names p → is_declared os x ≡ true) → ((c : Call) → p ≡ calls c → c.function < n) → part_fits os n p ≡ true
named_part os n (inner c) h f = in_all (is_declared os) (form_names c.form) h
named_part os n (calls c) h f = and_from _ _ (in_all (is_declared os) (c.inputs ++ c.outputs) h) (lt-ltb c.function n (f c refl))

fit_names : (os : List Owner) (n : ℕ) (a : Action) {x : Name} → is_fit os n a ≡ true → x ∈ names_used a → is_declared os x ≡ true
fit_names os n a h m =
    let b = both (are_declared os (own_names a)) (parts_fit os n (parts a)) h in
    elim (either (own_names a) (flat_map part_names (parts a)) m) [
      | inl i ↦ all_in (is_declared os) (own_names a) b.0 i
      | inr i ↦ (let r = flat_member part_names (parts a) i in part_named os n r.0 (all_in (part_fits os n) (parts a) b.1 r.1) r.2)
    ]

fit_calls : (os : List Owner) (n : ℕ) (a : Action) {c : Call} → is_fit os n a ≡ true → c ∈ part_calls (parts a) → c.function < n
fit_calls os n a {c} h m =
    let b = both (are_declared os (own_names a)) (parts_fit os n (parts a)) h in
    ltb-true c.function n (both (are_declared os (c.inputs ++ c.outputs)) (nat_lt c.function n) (all_in (part_fits os n) (parts a) b.1 (call_part (parts a) m))).1

names_fit : (os : List Owner) (n : ℕ) (a : Action) → ((x : Name) → x ∈ names_used a → is_declared os x ≡ true) → ((c : Call) → c ∈ part_calls (parts a) → c.function < n) → is_fit os n a ≡ true
names_fit os n a h f =
    and_from _ _ (in_all (is_declared os) (own_names a) (λ x m. h x (to_left (own_names a) (flat_map part_names (parts a)) m)))
    (in_all (part_fits os n) (parts a) (λ p m. named_part os n p (λ x i. h x (to_right (own_names a) (flat_map part_names (parts a)) (member_flat part_names (parts a) m i)))
    (λ c e. f c (part_call (parts a) (subst (λ z. z ∈ parts a) e m)))))

stmt_in : (os : List Owner) (n : ℕ) (b : Block) {st : Stmt} → fits os n b ≡ true → st ∈ block_list b → fits_stmt os n st ≡ true
stmt_in os n no_stmts h m = elim m [ ]
stmt_in os n (stmts s b) h first = (both (fits_stmt os n s) (fits os n b) h).0
stmt_in os n (stmts s b) h (later m) = stmt_in os n b (both (fits_stmt os n s) (fits os n b) h).1 m

-- a list of one and of two
one_of : {X : Type 0} (P : X → Type 0) {x y : X} → P y → x ∈ (y ∷ []) → P x
one_of P h first = h
one_of P h (later m) = elim m [ ]

two_of : {X : Type 0} (P : X → Type 0) {x y z : X} → P y → P z → x ∈ (y ∷ z ∷ []) → P x
two_of P h k first = h
two_of P h k (later m) = one_of P k m

opened_in : (os : List Owner) (n : ℕ) (a : Action) {o : Opened} → fits_inside os n a ≡ true → o ∈ opens a → fits (opened_owner o ∷ os) n o.block ≡ true
opened_in os n (declare v) h m = elim m [ ]
opened_in os n (call_alone p ps c) h m = elim m [ ]
opened_in os n (assign x e) h m = elim m [ ]
opened_in os n (fill x e) h m = elim m [ ]
opened_in os n (insert x i e) h m = elim m [ ]
opened_in os n (print p e) h m = elim m [ ]
opened_in os n (assert p e) h m = elim m [ ]
opened_in os n (when c b) h m = one_of (λ o. fits (opened_owner o ∷ os) n o.block ≡ true) h m
opened_in os n (choose c b d) h m =
    let t = both (fits (opened_owner (record { variables = []; block = b }) ∷ os) n b) (fits (opened_owner (record { variables = []; block = d }) ∷ os) n d) h in
    two_of (λ o. fits (opened_owner o ∷ os) n o.block ≡ true) t.0 t.1 m
opened_in os n (range lo hi st v k b) h m = one_of (λ o. fits (opened_owner o ∷ os) n o.block ≡ true) h m
opened_in os n (each x v k b) h m = one_of (λ o. fits (opened_owner o ∷ os) n o.block ≡ true) h m
opened_in os n (wait xs b) h m = elim m [ ]

module _ (s : Core) where
  abbrev count : ℕ
  count = length s.functions

  within_fits : {os : List Owner} {b : Block} → is_whole s ≡ true → IsWithin s os b → fits os count b ≡ true
  within_fits h of_script = (both (fits (script_owner s ∷ []) count s.body) (list_all (function_fits count) s.functions) h).0
  within_fits h (of_function i e) = all_at (function_fits count) s.functions i (both (fits (script_owner s ∷ []) count s.body) (list_all (function_fits count) s.functions) h).1 e
  within_fits h (in_wait {os = os} {b = b} {c = c} {xs = xs} w m) = (both (is_fit os count (wait xs c)) (fits (in_content c os) count c) (stmt_in os count b (within_fits h w) m)).1
  within_fits h (opened {os = os} {b = b} {a = a} w m i) = opened_in os count a (both (is_fit os count a) (fits_inside os count a) (stmt_in os count b (within_fits h w) m)).1 i

  own_fits : {os : List Owner} {b : Block} {at k : ℕ} {a : Action} → is_whole s ≡ true → IsWithin s os b → stmt at k a ∈ block_list b → is_fit os count a ≡ true
  own_fits {os} {b} {a = a} h w m = (both (is_fit os count a) (fits_inside os count a) (stmt_in os count b (within_fits h w) m)).0

  pub test_whole : is_whole s ≡ true → IsWhole s
  test_whole h = record {
    names = λ os b at k a x w m i. declared_so os x (fit_names os count a (own_fits h w m) i);
    functions = λ os b at k a c w m i. fit_calls os count a (own_fits h w m) i;
  }

  module _ (w : IsWhole s) where
    own : {os : List Owner} {b : Block} {at k : ℕ} {a : Action} → IsWithin s os b → stmt at k a ∈ block_list b → is_fit os count a ≡ true
    own {os} {b} {at} {k} {a} v m = names_fit os count a (λ x i. so_declared os x (w.names os b at k a x v m i)) (λ c i. w.functions os b at k a c v m i)

    mutual
      inside_fits : {os : List Owner} {b : Block} {at k : ℕ} (a : Action) → IsWithin s os b → stmt at k a ∈ block_list b → fits_inside os count a ≡ true
      inside_fits (declare v) i m = refl
      inside_fits (call_alone p ps c) i m = refl
      inside_fits (assign x e) i m = refl
      inside_fits (fill x e) i m = refl
      inside_fits (insert x j e) i m = refl
      inside_fits (print p e) i m = refl
      inside_fits (assert p e) i m = refl
      inside_fits (when c b) i m = block_fits b (opened i m first) b (λ st j. j)
      inside_fits (choose c b d) i m = and_from _ _ (block_fits b (opened i m first) b (λ st j. j)) (block_fits d (opened i m (later first)) d (λ st j. j))
      inside_fits (range lo hi st v k b) i m = block_fits b (opened i m first) b (λ st j. j)
      inside_fits (each x v k b) i m = block_fits b (opened i m first) b (λ st j. j)
      inside_fits (wait xs b) i m = block_fits b (in_wait i m) b (λ st j. j)

      block_fits : {os : List Owner} (b : Block) → IsWithin s os b → (c : Block) → ((st : Stmt) → st ∈ block_list c → st ∈ block_list b) → fits os count c ≡ true
      block_fits b i no_stmts h = refl
      block_fits b i (stmts (stmt at k a) c) h = and_from _ _ (and_from _ _ (own i (h (stmt at k a) first)) (inside_fits a i (h (stmt at k a) first))) (block_fits b i c (λ st m. h st (later m)))

    pub whole_test : is_whole s ≡ true
    whole_test = and_from _ _ (block_fits s.body of_script s.body (λ st m. m))
        (in_all (function_fits count) s.functions (λ f m. (let r = at_of s.functions m in block_fits f.body (of_function r.0 r.1) f.body (λ st i. i))))
