-- Lists for what new items miss.
use Rattle.std.proofs.Common.{◌≡◌, ◌∙◌, refl, sym, ap, subst, ℕ, zero, suc, ◌+◌, ◌≤◌, ◌<◌, max, Bool, true, false, ◌||◌, nat_lt, List, [], ◌∷◌, ◌++◌, map, take, get_or, length, arith, rules}
use Rattle.std.specs.Prelude.{if◌then◌else◌}
use Rattle.std.specs.List.{AllZip, filter, flat_map, list_any}
use Rattle.std.proofs.lemmas.List.{append_assoc, append-nil, map-append, take_more, take_all}
use Rattle.std.proofs.lemmas.Grind.{flat_map-append}
use Rattle.rules.specs.declared.input.Input.{Input}
use Rattle.smallvec.specs.SmallVec.{SmallVec}
use Rattle.task_code.specs.Code.{Body, Code, Entry, blank_body, blank_entry, body, entry, nth}
use Rattle.board_program.specs.Tables.{waits_long}
use Rattle.board_instances.specs.declared.pending.PendingInstance.{PendingInstance}
use Rattle.board_effects.specs.Ended.{long_need, needs_of, spare_list}
use Rattle.board_data.specs.Openings.{IsSpare, long_needs}

entry_past : (es : List Entry) (n : ℕ) → length es ≤ n → nth blank_entry es n ≡ blank_entry
entry_past [] n h = refl
entry_past (e ∷ es) zero h = absurd (omega (arith, h))
entry_past (e ∷ es) (suc n) h = entry_past es n (omega (arith, h))

pub body_past : (bs : List Body) (n : ℕ) → length bs ≤ n → nth blank_body bs n ≡ blank_body
body_past [] n h = refl
body_past (b ∷ bs) zero h = absurd (omega (arith, h))
body_past (b ∷ bs) (suc n) h = body_past bs n (omega (arith, h))

-- an entry that there is not waits for nothing, and a body that there is not has no items
pub no_entry : (C : Code) (n : ℕ) (xs : List (SmallVec Input)) → length C.entries ≤ n → xs ≡ xs ++ map spare_list (long_need C n)
no_entry C n xs h = sym (append-nil xs) ∙ ap (λ (e : Entry). xs ++ map spare_list (filter (nat_lt 2) (length e.needs ∷ []))) (sym (entry_past C.entries n h))

pub no_body : (C : Code) (n : ℕ) (xs : List (SmallVec Input)) → length C.bodies ≤ n → xs ≡ xs ++ map spare_list (long_needs C n)
no_body C n xs h = sym (append-nil xs) ∙ ap (λ (b : Body). xs ++ map spare_list (filter (nat_lt 2) (map (λ e. length (entry C e).needs) b.entries))) (sym (body_past C.bodies n h))

-- there is no list for a body none of whose entries waits for more than two inputs
none_kept : (C : Code) (es : List ℕ) → list_any (waits_long C) es ≡ false → filter (nat_lt 2) (map (λ e. length (entry C e).needs) es) ≡ []
none_kept C [] h = refl
none_kept C (e ∷ es) h = by (waits_long C e) (length (entry C e).needs) _ _ (none_kept C es) h
  where
    by : (b : Bool) (n : ℕ) (any : Bool) (xs : List ℕ) → (any ≡ false → xs ≡ []) → (b || any) ≡ false → (if b then n ∷ xs else xs) ≡ []
    by true n any xs f h = absurd (cc)
    by false n any xs f h = f h

pub none_long : (C : Code) (n : ℕ) (xs : List (SmallVec Input)) → list_any (waits_long C) (body C n).entries ≡ false → xs ≡ xs ++ map spare_list (long_needs C n)
none_long C n xs h = sym (append-nil xs) ∙ ap (λ l. xs ++ map spare_list l) (sym (none_kept C (body C n).entries h))

-- one more, and none is left
pub flat_next : {X : Type 0} (f : X → List ℕ) (old mid new : List (SmallVec Input)) (xs : List X) (i : ℕ) (x : X) → i < length xs → x ≡ get_or xs i x → mid ≡ old ++ map spare_list (flat_map f (take i xs)) → new ≡ mid ++ map spare_list (f x) → new ≡ old ++ map spare_list (flat_map f (take (i + 1) xs))
flat_next f old mid new xs i x h is a b =
    b ∙ ap (λ l. l ++ map spare_list (f x)) a
    ∙ append_assoc old (map spare_list (flat_map f (take i xs))) (map spare_list (f x))
    ∙ ap (λ l. old ++ l) (sym (map-append spare_list (flat_map f (take i xs)) (f x)))
    ∙ ap (λ l. old ++ map spare_list (flat_map f (take i xs) ++ l)) (sym (append-nil (f x)))
    ∙ ap (λ l. old ++ map spare_list l) (sym (flat_map-append f (take i xs) (x ∷ [])))
    ∙ ap (λ (y : _). old ++ map spare_list (flat_map f (take i xs ++ y ∷ []))) is
    ∙ ap (λ l. old ++ map spare_list (flat_map f l)) (sym (take_more xs i x h))

pub flat_first : (old : List (SmallVec Input)) → old ≡ old ++ []
flat_first old = sym (append-nil old)

long_by : (C : Code) (es : List ℕ) → flat_map (long_need C) es ≡ filter (nat_lt 2) (map (λ e. length (entry C e).needs) es)
long_by C [] = refl
long_by C (e ∷ es) = by (nat_lt 2 (length (entry C e).needs)) (length (entry C e).needs) _ _ (long_by C es)
  where
    by : (b : Bool) (n : ℕ) (xs ys : List ℕ) → xs ≡ ys → (if b then n ∷ [] else []) ++ xs ≡ (if b then n ∷ ys else ys)
    by true n xs ys e = ap (λ l. n ∷ l) e
    by false n xs ys e = e

pub flat_done : (C : Code) (n : ℕ) (old new : List (SmallVec Input)) (es : List ℕ) (i : ℕ) → length es ≤ i → es ≡ (body C n).entries → new ≡ old ++ map spare_list (flat_map (long_need C) (take i es)) → new ≡ old ++ map spare_list (long_needs C n)
flat_done C n old new es i h is e = e ∙ ap (λ l. old ++ map spare_list (flat_map (long_need C) l)) (take_all i es h ∙ is) ∙ ap (λ l. old ++ map spare_list l) (long_by C (body C n).entries)

-- each has the room
room_for : (n : ℕ) → 0 + n ≤ max 2 n
room_for n = omega arith

pub all_spare : (ns : List ℕ) → AllZip IsSpare ns (map spare_list ns)
all_spare [] = search rules
all_spare (n ∷ ns) = (record { empty = refl; room = room_for n }, all_spare ns)

pub spare_done : (C : Code) (list : List PendingInstance) (new : List (SmallVec Input)) (i : ℕ) → length list ≤ i → new ≡ map spare_list (needs_of C (take i list)) → AllZip IsSpare (needs_of C list) new
spare_done C list new i h e = subst (λ xs. AllZip IsSpare (needs_of C list) xs) (sym (e ∙ ap (λ l. map spare_list (needs_of C l)) (take_all i list h))) (all_spare (needs_of C list))
