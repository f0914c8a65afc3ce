-- Entries as rights are given to them, one after another.
use Rattle.std.proofs.Common.{◌≡◌, refl, sym, ap, ◌∙◌, subst, ℕ, zero, suc, ◌+◌, ◌<◌, ◌≤◌, Bool, true, false, List, [], ◌∷◌, ◌++◌, map, take, length, get_or, slice_set, nat_eq, eq-eqb, append-nil, append_assoc, inl, inr, arith}
use Rattle.std.proofs.lemmas.Bool.{eqb-true}
use Rattle.std.proofs.lemmas.List.{length-map}
use Rattle.dataflow.specs.System.{In}
use Rattle.task_code.specs.Code.{Entry, Name, blank_entry, nth}
use Rattle.task_code.specs.declared.entry.Entry.{Entry as LaidEntry}
use Rattle.task_code.specs.View.{entry_view}
use Rattle.ref_counting.specs.declared.entry_name.EntryName.{EntryName}
use Rattle.ref_counting.specs.declared.uses.RightKind.{RightKind}
use Rattle.ref_counting.specs.declared.uses.RightKind.TheVariants.{Read, Write}
use Rattle.ref_counting.specs.Leads.{name_of, names_of}
use Rattle.code_rules.specs.Laying.{bare}
use Rattle.ref_counting.proofs.Closing.{take_next}
use Rattle.emit_rights.specs.Granted.{bare_at, bare_below, given, given_all, with_right, GivesNext}

-- IN VECTORS

pub given_here : (d : RightKind) (es : List LaidEntry) (n : ℕ) (r : Name) (e x : LaidEntry) → n < length es → entry_view e ≡ with_right d (entry_view (get_or es n x)) r
    → map entry_view (slice_set es n e) ≡ given d (map entry_view es) n r
given_here d [] n r e x h is = absurd (omega arith)
given_here d (y ∷ ys) zero r e x h is = ap (λ z. z ∷ map entry_view ys) is
given_here d (y ∷ ys) (suc n) r e x h is = ap (λ zs. entry_view y ∷ zs) (given_here d ys n r e x (omega arith) is)

pub given_nowhere : (d : RightKind) (es : List LaidEntry) (n : ℕ) (r : Name) → length es ≤ n → map entry_view es ≡ given d (map entry_view es) n r
given_nowhere d [] n r h = refl
given_nowhere d (y ∷ ys) zero r h = absurd (omega arith)
given_nowhere d (y ∷ ys) (suc n) r h = ap (λ zs. entry_view y ∷ zs) (given_nowhere d ys n r (omega arith))

pub bare_here : (es : List LaidEntry) (n : ℕ) (e x : LaidEntry) → n < length es → entry_view e ≡ bare (entry_view (get_or es n x)) → map entry_view (slice_set es n e) ≡ bare_at (map entry_view es) n
bare_here [] n e x h is = absurd (omega arith)
bare_here (y ∷ ys) zero e x h is = ap (λ z. z ∷ map entry_view ys) is
bare_here (y ∷ ys) (suc n) e x h is = ap (λ zs. entry_view y ∷ zs) (bare_here ys n e x (omega arith) is)

-- ENTRIES WITHOUT RIGHTS

pub bare_next : (es : List Entry) (n : ℕ) → bare_at (bare_below es n) n ≡ bare_below es (n + 1)
bare_next es n =
    let next : suc n ≡ n + 1 = omega arith in
    subst (λ (m : ℕ). bare_at (bare_below es n) n ≡ bare_below es m) next (by es n)
  where
    by : (xs : List Entry) (k : ℕ) → bare_at (bare_below xs k) k ≡ bare_below xs (suc k)
    by [] zero = refl
    by [] (suc k) = refl
    by (x ∷ xs) zero = refl
    by (x ∷ xs) (suc k) = ap (λ ys. bare x ∷ ys) (by xs k)

pub bare_all : (es : List Entry) (n : ℕ) → length es ≤ n → bare_below es n ≡ map bare es
bare_all [] zero h = refl
bare_all [] (suc n) h = refl
bare_all (e ∷ es) zero h = absurd (omega arith)
bare_all (e ∷ es) (suc n) h = ap (λ xs. bare e ∷ xs) (bare_all es n (omega arith))

-- ONE RIGHT AFTER ANOTHER

with_same : (d : RightKind) (e : Entry) (r : Name) → bare (with_right d e r) ≡ bare e
with_same Read e r = refl
with_same Write e r = refl

given_same : (d : RightKind) (es : List Entry) (n : ℕ) (r : Name) → map bare (given d es n r) ≡ map bare es
given_same d [] n r = refl
given_same d (e ∷ es) zero r = ap (λ x. x ∷ map bare es) (with_same d e r)
given_same d (e ∷ es) (suc n) r = ap (λ xs. bare e ∷ xs) (given_same d es n r)

pub all_same : (d : RightKind) (es : List Entry) (ls : List EntryName) → map bare (given_all d es ls) ≡ map bare es
all_same d es [] = refl
all_same d es (l ∷ ls) = all_same d (given d es l.entry (name_of l)) ls ∙ given_same d es l.entry (name_of l)

given_length : (d : RightKind) (es : List Entry) (n : ℕ) (r : Name) → length (given d es n r) ≡ length es
given_length d [] n r = refl
given_length d (e ∷ es) zero r = refl
given_length d (e ∷ es) (suc n) r = ap suc (given_length d es n r)

pub all_more : (d : RightKind) (es : List Entry) (ls : List EntryName) (l : EntryName) → given_all d es (ls ++ l ∷ []) ≡ given d (given_all d es ls) l.entry (name_of l)
all_more d es [] l = refl
all_more d es (m ∷ ms) l = all_more d (given d es m.entry (name_of m)) ms l

-- what an entry has of a right
abbrev pub rights_of : RightKind → Entry → List Name
rights_of Read e = e.reads
rights_of Write e = e.writes

with_this : (d : RightKind) (e : Entry) (r : Name) → rights_of d (with_right d e r) ≡ rights_of d e ++ r ∷ []
with_this Read e r = refl
with_this Write e r = refl

given_this : (d : RightKind) (es : List Entry) (n : ℕ) (r : Name) (i : ℕ) → n ≡ i → n < length es → rights_of d (nth blank_entry (given d es n r) i) ≡ rights_of d (nth blank_entry es i) ++ r ∷ []
given_this d [] n r i e h = absurd (omega arith)
given_this d (x ∷ xs) zero r zero e h = with_this d x r
given_this d (x ∷ xs) zero r (suc i) e h = absurd (omega arith)
given_this d (x ∷ xs) (suc n) r zero e h = absurd (omega arith)
given_this d (x ∷ xs) (suc n) r (suc i) e h = given_this d xs n r i (omega arith) (omega arith)

given_other : (d : RightKind) (es : List Entry) (n : ℕ) (r : Name) (i : ℕ) → (n ≡ i → ⊥) → nth blank_entry (given d es n r) i ≡ nth blank_entry es i
given_other d [] n r i h = refl
given_other d (x ∷ xs) zero r zero h = absurd (h refl)
given_other d (x ∷ xs) zero r (suc i) h = refl
given_other d (x ∷ xs) (suc n) r zero h = refl
given_other d (x ∷ xs) (suc n) r (suc i) h = given_other d xs n r i (λ e. h (ap suc e))

pub all_given : (d : RightKind) (ls : List EntryName) (es : List Entry) (i : ℕ) → ((l : EntryName) → In l ls → l.entry < length es) → rights_of d (nth blank_entry (given_all d es ls) i) ≡ rights_of d (nth blank_entry es i) ++ names_of ls i
all_given d [] es i h = sym (append-nil (rights_of d (nth blank_entry es i)))
all_given d (l ∷ ls) es i h = all_given d ls (given d es l.entry (name_of l)) i (λ m t. subst (λ n. m.entry < n) (sym (given_length d es l.entry (name_of l))) (h m (inr t))) ∙ by (nat_eq l.entry i) refl
  where
    by : (b : Bool) → nat_eq l.entry i ≡ b → rights_of d (nth blank_entry (given d es l.entry (name_of l)) i) ++ names_of ls i ≡ rights_of d (nth blank_entry es i) ++ elim b [ true ↦ name_of l ∷ names_of ls i | false ↦ names_of ls i ]
    by true e =
        ap (λ xs. xs ++ names_of ls i) (given_this d es l.entry (name_of l) i (eqb-true l.entry i e) (h l (inl refl)))
        ∙ append_assoc (rights_of d (nth blank_entry es i)) (name_of l ∷ []) (names_of ls i)
    by false e = ap (λ x. rights_of d x ++ names_of ls i) (given_other d es l.entry (name_of l) i (λ s. apart s e))
      where
        apart : l.entry ≡ i → nat_eq l.entry i ≡ false → ⊥
        apart s f = let t : nat_eq l.entry i ≡ true = eq-eqb l.entry i s in absurd (cc)

-- rights to read leave those to write
given_writes : (es : List Entry) (n : ℕ) (r : Name) (i : ℕ) → (nth blank_entry (given Read es n r) i).writes ≡ (nth blank_entry es i).writes
given_writes [] n r i = refl
given_writes (x ∷ xs) zero r zero = refl
given_writes (x ∷ xs) zero r (suc i) = refl
given_writes (x ∷ xs) (suc n) r zero = refl
given_writes (x ∷ xs) (suc n) r (suc i) = given_writes xs n r i

given_reads : (es : List Entry) (n : ℕ) (r : Name) (i : ℕ) → (nth blank_entry (given Write es n r) i).reads ≡ (nth blank_entry es i).reads
given_reads [] n r i = refl
given_reads (x ∷ xs) zero r zero = refl
given_reads (x ∷ xs) zero r (suc i) = refl
given_reads (x ∷ xs) (suc n) r zero = refl
given_reads (x ∷ xs) (suc n) r (suc i) = given_reads xs n r i

pub all_writes_kept : (ls : List EntryName) (es : List Entry) (i : ℕ) → (nth blank_entry (given_all Read es ls) i).writes ≡ (nth blank_entry es i).writes
all_writes_kept [] es i = refl
all_writes_kept (l ∷ ls) es i = all_writes_kept ls (given Read es l.entry (name_of l)) i ∙ given_writes es l.entry (name_of l) i

pub all_reads_kept : (ls : List EntryName) (es : List Entry) (i : ℕ) → (nth blank_entry (given_all Write es ls) i).reads ≡ (nth blank_entry es i).reads
all_reads_kept [] es i = refl
all_reads_kept (l ∷ ls) es i = all_reads_kept ls (given Write es l.entry (name_of l)) i ∙ given_reads es l.entry (name_of l) i

pub all_length : (d : RightKind) (ls : List EntryName) (es : List Entry) → length (given_all d es ls) ≡ length es
all_length d [] es = refl
all_length d (l ∷ ls) es = all_length d ls (given d es l.entry (name_of l)) ∙ given_length d es l.entry (name_of l)

pub gives_next : (d : RightKind) (ls : List EntryName) (n : ℕ) (l : EntryName) (r : Name) (old new : List Entry) → n < length ls → get_or ls n l ≡ l → r ≡ name_of l → new ≡ given d old l.entry r → GivesNext d ls n old new
gives_next d ls n l r old new h is same got es before =
    got
    ∙ ap (λ (xs : List Entry). given d xs l.entry r) before
    ∙ ap (given d (given_all d es (take n ls)) l.entry) same
    ∙ sym (all_more d es (take n ls) l)
    ∙ ap (given_all d es) (ap (λ m. take n ls ++ m ∷ []) (sym is) ∙ take_next ls n l h)

below_length : (es : List Entry) (n : ℕ) → length (bare_below es n) ≡ length es
below_length [] zero = refl
below_length [] (suc n) = refl
below_length (e ∷ es) zero = refl
below_length (e ∷ es) (suc n) = ap suc (below_length es n)

pub below_count : (es fs : List LaidEntry) (n : ℕ) → map entry_view es ≡ bare_below (map entry_view fs) n → length es ≡ length fs
below_count es fs n is = sym (length-map es entry_view) ∙ ap length is ∙ below_length (map entry_view fs) n ∙ length-map fs entry_view
