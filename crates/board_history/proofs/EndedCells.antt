-- The data of a board after an End without fault: their counts and their names.
use Rattle.std.proofs.Common.{◌≡◌, ◌⊎◌, inl, inr, ℕ, zero, suc, ◌+◌, ◌*◌, ◌<◌, ◌≤◌, Bool, true, false, not, List, [], ◌∷◌, ◌++◌, map, length, refl, sym, ap, ◌∙◌, subst, Option, None, Some, if◌then◌else◌, arith}
use Rattle.std.specs.List.{flat_map, filter}
use Rattle.std.specs.Prelude.{nat_eq, nat_lt}
use Rattle.std.proofs.lemmas.Bool.{not-true}
use Rattle.dataflow.specs.System.{Distinct, In, Opening, tasks_of}
use Rattle.dataflow.specs.Machine.{Event, Free}
use Rattle.dataflow.specs.Names.{IsNaming}
use Rattle.dataflow.proofs.Lists.{in_left, in_map, in_right, in_split, in_unmap}
use Rattle.board_history.specs.Counts.{readers, times, writers}
use Rattle.board_history.specs.Elements.{code_tests}
use Rattle.board_history.specs.Ending.{CellAfter, Instance, IsOwn, added_times, given_times, has_entries, job_names, job_slot, kept_cell, named_times}
use Rattle.board_history.specs.Fields.{Absent, Content, Counted, DatumOf, Does, Fields, Frame, Job, Layout, LiteralOf, Script, Slot, path_of, slot_at, slot_for, task_of}
use Rattle.board_history.specs.Stands.{CellStands}
use Rattle.board_history.specs.Static.{Hold, added_by, counted_names, held_by, name_times, names_in, opened, outer_holds, own_count}
use Rattle.board_history.proofs.Counts.{counts_free, free_counts}
use Rattle.board_history.proofs.Elements.{code_told}
use Rattle.board_history.proofs.EndedBase.{Ending, bare_t, can, computed, counts, made_is, is_made, made_new, o, old_place, opens_are, place_stays, place_was, task}
use Rattle.board_history.proofs.EndedFrames.{hs, made, made_block, one_rest, os}
use Rattle.board_history.proofs.EndedNames.{datum_only, flat_in, held_told, hold_named, in_flat, named_told, outer_reads, outer_writes, own_reads, own_writes}
use Rattle.board_history.proofs.Static.{among_times}
use Rattle.board_history.proofs.Tests.{choose, none_some, yes_no, some_same, in_kept, kept_in}
use Rattle.task_code.proofs.Equal.{name_same}
use Rattle.task_code.proofs.Kept.{code_laws}
use Rattle.task_code.proofs.Places.{spot_path, spot_variable}
use Rattle.task_code.specs.Check.{is_declared}
use Rattle.task_code.specs.Code.{Code, Entry, Name, Variable, body, entry, here}
use Rattle.task_code.specs.Effects.{Item, Task, block, is_some_list}
use Rattle.task_code.specs.Machine.{CodeState}
use Rattle.task_code.specs.Places.{Datum, Place, Step, name_eq, place_at}
use Rattle.task_code.specs.System.{code_system, task_reads, task_writes}
use Rattle.task_code.specs.Whole.{IsCode}

distinct_apart : {X : Type 0} (xs ys : List X) → Distinct (xs ++ ys) → (x : X) → In x xs → In x ys → ⊥
distinct_apart [] ys d x i j = i
distinct_apart {X} (z ∷ xs) ys d x i j =
    elim i [ inl p ↦ d.0 (subst (λ (y : X). In y (xs ++ ys)) p (in_right x xs ys j)) | inr k ↦ distinct_apart xs ys d.1 x k j ]

distinct_later : {X : Type 0} (xs ys : List X) → Distinct (xs ++ ys) → Distinct ys
distinct_later [] ys d = d
distinct_later (z ∷ xs) ys d = distinct_later xs ys d.1

pub one_of : {X Y : Type 0} (f : X → Y) (xs : List X) (x y : X) → Distinct (map f xs) → In x xs → In y xs → f x ≡ f y → x ≡ y
one_of f [] x y d h g e = absurd h
one_of {X} {Y} f (z ∷ xs) x y d h g e =
    elim h [
      | inl p ↦ elim g [
        | inl q ↦ p ∙ sym q
        | inr b ↦ absurd (d.0 (subst (λ (m : Y). In m (map f xs)) (sym e ∙ ap f p) (in_map f y xs b)))
      ]
      | inr a ↦ elim g [
        | inl q ↦ absurd (d.0 (subst (λ (m : Y). In m (map f xs)) (e ∙ ap f q) (in_map f x xs a)))
        | inr b ↦ one_of f xs x y d.1 a b e
      ]
    ]

-- a count that is not 0
kept_is : (r w : ℕ) (c : Content) → 0 < r + w → kept_cell r w c ≡ Some (record { reads = r; writes = w; content = c })
kept_is r w c lt =
    choose (λ (x : Option Counted). x ≡ Some (record { reads = r; writes = w; content = c })) (nat_eq (r + w) 0) None (Some (record { reads = r; writes = w; content = c }))
    (λ t. let z : r + w ≡ 0 = zero_sound (r + w) t in absurd (omega arith))
    (λ t. refl)
  where
    zero_sound : (n : ℕ) → nat_eq n 0 ≡ true → n ≡ 0
    zero_sound n h = grind arith

pub is_kept : (r w : ℕ) (c : Content) (k : Counted) → kept_cell r w c ≡ Some k → (0 < r + w) × (k ≡ record { reads = r; writes = w; content = c })
is_kept r w c k =
    choose (λ (x : Option Counted). x ≡ Some k → (0 < r + w) × (k ≡ record { reads = r; writes = w; content = c })) (nat_eq (r + w) 0) None (Some (record { reads = r; writes = w; content = c }))
    (λ t h. none_some h)
    (λ t h. (apart (r + w) t, sym (some_same h)))
  where
    apart : (n : ℕ) → nat_eq n 0 ≡ false → 0 < n
    apart n h = grind arith

-- a name that stands in a list is counted
pub name_counted : (r : Name) (rs : List Name) → In r rs → 0 < name_times r rs
name_counted r [] h = absurd h
name_counted r (x ∷ rs) h =
    elim h [
      | inl e ↦ more (if name_eq r x then 1 else 0) (name_times r rs) (ap (λ (b : Bool). if b then 1 else 0) (subst (λ (y : Name). name_eq r y ≡ true) e (name_same r)))
      | inr g ↦ (let k = name_counted r rs g in omega arith)
    ]
  where
    more : (a b : ℕ) → a ≡ 1 → 0 < a + b
    more a b h = omega arith

module _ (C : Code) where
  distinct_made : (ss : List (ℕ × List Step)) (rs : List (Opening Task Place)) → Distinct (tasks_of (map (block C) ss ++ rs)) → Distinct (filter (has_entries C) ss)
  distinct_made [] rs d = tt
  distinct_made (x ∷ ss) rs d =
      let ih = distinct_made ss rs (distinct_later (block C x).tasks (tasks_of (map (block C) ss ++ rs)) d) in
      choose (λ (l : List (ℕ × List Step)). Distinct l) (has_entries C x) (x ∷ filter (has_entries C) ss) (filter (has_entries C) ss)
      (λ u. ((λ h. let i = (in_kept (has_entries C) x ss h).0 in by (body C x.0).entries refl u i), ih))
      (λ u. ih)
    where
      later : (zs : List (ℕ × List Step)) → In x zs → (e : ℕ) → In e (body C x.0).entries → In (Item e x.1 0) (tasks_of (map (block C) zs ++ rs))
      later [] i e ie = absurd i
      later (z ∷ zs) i e ie =
          elim i [
            | inl p ↦ in_left (Item e x.1 0) (block C z).tasks (tasks_of (map (block C) zs ++ rs)) (subst (λ (y : ℕ × List Step). In (Item e x.1 0) (block C y).tasks) p (in_map (λ k. Item k x.1 0) e (body C x.0).entries ie))
            | inr g ↦ in_right (Item e x.1 0) (block C z).tasks (tasks_of (map (block C) zs ++ rs)) (later zs g e ie)
          ]

      by : (xs : List ℕ) → (body C x.0).entries ≡ xs → has_entries C x ≡ true → In x ss → ⊥
      by [] z u i = yes_no u (ap is_some_list z)
      by (e ∷ xs) z u i =
          let ie : In e (body C x.0).entries = subst (λ (l : List ℕ). In e l) (sym z) (inl refl) in
          distinct_apart (block C x).tasks (tasks_of (map (block C) ss ++ rs)) d (Item e x.1 0) (in_map (λ k. Item k x.1 0) e (body C x.0).entries ie) (later ss i e ie)

  -- a block without entries adds nothing
  no_holds : (rights : Entry → List Name) (b : ℕ) → is_some_list (body C b).entries ≡ false → outer_holds C rights b ≡ []
  no_holds rights b h = by (body C b).entries h
    where
      by : (xs : List ℕ) → is_some_list xs ≡ false → counted_names (filter (λ r. not (is_declared C b r)) (flat_map (λ j. rights (entry C j)) xs)) ≡ []
      by [] h = refl
      by (x ∷ xs) h = yes_no refl h

  few_added : (rights : Entry → List Name) (a : Place) (ss : List (ℕ × List Step)) → added_by C rights a (filter (has_entries C) ss) ≡ added_by C rights a ss
  few_added rights a [] = refl
  few_added rights a (x ∷ ss) =
      choose (λ (l : List (ℕ × List Step)). added_by C rights a l ≡ added_by C rights a (x ∷ ss)) (has_entries C x) (x ∷ filter (has_entries C) ss) (filter (has_entries C) ss)
      (λ u. ap (λ (m : ℕ). held_by C x.1 a (outer_holds C rights x.0) + m) (few_added rights a ss))
      (λ u. (let z : held_by C x.1 a (outer_holds C rights x.0) ≡ 0 = ap (held_by C x.1 a) (no_holds rights x.0 u) in let r = few_added rights a ss in omega arith))

module _ (C : Code) (I : IsCode C) (L : Layout) (es : List Event) (F : Fields) (w n : ℕ) (t : CodeState) (G : Fields) (P : Ending C L es F w n t G) where
  abbrev names : List (ℕ × Place)
  names = P.x.names

  abbrev fs : List (Option Frame)
  fs = F.frames

  abbrev j : Job
  j = P.row.job

  abbrev ms : List Instance
  ms = made C I L es F w n t G P

  abbrev blocks : List (ℕ × List Step)
  blocks = opened C (task C I L es F w n t G P) (computed C I L es F w n t G P)

  module _ (d : ℕ) (q : List Step) (v : Variable) (h : In (d, Datum q v) names) where
    abbrev one_name : (a b : ℕ) (c : Place) → In (a, c) names → In (b, c) names → a ≡ b
    one_name = P.x.data_stand.naming.one_name

    abbrev one_datum : (a : ℕ) (b c : Place) → In (a, b) names → In (a, c) names → b ≡ c
    one_datum = P.x.data_stand.naming.one_datum

    -- the item's own names
    own_read_times : (x : Job) → j ≡ x → named_times (job_slot C L fs x) d (job_names C (λ e. e.reads) x) ≡ times (code_system C) code_tests (Datum q v) (task_reads C (task_of fs x))
    own_read_times Script e = refl
    own_read_times (Does k x c) e =
        named_told C names one_name one_datum d q v h (job_slot C L fs (Does k x c)) (path_of fs k) (entry C x).reads (λ r ir. own_reads C I L es F w n t G P k x c e r ir)
        ∙ sym (among_times C q v (map (place_at C (path_of fs k)) (entry C x).reads))

    own_write_times : (x : Job) → j ≡ x → named_times (job_slot C L fs x) d (job_names C (λ e. e.writes) x) ≡ times (code_system C) code_tests (Datum q v) (task_writes C (task_of fs x))
    own_write_times Script e = refl
    own_write_times (Does k x c) e =
        named_told C names one_name one_datum d q v h (job_slot C L fs (Does k x c)) (path_of fs k) (entry C x).writes (λ r ir. own_writes C I L es F w n t G P k x c e r ir)

    -- the names of the instances that are made
    hold_name : (rights : Entry → List Name) (m : Instance) (x : Hold) → In x (outer_holds C rights m.body) → (b : ℕ) × In b (body C m.body).entries × In x.name (rights (entry C b)) × (is_declared C m.body x.name ≡ false)
    hold_name rights m x i =
        let p = in_kept (λ r. not (is_declared C m.body r)) x.name (names_in C rights m.body) (hold_named (filter (λ r. not (is_declared C m.body r)) (names_in C rights m.body)) x i) in
        let b = in_flat (λ e. rights (entry C e)) (body C m.body).entries x.name p.0 in
        (b.0, b.1, b.2, not-true (is_declared C m.body x.name) p.1)

    added_reads : (ls : List Instance) → ((m : Instance) → In m ls → In m ms) → added_times C L (λ e. e.reads) (hs C I L es F w n t G P) d ls ≡ added_by C (λ e. e.reads) (Datum q v) (map (λ (m : Instance). (m.body, m.path)) ls)
    added_reads [] inn = refl
    added_reads (m ∷ ls) inn =
        let a = held_told C names one_name one_datum d q v h (slot_for L (hs C I L es F w n t G P) m.key m.body) m.path (outer_holds C (λ e. e.reads) m.body) (λ x i. let b = hold_name (λ e. e.reads) m x i in elim (outer_reads C I L es F w n t G P m (inn m (inl refl)) b.0 b.1 x.name b.2) [ inl u ↦ yes_no u b.3 | inr u ↦ u ]) in
        let r = added_reads ls (λ l i. inn l (inr i)) in
        λ i. a i + r i

    added_writes : (ls : List Instance) → ((m : Instance) → In m ls → In m ms) → added_times C L (λ e. e.writes) (hs C I L es F w n t G P) d ls ≡ added_by C (λ e. e.writes) (Datum q v) (map (λ (m : Instance). (m.body, m.path)) ls)
    added_writes [] inn = refl
    added_writes (m ∷ ls) inn =
        let a = held_told C names one_name one_datum d q v h (slot_for L (hs C I L es F w n t G P) m.key m.body) m.path (outer_holds C (λ e. e.writes) m.body) (λ x i. let b = hold_name (λ e. e.writes) m x i in elim (outer_writes C I L es F w n t G P m (inn m (inl refl)) b.0 b.1 x.name b.2) [ inl u ↦ yes_no u b.3 | inr u ↦ u ]) in
        let r = added_writes ls (λ l i. inn l (inr i)) in
        λ i. a i + r i

    all_reads : added_times C L (λ e. e.reads) (hs C I L es F w n t G P) d ms ≡ added_by C (λ e. e.reads) (Datum q v) blocks
    all_reads = added_reads ms (λ m i. i) ∙ ap (added_by C (λ e. e.reads) (Datum q v)) P.to.made_are ∙ few_added C (λ e. e.reads) (Datum q v) blocks

    all_writes : added_times C L (λ e. e.writes) (hs C I L es F w n t G P) d ms ≡ added_by C (λ e. e.writes) (Datum q v) blocks
    all_writes = added_writes ms (λ m i. i) ∙ ap (added_by C (λ e. e.writes) (Datum q v)) P.to.made_are ∙ few_added C (λ e. e.writes) (Datum q v) blocks

    there : In (Datum q v) P.x.state.places
    there = P.x.data_stand.naming.there d (Datum q v) h

    -- the counts of a datum that was there
    pub old_reads_are : (c : Counted) → c.reads ≡ readers (code_system C) code_tests P.x.state (Datum q v) → (r : ℕ) → r + given_times C L (λ e. e.reads) fs d j (os C I L es F w n t G P) ≡ c.reads + added_times C L (λ e. e.reads) (hs C I L es F w n t G P) d ms → r ≡ readers (code_system C) code_tests t (Datum q v)
    old_reads_are c e r h =
        by (os C I L es F w n t G P) (one_rest C (task C I L es F w n t G P) (computed C I L es F w n t G P)) (h ∙ (λ i. e i + all_reads i)) ((counts C I L es F w n t G P).old_reads q v there)
      where
        by : (ps : List (Opening Task Place)) → length ps ≤ 1 → r + given_times C L (λ e. e.reads) fs d j ps ≡ readers (code_system C) code_tests P.x.state (Datum q v) + added_by C (λ e. e.reads) (Datum q v) blocks → readers (code_system C) code_tests t (Datum q v) + times (code_system C) code_tests (Datum q v) (task_reads C (task_of fs j)) ≡ readers (code_system C) code_tests P.x.state (Datum q v) + (added_by C (λ e. e.reads) (Datum q v) blocks + length ps * times (code_system C) code_tests (Datum q v) (task_reads C (task_of fs j))) → r ≡ readers (code_system C) code_tests t (Datum q v)
        by [] l a b = (let z = own_read_times j refl in omega arith)
        by (p ∷ []) l a b = omega arith
        by (p ∷ p' ∷ ps) l a b = absurd (omega arith)

    pub old_writes_are : (c : Counted) → c.writes ≡ writers (code_system C) code_tests P.x.state (Datum q v) → (r : ℕ) → r + given_times C L (λ e. e.writes) fs d j (os C I L es F w n t G P) ≡ c.writes + added_times C L (λ e. e.writes) (hs C I L es F w n t G P) d ms → r ≡ writers (code_system C) code_tests t (Datum q v)
    old_writes_are c e r h =
        by (os C I L es F w n t G P) (one_rest C (task C I L es F w n t G P) (computed C I L es F w n t G P)) (h ∙ (λ i. e i + all_writes i)) ((counts C I L es F w n t G P).old_writes q v there)
      where
        by : (ps : List (Opening Task Place)) → length ps ≤ 1 → r + given_times C L (λ e. e.writes) fs d j ps ≡ writers (code_system C) code_tests P.x.state (Datum q v) + added_by C (λ e. e.writes) (Datum q v) blocks → writers (code_system C) code_tests t (Datum q v) + times (code_system C) code_tests (Datum q v) (task_writes C (task_of fs j)) ≡ writers (code_system C) code_tests P.x.state (Datum q v) + (added_by C (λ e. e.writes) (Datum q v) blocks + length ps * times (code_system C) code_tests (Datum q v) (task_writes C (task_of fs j))) → r ≡ writers (code_system C) code_tests t (Datum q v)
        by [] l a b = (let z = own_write_times j refl in omega arith)
        by (p ∷ []) l a b = omega arith
        by (p ∷ p' ∷ ps) l a b = absurd (omega arith)

  -- free data have no counts, and others have
  pub not_free : (a : Place) → 0 < readers (code_system C) code_tests t a + writers (code_system C) code_tests t a → Free (code_system C) t a → ⊥
  not_free a lt f = let c = free_counts (code_system C) code_tests (code_told C) t a f in let x = c.0 in let y = c.1 in omega arith

  pub counted : (a : Place) → (Free (code_system C) t a → ⊥) → 0 < readers (code_system C) code_tests t a + writers (code_system C) code_tests t a
  counted a nf = by (readers (code_system C) code_tests t a) (writers (code_system C) code_tests t a) refl refl
    where
      by : (r u : ℕ) → readers (code_system C) code_tests t a ≡ r → writers (code_system C) code_tests t a ≡ u → 0 < readers (code_system C) code_tests t a + writers (code_system C) code_tests t a
      by zero zero e g = absurd (nf (counts_free (code_system C) code_tests (code_told C) t a e g))
      by (suc r) u e g = omega arith
      by zero (suc u) e g = omega arith

  abbrev own_reads_of : ℕ → Variable → ℕ
  own_reads_of b v = own_count C (λ e. e.reads) b v

  abbrev own_writes_of : ℕ → Variable → ℕ
  own_writes_of b v = own_count C (λ e. e.writes) b v

  pub new_reads : (m : Instance) (v : Variable) → In m ms → In v (body C m.body).makes → readers (code_system C) code_tests t (Datum m.path v) ≡ own_count C (λ e. e.reads) m.body v
  new_reads m v i iv = (counts C I L es F w n t G P).own_reads m.body m.path v (made_block C I L es F w n t G P m i).0 iv

  pub new_writes : (m : Instance) (v : Variable) → In m ms → In v (body C m.body).makes → writers (code_system C) code_tests t (Datum m.path v) ≡ own_count C (λ e. e.writes) m.body v
  new_writes m v i iv = (counts C I L es F w n t G P).own_writes m.body m.path v (made_block C I L es F w n t G P m i).0 iv

  -- the names of new data
  abbrev new_name : Instance → Variable → Slot → List (ℕ × Place)
  new_name m v Absent = []
  new_name m v (LiteralOf e k) = []
  new_name m v (DatumOf d) = if nat_lt 0 (own_reads_of m.body v + own_writes_of m.body v) then (d, Datum m.path v) ∷ [] else []

  abbrev names_of : Instance → List (ℕ × Place)
  names_of m = flat_map (λ v. new_name m v (slot_for L (hs C I L es F w n t G P) m.key m.body (here v))) (body C m.body).makes

  abbrev is_cell : Option Counted → Bool
  is_cell None = false
  is_cell (Some c) = true

  abbrev still : ℕ × Place → Bool
  still p = is_cell (slot_at G.cells p.0)

  -- names afterwards: those whose data are there still, and those of new data
  abbrev pub names_after : List (ℕ × Place)
  names_after = filter still names ++ flat_map names_of ms

  name_new : (d : ℕ) (a : Place) (m : Instance) (v : Variable) (x : Slot) → In (d, a) (new_name m v x) → (0 < own_reads_of m.body v + own_writes_of m.body v) × (x ≡ DatumOf d) × (a ≡ Datum m.path v)
  name_new d a m v Absent h = absurd h
  name_new d a m v (LiteralOf e k) h = absurd h
  name_new d a m v (DatumOf e) h =
      choose (λ (l : List (ℕ × Place)). In (d, a) l → (0 < own_reads_of m.body v + own_writes_of m.body v) × (DatumOf e ≡ DatumOf d) × (a ≡ Datum m.path v)) (nat_lt 0 (own_reads_of m.body v + own_writes_of m.body v)) ((e, Datum m.path v) ∷ []) []
      (λ u g. elim g [ inl p ↦ (below (own_reads_of m.body v + own_writes_of m.body v) u, ap (λ (z : ℕ × Place). DatumOf z.0) (sym p), ap (λ (z : ℕ × Place). z.1) p) | inr b ↦ absurd b ])
      (λ u g. absurd g)
      h
    where
      below : (k : ℕ) → nat_lt 0 k ≡ true → 0 < k
      below k h = grind arith

  new_names_in : (d : ℕ) (m : Instance) (v : Variable) → In m ms → IsOwn C L (hs C I L es F w n t G P) m v d → In (d, Datum m.path v) (flat_map names_of ms)
  new_names_in d m v i o =
      flat_in names_of ms m (d, Datum m.path v) i (flat_in (λ v. new_name m v (slot_for L (hs C I L es F w n t G P) m.key m.body (here v))) (body C m.body).makes v (d, Datum m.path v) o.declared
      (subst (λ (x : Slot). In (d, Datum m.path v) (new_name m v x)) (sym o.leads)
      (choose (λ (l : List (ℕ × Place)). In (d, Datum m.path v) l) (nat_lt 0 (own_reads_of m.body v + own_writes_of m.body v)) ((d, Datum m.path v) ∷ []) []
      (λ u. inl refl) (λ u. absurd (not_below (own_reads_of m.body v + own_writes_of m.body v) u o.named)))))
    where
      not_below : (k : ℕ) → nat_lt 0 k ≡ false → 0 < k → ⊥
      not_below k h l = grind arith

  -- a name afterwards is one of a datum that was there, or of a new one
  pub record NameIs (d : ℕ) (a : Place) : Type 0 where
    pub is : (In (d, a) names × ((c : Counted) × (slot_at G.cells d ≡ Some c))) ⊎ ((m : Instance) × (v : Variable) × In m ms × IsOwn C L (hs C I L es F w n t G P) m v d × (a ≡ Datum m.path v))

  pub name_is : (d : ℕ) (a : Place) → In (d, a) names_after → NameIs d a
  name_is d a h =
      elim (in_split (d, a) (filter still names) (flat_map names_of ms) h) [
        | inl g ↦ (let p = in_kept still (d, a) names g in record { is = inl (p.0, cell (slot_at G.cells d) refl p.1) })
        | inr g ↦ (let p = in_flat names_of ms (d, a) g in
            let q = in_flat (λ v. new_name p.0 v (slot_for L (hs C I L es F w n t G P) p.0.key p.0.body (here v))) (body C p.0.body).makes (d, a) p.2 in
            let r = name_new d a p.0 q.0 (slot_for L (hs C I L es F w n t G P) p.0.key p.0.body (here q.0)) q.2 in
            record { is = inr (p.0, q.0, p.1, record { declared = q.1; named = r.0; leads = r.1 }, r.2) })
      ]
    where
      cell : (x : Option Counted) → slot_at G.cells d ≡ x → is_cell (slot_at G.cells d) ≡ true → (c : Counted) × (slot_at G.cells d ≡ Some c)
      cell None e u = yes_no u (ap is_cell e)
      cell (Some c) e u = (c, e)

  pub old_name : (d : ℕ) (a : Place) (c : Counted) → In (d, a) names → slot_at G.cells d ≡ Some c → In (d, a) names_after
  old_name d a c h e = in_left (d, a) (filter still names) (flat_map names_of ms) (kept_in still (d, a) names h (ap is_cell e))

  pub own_name : (d : ℕ) (m : Instance) (v : Variable) → In m ms → IsOwn C L (hs C I L es F w n t G P) m v d → In (d, Datum m.path v) names_after
  own_name d m v i o = in_right (d, Datum m.path v) (filter still names) (flat_map names_of ms) (new_names_in d m v i o)

  -- the cell of a datum that was there
  pub record OldCell (d : ℕ) (a : Place) : Type 0 where
    pub before : Counted
    pub was : slot_at F.cells d ≡ Some before
    pub stood : CellStands C P.x.state a before
    pub after : CellAfter C L fs (hs C I L es F w n t G P) j (computed C I L es F w n t G P) ms (os C I L es F w n t G P) d before (slot_at G.cells d)
    pub reads : after.reads ≡ readers (code_system C) code_tests t a
    pub writes : after.writes ≡ writers (code_system C) code_tests t a

  pub old_cell : (d : ℕ) (a : Place) → In (d, a) names → OldCell d a
  old_cell d a h =
      let c = P.x.data_stand.there d a h in
      let f = P.to.cells.old d c.0 c.1 in
      let z = datum_only C I L es F w n t G P a (P.x.data_stand.naming.there d a h) in
      let h' = subst (λ (b : Place). In (d, b) names) z.2 h in
      record {
        before = c.0;
        was = c.1;
        stood = c.2;
        after = f;
        reads = old_reads_are d z.0 z.1 h' c.0 (c.2.reads ∙ ap (readers (code_system C) code_tests P.x.state) z.2) f.reads f.reads_are ∙ ap (readers (code_system C) code_tests t) (sym z.2);
        writes = old_writes_are d z.0 z.1 h' c.0 (c.2.writes ∙ ap (writers (code_system C) code_tests P.x.state) z.2) f.writes f.writes_are ∙ ap (writers (code_system C) code_tests t) (sym z.2);
      }

  -- it is there as long as the datum is not free
  pub old_cell_there : (d : ℕ) (a : Place) (h : In (d, a) names) → (Free (code_system C) t a → ⊥) → slot_at G.cells d ≡ Some (record { reads = (old_cell d a h).after.reads; writes = (old_cell d a h).after.writes; content = (old_cell d a h).after.content })
  old_cell_there d a h nf =
      let x = old_cell d a h in
      let r = x.reads in
      let u = x.writes in
      x.after.is ∙ kept_is x.after.reads x.after.writes x.after.content (subst (λ (k : ℕ). 0 < k) (λ i. sym r i + sym u i) (counted a nf))

  pub old_cell_used : (d : ℕ) (a : Place) (h : In (d, a) names) (c : Counted) → slot_at G.cells d ≡ Some c → (Free (code_system C) t a → ⊥) × (c ≡ record { reads = (old_cell d a h).after.reads; writes = (old_cell d a h).after.writes; content = (old_cell d a h).after.content })
  old_cell_used d a h c e =
      let x = old_cell d a h in
      let p = is_kept x.after.reads x.after.writes x.after.content c (sym x.after.is ∙ e) in
      (not_free a (subst (λ (k : ℕ). 0 < k) (λ i. x.reads i + x.writes i) p.0), p.1)

  new_used : (m : Instance) (v : Variable) → In m ms → In v (body C m.body).makes → 0 < own_reads_of m.body v + own_writes_of m.body v → Free (code_system C) t (Datum m.path v) → ⊥
  new_used m v i iv lt = not_free (Datum m.path v) (subst (λ (k : ℕ). 0 < k) (λ z. sym (new_reads m v i iv) z + sym (new_writes m v i iv) z) lt)

  pub new_there : (m : Instance) (v : Variable) → In m ms → In v (body C m.body).makes → 0 < own_reads_of m.body v + own_writes_of m.body v → In (Datum m.path v) t.places
  new_there m v i iv lt =
      place_stays C I L es F w n t G P (Datum m.path v) (is_made C I L es F w n t G P (m.body, m.path) v (made_block C I L es F w n t G P m i).0 iv) (new_used m v i iv lt)

  -- a new datum was not there
  pub new_apart : (m : Instance) (v : Variable) → In m ms → In v (body C m.body).makes → In (Datum m.path v) P.x.state.places → ⊥
  new_apart m v i iv h =
      made_new C I L es F w n t G P (m.body, m.path) (made_block C I L es F w n t G P m i).0 (Datum m.path v) (in_map (Datum m.path) v (body C m.body).makes iv) h

  -- an instance is told by its block, and by its key
  pub same_instance : (m l : Instance) → In m ms → In l ms → m.body ≡ l.body → m.path ≡ l.path → m ≡ l
  same_instance m l i k eb ep =
      let d = (code_laws C I).opens_distinct (o C I L es F w n t G P).item.task (o C I L es F w n t G P).effect (can C I L es F w n t G P) in
      let e = distinct_made C blocks (os C I L es F w n t G P) (subst (λ (ps : List (Opening Task Place)). Distinct (tasks_of ps)) (opens_are C I L es F w n t G P) d) in
      one_of (λ (m : Instance). (m.body, m.path)) ms m l (subst (λ (ss : List (ℕ × List Step)). Distinct ss) (sym P.to.made_are) e) i k (λ z. (eb z, ep z))

  pub same_key : (m l : Instance) → In m ms → In l ms → m.key ≡ l.key → m ≡ l
  same_key m l i k e = one_of (λ (m : Instance). m.key) ms m l P.to.opens.keys i k e

  some_slot : (a b : ℕ) → DatumOf a ≡ DatumOf b → a ≡ b
  some_slot a b h = cc

  pub naming : IsNaming (code_system C) ℕ names_after t.places
  naming = record { named = named; there = there_; one_name = one_name_; one_datum = one_datum_ }
    where
      named : (a : Place) → In a t.places → (d : ℕ) × In (d, a) names_after
      named a h =
          elim (place_was C I L es F w n t G P a h) [
            | inl g ↦ (let p = made_is C I L es F w n t G P a g in
                let nf = (bare_t C I L es F w n t G P).places a h in
                new_named a p.0 p.1 p.2 p.3 p.4 nf)
            | inr g ↦ (let d = P.x.data_stand.naming.named a g in
                (d.0, old_name d.0 a _ d.1 (old_cell_there d.0 a d.1 ((bare_t C I L es F w n t G P).places a h))))
          ]
        where
          new_named : (a : Place) (b : ℕ × List Step) (v : Variable) → In b blocks → In v (body C b.0).makes → a ≡ Datum b.1 v → (Free (code_system C) t a → ⊥) → (d : ℕ) × In (d, a) names_after
          new_named a b v ib iv e nf =
              let lt = subst (λ (k : ℕ). 0 < k) (λ z. (counts C I L es F w n t G P).own_reads b.0 b.1 v ib iv z + (counts C I L es F w n t G P).own_writes b.0 b.1 v ib iv z) (counted (Datum b.1 v) (subst (λ (y : Place). Free (code_system C) t y → ⊥) e nf)) in
              let m = made_of b ib (entries_of b v lt) in
              let lt' : 0 < own_reads_of m.0.body v + own_writes_of m.0.body v = subst (λ (y : ℕ × List Step). 0 < own_reads_of y.0 v + own_writes_of y.0 v) (sym m.2) lt in
              let iv' : In v (body C m.0.body).makes = subst (λ (y : ℕ × List Step). In v (body C y.0).makes) (sym m.2) iv in
              let c = P.to.cells.new m.0 v m.1 iv' lt' in
              (c.key, subst (λ (y : Place). In (c.key, y) names_after) (ap (λ (y : ℕ × List Step). Datum y.1 v) m.2 ∙ sym e) (own_name c.key m.0 v m.1 (record { declared = iv'; named = lt'; leads = c.leads })))
            where
              entries_of : (b : ℕ × List Step) (v : Variable) → 0 < own_reads_of b.0 v + own_writes_of b.0 v → has_entries C b ≡ true
              entries_of b v lt = by (body C b.0).entries refl
                where
                  by : (xs : List ℕ) → (body C b.0).entries ≡ xs → has_entries C b ≡ true
                  by [] z = (let r = ap (λ (l : List ℕ). name_times (here v) (flat_map (λ j. (entry C j).reads) l)) z in let u = ap (λ (l : List ℕ). name_times (here v) (flat_map (λ j. (entry C j).writes) l)) z in absurd (omega arith))
                  by (x ∷ xs) z = ap is_some_list z

              made_of : (b : ℕ × List Step) → In b blocks → has_entries C b ≡ true → (m : Instance) × In m ms × (◌≡◌ {A = ℕ × List Step} (m.body, m.path) b)
              made_of b ib u = in_unmap (λ (m : Instance). (m.body, m.path)) b ms (subst (λ (l : List (ℕ × List Step)). In b l) (sym P.to.made_are) (kept_in (has_entries C) b blocks ib u))

      there_ : (d : ℕ) (a : Place) → In (d, a) names_after → In a t.places
      there_ d a h =
          elim (name_is d a h).is [
            | inl g ↦ old_place C I L es F w n t G P a (P.x.data_stand.naming.there d a g.0) (old_cell_used d a g.0 g.1.0 g.1.1).0
            | inr g ↦ subst (λ (y : Place). In y t.places) (sym g.4) (new_there g.0 g.1 g.2 g.3.declared g.3.named)
          ]

      old_new : {B : Type 0} (d : ℕ) (a : Place) (m : Instance) (v : Variable) → In (d, a) names → In m ms → In v (body C m.body).makes → a ≡ Datum m.path v → B
      old_new d a m v h i iv e = absurd (new_apart m v i iv (subst (λ (y : Place). In y P.x.state.places) e (P.x.data_stand.naming.there d a h)))

      one_name_ : (d e : ℕ) (a : Place) → In (d, a) names_after → In (e, a) names_after → d ≡ e
      one_name_ d e a h g =
          elim (name_is d a h).is [
            | inl p ↦ elim (name_is e a g).is [
              | inl q ↦ P.x.data_stand.naming.one_name d e a p.0 q.0
              | inr q ↦ old_new d a q.0 q.1 p.0 q.2 q.3.declared q.4
            ]
            | inr p ↦ elim (name_is e a g).is [
              | inl q ↦ old_new e a p.0 p.1 q.0 p.2 p.3.declared p.4
              | inr q ↦ (let z = sym p.4 ∙ q.4 in
                  let ev = spot_variable z in
                  let eb = I.makes_once p.0.body q.0.body q.1 (subst (λ (y : Variable). In y (body C p.0.body).makes) ev p.3.declared) q.3.declared in
                  let em = same_instance p.0 q.0 p.2 q.2 eb (spot_path z) in
                  some_slot d e (sym p.3.leads ∙ (λ i. slot_for L (hs C I L es F w n t G P) (em i).key (em i).body (here (ev i))) ∙ q.3.leads))
            ]
          ]

      fresh_key : (d : ℕ) (m : Instance) (v : Variable) → In m ms → IsOwn C L (hs C I L es F w n t G P) m v d → slot_at F.cells d ≡ None
      fresh_key d m v i o =
          let c = P.to.cells.new m v i o.declared o.named in
          subst (λ (y : ℕ). slot_at F.cells y ≡ None) (some_slot c.key d (sym c.leads ∙ o.leads)) c.fresh

      one_datum_ : (d : ℕ) (a b : Place) → In (d, a) names_after → In (d, b) names_after → a ≡ b
      one_datum_ d a b h g =
          elim (name_is d a h).is [
            | inl p ↦ elim (name_is d b g).is [
              | inl q ↦ P.x.data_stand.naming.one_datum d a b p.0 q.0
              | inr q ↦ (let c = P.x.data_stand.there d a p.0 in none_some (sym (fresh_key d q.0 q.1 q.2 q.3) ∙ c.1))
            ]
            | inr p ↦ elim (name_is d b g).is [
              | inl q ↦ (let c = P.x.data_stand.there d b q.0 in none_some (sym (fresh_key d p.0 p.1 p.2 p.3) ∙ c.1))
              | inr q ↦ (let z = P.to.cells.apart p.0 q.0 p.1 q.1 d p.2 q.2 p.3 q.3 in
                  let em = same_key p.0 q.0 p.2 q.2 z.0 in
                  p.4 ∙ (λ i. Datum (em i).path (z.1 i)) ∙ sym q.4)
            ]
          ]
