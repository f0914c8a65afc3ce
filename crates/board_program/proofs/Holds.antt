-- Holds added one after the other.
use Rattle.std.proofs.Common.{◌≡◌, ◌∙◌, refl, sym, ap, subst, ℕ, zero, suc, ◌+◌, ◌<◌, ◌≤◌, List, [], ◌∷◌, ◌++◌, length, map, take, Some, None, Bool, true, false, not, arith}
use Rattle.std.specs.Prelude.{set, slice_index_or, if◌then◌else◌}
use Rattle.std.proofs.lemmas.List.{map-append}
use Rattle.board_history.specs.Ending.{held_times, slot_is}
use Rattle.board_history.specs.Fields.{Slot}
use Rattle.board_history.specs.Static as Static
use Rattle.board_history.specs.Static.{counted_names, names_in, outer_holds}
use Rattle.task_code.proofs.Equal.{name_sound}
use Rattle.task_code.specs.Check.{is_declared}
use Rattle.task_code.specs.Code.{body, Code, Entry, entry, Name}
use Rattle.task_code.specs.Places.{name_eq}
use Rattle.task_code.specs.View.{entry_view, name_view}
use Rattle.task_code.specs.declared.entry.Entry.{Entry as EntryValue}
use Rattle.task_code.specs.declared.entry.Name.{Name as NameValue}
use Rattle.board_program.proofs.Counts.{blank_there}
use Rattle.board_program.proofs.Homes.{plus, taken, whole}
use Rattle.board_program.specs.Spots.{spot_in}
use Rattle.board_program.specs.Tables.{GainsHold, GainsNames, GainsRights, HoldsOf, at_name, at_spot, hold_times, named_by, names_of, outside}
use Rattle.board_program.specs.declared.program.Hold.{Hold}
use Rattle.board_program.specs.declared.lexical_address.LexicalAddress.{LexicalAddress}

-- one hold more, or a hold that grows
swap : (a b c e x : ℕ) → a + b ≡ c + e → (x + a) + b ≡ (x + c) + e
swap a b c e x h = omega (arith, h)

turn : (a b x : ℕ) → (a + x) + b ≡ (b + x) + a
turn a b x = omega arith

times_set : (c : Hold → ℕ) (f : LexicalAddress → Slot) (d : ℕ) (hs : List Hold) (i : ℕ) (x h : Hold) → i < length hs → hold_times f c d (set hs i h) + (if slot_is d (f (slice_index_or hs i x).spot) then c (slice_index_or hs i x) else 0) ≡ hold_times f c d hs + (if slot_is d (f h.spot) then c h else 0)
times_set c f d [] i x h l = absurd (omega (arith, l))
times_set c f d (y ∷ hs) zero x h l = turn (if slot_is d (f h.spot) then c h else 0) (if slot_is d (f y.spot) then c y else 0) (hold_times f c d hs)
times_set c f d (y ∷ hs) (suc i) x h l = swap _ _ _ _ (if slot_is d (f y.spot) then c y else 0) (times_set c f d hs i x h (omega (arith, l)))

times_push : (c : Hold → ℕ) (f : LexicalAddress → Slot) (d : ℕ) (hs : List Hold) (h : Hold) → hold_times f c d (hs ++ h ∷ []) ≡ hold_times f c d hs + (if slot_is d (f h.spot) then c h else 0)
times_push c f d [] h = let x = (if slot_is d (f h.spot) then c h else 0) in sum x
  where
    sum : (x : ℕ) → x + 0 ≡ 0 + x
    sum x = omega arith
times_push c f d (y ∷ hs) h = let e = times_push c f d hs h in sums (if slot_is d (f y.spot) then c y else 0) _ _ _ e
  where
    sums : (x a b z : ℕ) → a ≡ b + z → x + a ≡ (x + b) + z
    sums x a b z h = omega (arith, h)

grown : (b : Bool) (new old c k : ℕ) → new + (if b then c else 0) ≡ old + (if b then c + k else 0) → new ≡ old + (if b then k else 0)
grown true new old c k h = omega (arith, h)
grown false new old c k h = omega (arith, h)

pub set_gains : (hs : List Hold) (i : ℕ) (x h : Hold) → i < length hs → (slice_index_or hs i x).spot ≡ h.spot → GainsHold hs (set hs i (record { spot = (slice_index_or hs i x).spot; reads = (slice_index_or hs i x).reads + h.reads; writes = (slice_index_or hs i x).writes + h.writes })) h
set_gains hs i x h l e =
    let y = slice_index_or hs i x in
    let z : Hold = record { spot = y.spot; reads = y.reads + h.reads; writes = y.writes + h.writes } in
    record {
      reads = λ f d. grown (slot_is d (f y.spot)) _ _ y.reads h.reads (times_set (λ a. a.reads) f d hs i x z l) ∙ ap (λ (s : LexicalAddress). hold_times f (λ a. a.reads) d hs + (if slot_is d (f s) then h.reads else 0)) e;
      writes = λ f d. grown (slot_is d (f y.spot)) _ _ y.writes h.writes (times_set (λ a. a.writes) f d hs i x z l) ∙ ap (λ (s : LexicalAddress). hold_times f (λ a. a.writes) d hs + (if slot_is d (f s) then h.writes else 0)) e;
    }

pub push_gains : (hs : List Hold) (h : Hold) → GainsHold hs (hs ++ h ∷ []) h
push_gains hs h = record { reads = λ f d. times_push (λ a. a.reads) f d hs h; writes = λ f d. times_push (λ a. a.writes) f d hs h }

-- names
by_append : (k : ℕ) (g : Name → Slot) (d : ℕ) (xs ys : List Name) → named_by k g d (xs ++ ys) ≡ named_by k g d xs + named_by k g d ys
by_append k g d [] ys = sym (plus _)
by_append k g d (x ∷ xs) ys = sums (if slot_is d (g x) then k else 0) _ _ _ (by_append k g d xs ys)
  where
    sums : (x a b z : ℕ) → a ≡ b + z → x + a ≡ (x + b) + z
    sums x a b z h = omega (arith, h)

by_none : (g : Name → Slot) (d : ℕ) (xs : List Name) → named_by 0 g d xs ≡ 0
by_none g d [] = refl
by_none g d (x ∷ xs) = zeros (slot_is d (g x)) (by_none g d xs)
  where
    zeros : (b : Bool) {n : ℕ} → n ≡ 0 → (if b then 0 else 0) + n ≡ 0
    zeros true h = plus _ ∙ h
    zeros false h = plus _ ∙ h

module _ (C : Code) (b : ℕ) where
  out_append : (xs ys : List Name) → outside C b (xs ++ ys) ≡ outside C b xs ++ outside C b ys
  out_append [] ys = refl
  out_append (x ∷ xs) ys = by (not (is_declared C b x)) _ _ _ (out_append xs ys)
    where
      by : (c : Bool) (l m n : List Name) → l ≡ m ++ n → (if c then x ∷ l else l) ≡ (if c then x ∷ m else m) ++ n
      by true l m n h = ap (λ l. x ∷ l) h
      by false l m n h = h

  out_by : (k : ℕ) (g : Name → Slot) (d : ℕ) (xs ys : List Name) → named_by k g d (outside C b (xs ++ ys)) ≡ named_by k g d (outside C b xs) + named_by k g d (outside C b ys)
  out_by k g d xs ys = ap (named_by k g d) (out_append xs ys) ∙ by_append k g d (outside C b xs) (outside C b ys)

  declared_out : (r : Name) → is_declared C b r ≡ true → outside C b (r ∷ []) ≡ []
  declared_out r h = ap (λ x. if not x then r ∷ [] else []) h

  other_out : (r : Name) → is_declared C b r ≡ false → outside C b (r ∷ []) ≡ r ∷ []
  other_out r h = ap (λ x. if not x then r ∷ [] else []) h

  plus_none : (n : ℕ) → n ≡ n + 0
  plus_none n = omega arith

  pub gains_own : (k l : ℕ) (r : Name) (hs : List Hold) → is_declared C b r ≡ true → GainsNames C b k l (r ∷ []) hs hs
  gains_own k l r hs h = record {
    reads_are = λ f d. plus_none _ ∙ sym (ap (λ rs. hold_times f (λ x. x.reads) d hs + named_by k (at_name C b f) d rs) (declared_out r h));
    writes_are = λ f d. plus_none _ ∙ sym (ap (λ rs. hold_times f (λ x. x.writes) d hs + named_by l (at_name C b f) d rs) (declared_out r h));
  }

  pub gains_nowhere : (k l : ℕ) (r : Name) (hs : List Hold) → is_declared C b r ≡ false → spot_in C b r ≡ None → GainsNames C b k l (r ∷ []) hs hs
  gains_nowhere k l r hs h e = record {
    reads_are = λ f d. nothing k f d (hold_times f (λ x. x.reads) d hs);
    writes_are = λ f d. nothing l f d (hold_times f (λ x. x.writes) d hs);
  }
    where
      nothing : (k : ℕ) (f : LexicalAddress → Slot) (d n : ℕ) → n ≡ n + named_by k (at_name C b f) d (outside C b (r ∷ []))
      nothing k f d n =
          plus_none n
          ∙ sym (ap (λ rs. n + named_by k (at_name C b f) d rs) (other_out r h) ∙ ap (λ o. n + ((if slot_is d (at_spot f o) then k else 0) + 0)) e)

  pub gains_one : (k l : ℕ) (r : Name) (s : LexicalAddress) (hs gs : List Hold) → is_declared C b r ≡ false → spot_in C b r ≡ Some s → GainsHold hs gs (record { spot = s; reads = k; writes = l }) → GainsNames C b k l (r ∷ []) hs gs
  gains_one k l r s hs gs h e g = record {
    reads_are = λ f d. g.reads f d ∙ one k f d (hold_times f (λ x. x.reads) d hs);
    writes_are = λ f d. g.writes f d ∙ one l f d (hold_times f (λ x. x.writes) d hs);
  }
    where
      alone : (n x : ℕ) → n + x ≡ n + (x + 0)
      alone n x = omega arith

      one : (k : ℕ) (f : LexicalAddress → Slot) (d n : ℕ) → n + (if slot_is d (f s) then k else 0) ≡ n + named_by k (at_name C b f) d (outside C b (r ∷ []))
      one k f d n =
          alone n (if slot_is d (f s) then k else 0)
          ∙ sym (ap (λ rs. n + named_by k (at_name C b f) d rs) (other_out r h) ∙ ap (λ o. n + ((if slot_is d (at_spot f o) then k else 0) + 0)) e)

  pub gains_none : (k l : ℕ) (hs : List Hold) → GainsNames C b k l [] hs hs
  gains_none k l hs = record { reads_are = λ f d. plus_none _; writes_are = λ f d. plus_none _ }

  join : (x y z a c : ℕ) → y ≡ x + a → z ≡ y + c → z ≡ x + (a + c)
  join x y z a c p q = omega (arith, p, q)

  gains_more : (k l : ℕ) (xs ys : List Name) (hs ms gs : List Hold) → GainsNames C b k l xs hs ms → GainsNames C b k l ys ms gs → GainsNames C b k l (xs ++ ys) hs gs
  gains_more k l xs ys hs ms gs x y = record {
    reads_are = λ f d. join _ _ _ _ _ (x.reads_are f d) (y.reads_are f d) ∙ ap (λ n. hold_times f (λ x. x.reads) d hs + n) (sym (out_by k (at_name C b f) d xs ys));
    writes_are = λ f d. join _ _ _ _ _ (x.writes_are f d) (y.writes_are f d) ∙ ap (λ n. hold_times f (λ x. x.writes) d hs + n) (sym (out_by l (at_name C b f) d xs ys));
  }

  pub gains_next : (k l : ℕ) (xs : List NameValue) (i : ℕ) (d : NameValue) (hs ms gs : List Hold) → GainsNames C b k l (map name_view (take i xs)) hs ms → GainsNames C b k l (name_view (slice_index_or xs i d) ∷ []) ms gs → i < length xs → GainsNames C b k l (map name_view (take (i + 1) xs)) hs gs
  gains_next k l xs i d hs ms gs x y h =
      subst (λ rs. GainsNames C b k l rs hs gs) (sym (ap (map name_view) (taken xs i d h) ∙ map-append name_view (take i xs) (slice_index_or xs i d ∷ [])))
      (gains_more k l (map name_view (take i xs)) (name_view (slice_index_or xs i d) ∷ []) hs ms gs x y)

  pub gains_all : (k l : ℕ) (xs : List NameValue) (i : ℕ) (hs gs : List Hold) → GainsNames C b k l (map name_view (take i xs)) hs gs → length xs ≤ i → GainsNames C b k l (map name_view xs) hs gs
  gains_all k l xs i hs gs x h = subst (λ (rs : List NameValue). GainsNames C b k l (map name_view rs) hs gs) (whole xs i h) x

  -- entries
  names_more : (rights : Entry → List Name) (is js : List ℕ) → names_of C rights (is ++ js) ≡ names_of C rights is ++ names_of C rights js
  names_more rights [] js = refl
  names_more rights (i ∷ is) js = ap (λ l. rights (entry C i) ++ l) (names_more rights is js) ∙ sym (assoc (rights (entry C i)) (names_of C rights is) (names_of C rights js))
    where
      assoc : (xs ys zs : List Name) → (xs ++ ys) ++ zs ≡ xs ++ (ys ++ zs)
      assoc [] ys zs = refl
      assoc (x ∷ xs) ys zs = ap (λ l. x ∷ l) (assoc xs ys zs)

  one_entry : (rights : Entry → List Name) (j : ℕ) → names_of C rights (j ∷ []) ≡ rights (entry C j)
  one_entry rights j = right (rights (entry C j))
    where
      right : (xs : List Name) → xs ++ [] ≡ xs
      right [] = refl
      right (x ∷ xs) = ap (λ l. x ∷ l) (right xs)

  one_more : (rights : Entry → List Name) (g : Name → Slot) (d : ℕ) (js : List ℕ) (j : ℕ) → named_by 1 g d (outside C b (names_of C rights (js ++ j ∷ []))) ≡ named_by 1 g d (outside C b (names_of C rights js)) + named_by 1 g d (outside C b (rights (entry C j)))
  one_more rights g d js j =
      ap (λ l. named_by 1 g d (outside C b l)) (names_more rights js (j ∷ []) ∙ ap (λ l. names_of C rights js ++ l) (one_entry rights j))
      ∙ out_by 1 g d (names_of C rights js) (rights (entry C j))

  pub holds_none : HoldsOf C b [] []
  holds_none = record { reads = λ f d. refl; writes = λ f d. refl }

  -- what an entry may read, and then what it may write
  pub gains_rights : (e : EntryValue) (hs ms gs : List Hold) → GainsNames C b 1 0 (map name_view e.reads.items) hs ms → GainsNames C b 0 1 (map name_view e.writes.items) ms gs → GainsRights C b (entry_view e) hs gs
  gains_rights e hs ms gs y z = record {
    reads_are = λ f d. first _ _ _ _ (y.reads_are f d) (z.reads_are f d ∙ ap (λ m. hold_times f (λ x. x.reads) d ms + m) (by_none (at_name C b f) d (outside C b (map name_view e.writes.items))));
    writes_are = λ f d. second _ _ _ _ (y.writes_are f d ∙ ap (λ m. hold_times f (λ x. x.writes) d hs + m) (by_none (at_name C b f) d (outside C b (map name_view e.reads.items)))) (z.writes_are f d);
  }
    where
      first : (h m r g : ℕ) → m ≡ h + r → g ≡ m + 0 → g ≡ h + r
      first h m r g p q = omega (arith, p, q)

      second : (h m r g : ℕ) → m ≡ h + 0 → g ≡ m + r → g ≡ h + r
      second h m r g p q = omega (arith, p, q)

  pub holds_next : (js : List ℕ) (i n : ℕ) (e : EntryValue) (hs gs : List Hold) → HoldsOf C b (take i js) hs → i < length js → entry_view e ≡ entry C (slice_index_or js i n) → GainsRights C b (entry_view e) hs gs → HoldsOf C b (take (i + 1) js) gs
  holds_next js i n e hs gs x h q y =
      let j = slice_index_or js i n in
      subst (λ is. HoldsOf C b is gs) (sym (taken js i n h)) (record {
        reads = λ f d. y.reads_are f d
            ∙ ap (λ m. m + named_by 1 (at_name C b f) d (outside C b (entry_view e).reads)) (x.reads f d)
            ∙ sym (one_more (λ e. e.reads) (at_name C b f) d (take i js) j ∙ ap (λ (t : Entry). named_by 1 (at_name C b f) d (outside C b (names_of C (λ e. e.reads) (take i js))) + named_by 1 (at_name C b f) d (outside C b t.reads)) (sym q));
        writes = λ f d. y.writes_are f d
            ∙ ap (λ m. m + named_by 1 (at_name C b f) d (outside C b (entry_view e).writes)) (x.writes f d)
            ∙ sym (one_more (λ e. e.writes) (at_name C b f) d (take i js) j ∙ ap (λ (t : Entry). named_by 1 (at_name C b f) d (outside C b (names_of C (λ e. e.writes) (take i js))) + named_by 1 (at_name C b f) d (outside C b t.writes)) (sym q));
      })

  pub holds_past : (js : List ℕ) (i n : ℕ) (hs : List Hold) → HoldsOf C b (take i js) hs → i < length js → length C.entries ≤ slice_index_or js i n → HoldsOf C b (take (i + 1) js) hs
  holds_past js i n hs x h q =
      let j = slice_index_or js i n in
      let e = blank_there C.entries j q in
      subst (λ is. HoldsOf C b is hs) (sym (taken js i n h)) (record {
        reads = λ f d. x.reads f d ∙ plus_none _ ∙ sym (one_more (λ e. e.reads) (at_name C b f) d (take i js) j ∙ ap (λ (t : Entry). named_by 1 (at_name C b f) d (outside C b (names_of C (λ e. e.reads) (take i js))) + named_by 1 (at_name C b f) d (outside C b t.reads)) e);
        writes = λ f d. x.writes f d ∙ plus_none _ ∙ sym (one_more (λ e. e.writes) (at_name C b f) d (take i js) j ∙ ap (λ (t : Entry). named_by 1 (at_name C b f) d (outside C b (names_of C (λ e. e.writes) (take i js))) + named_by 1 (at_name C b f) d (outside C b t.writes)) e);
      })

  pub holds_all : (js : List ℕ) (i : ℕ) (hs : List Hold) → HoldsOf C b (take i js) hs → length js ≤ i → HoldsOf C b js hs
  holds_all js i hs x h = subst (λ is. HoldsOf C b is hs) (whole js i h) x

  -- names with how often each is there
  held_add : (g : Name → Slot) (d : ℕ) (r : Name) (hs : List Static.Hold) → held_times g d (Static.add_hold r hs) ≡ (if slot_is d (g r) then 1 else 0) + held_times g d hs
  held_add g d r [] = refl
  held_add g d r (h ∷ hs) = by (held_add g d r hs) (name_eq r h.name) refl
    where
      more : (c : Bool) (x y n : ℕ) → x ≡ (if c then 1 else 0) → (if c then suc n else 0) + y ≡ x + ((if c then n else 0) + y)
      more true x y n e = omega (arith, e)
      more false x y n e = omega (arith, e)

      past : (x a y z : ℕ) → z ≡ x + y → a + z ≡ x + (a + y)
      past x a y z h = omega (arith, h)

      by : held_times g d (Static.add_hold r hs) ≡ (if slot_is d (g r) then 1 else 0) + held_times g d hs → (c : Bool) → name_eq r h.name ≡ c → held_times g d (if name_eq r h.name then record { name = h.name; count = suc h.count } ∷ hs else h ∷ Static.add_hold r hs) ≡ (if slot_is d (g r) then 1 else 0) + ((if slot_is d (g h.name) then h.count else 0) + held_times g d hs)
      by ih true e =
          ap (λ c. held_times g d (if c then record { name = h.name; count = suc h.count } ∷ hs else h ∷ Static.add_hold r hs)) e
          ∙ more (slot_is d (g h.name)) (if slot_is d (g r) then 1 else 0) (held_times g d hs) h.count (ap (λ (s : Name). if slot_is d (g s) then 1 else 0) (name_sound r h.name e))
      by ih false e =
          ap (λ c. held_times g d (if c then record { name = h.name; count = suc h.count } ∷ hs else h ∷ Static.add_hold r hs)) e
          ∙ past (if slot_is d (g r) then 1 else 0) (if slot_is d (g h.name) then h.count else 0) (held_times g d hs) (held_times g d (Static.add_hold r hs)) ih

  held_counted : (g : Name → Slot) (d : ℕ) (rs : List Name) → named_by 1 g d rs ≡ held_times g d (counted_names rs)
  held_counted g d [] = refl
  held_counted g d (r ∷ rs) = ap (λ n. (if slot_is d (g r) then 1 else 0) + n) (held_counted g d rs) ∙ sym (held_add g d r (counted_names rs))

  pub body_reads : (hs : List Hold) → HoldsOf C b (body C b).entries hs → (f : LexicalAddress → Slot) (d : ℕ) → hold_times f (λ x. x.reads) d hs ≡ held_times (at_name C b f) d (outer_holds C (λ e. e.reads) b)
  body_reads hs x f d = x.reads f d ∙ held_counted (at_name C b f) d (outside C b (names_in C (λ e. e.reads) b))

  pub body_writes : (hs : List Hold) → HoldsOf C b (body C b).entries hs → (f : LexicalAddress → Slot) (d : ℕ) → hold_times f (λ x. x.writes) d hs ≡ held_times (at_name C b f) d (outer_holds C (λ e. e.writes) b)
  body_writes hs x f d = x.writes f d ∙ held_counted (at_name C b f) d (outside C b (names_in C (λ e. e.writes) b))
