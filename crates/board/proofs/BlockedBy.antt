-- The statements that the fields list are those that are blocked in the state.
use Rattle.std.proofs.Common.{◌≡◌, ◌↔◌, inl, inr, ℕ, zero, suc, ◌<◌, Bool, true, false, ◌&&◌, ◌||◌, List, [], ◌∷◌, length, map, refl, sym, ap, ◌∙◌, subst, Option, None, Some, arith}
use Rattle.std.specs.Prelude.{if◌then◌else◌, nat_lt, option_map, IfOk, Result, Vec}
use Rattle.std.proofs.Common.{Ok, Err}
use Rattle.std.specs.List.{cons_option, filter_map, list_all, list_any}
use Rattle.std.proofs.lemmas.Bool.{and_parts}
use Rattle.dataflow.specs.System.{In}
use Rattle.dataflow.specs.Machine.{Event, IsKnown}
use Rattle.dataflow.proofs.Lists.{in_map, in_unmap}
use Rattle.board_program.specs.Spots.{layout_of, spot_in}
use Rattle.board_program.specs.Tables.{wanted_in}
use Rattle.board_data.proofs.Named.{slot_by}
use Rattle.board_data.specs.View.{cells_view}
use Rattle.board_data.specs.Wanted.{wanted_missed}
use Rattle.board_instances.specs.Names.{led_slot}
use Rattle.board_instances.specs.View.{frames_view, rows_view}
use Rattle.paths.specs.declared.statements.StatementInstance.{StatementInstance}
use Rattle.board_history.specs.Fields as Fields
use Rattle.board_history.specs.Fields.{Counted, Does, Frame, Job, Over, Row, Script, Slot, is_over, row_of, slot_at, slot_for, task_of}
use Rattle.board_history.specs.Needs.{missed}
use Rattle.board_history.proofs.EndedNames.{Resolved}
use Rattle.board_history.proofs.Marking.{RowIs, status_is}
use Rattle.board_history.proofs.Tests.{none_some, some_same}
use Rattle.task_code.proofs.Equal.{every_in, name_sound}
use Rattle.task_code.specs.Code.{Act, Assert, At, AtKey, Call, Cell, Closed, Code, Copy, Each, Fill, Header, If, Name, Need, Print, InsertElement, Range, Read, Set, Stored, Wait, body, entry}
use Rattle.task_code.specs.Effects.{Item, Main}
use Rattle.task_code.specs.Machine.{CodeItem, CodeState}
use Rattle.task_code.specs.Places.{Step, place_at}
use Rattle.task_code.specs.Runs.{Blocked, IsBlockedAt, counts}
use Rattle.task_code.specs.Shape.{has_headers, has_shape, is_plain, is_same_plain}
use Rattle.task_code.specs.System.{code_system}
use Rattle.task_code.specs.Whole.{IsCode}
use Rattle.board.specs.Blocked.{AreBlocked, InTextOrder}
use Rattle.board.specs.History.{state_of}
use Rattle.board.specs.Inside.{Stand}
use Rattle.board.specs.Stuck.{Place, at_place, blocked_job, blocked_offset, blocked_row, first_unknown, is_header_known, misses_none, place_of}
use Rattle.board.specs.View.{fields_view}
use Rattle.board.specs.declared.state.BoardState.{BoardState}
use Rattle.board.proofs.Moves.{item_there, row_there, state_is}
use Rattle.board.proofs.Reading.{resolved}
use Rattle.board.proofs.Stuck.{first_in, first_told}

-- members of what a filter keeps, by their rows
abbrev Among : (Row → Option Place) → List Row → Place → Type 0
Among g rows p = (m : ℕ) × (r : Row) × (row_of rows (suc m) ≡ Some r) × (g r ≡ Some p)

at_row : (g : Row → Option Place) (rows : List Row) (p : Place) → In p (filter_map g rows) → Among g rows p
at_row g [] p i = absurd i
at_row g (r ∷ rows) p i = by (λ j. at_row g rows p j) (g r) refl i
  where
    later : Among g rows p → Among g (r ∷ rows) p
    later x = (suc x.0, x.1, x.2, x.3)

    by : (In p (filter_map g rows) → Among g rows p) → (o : Option Place) → g r ≡ o → In p (cons_option o (filter_map g rows)) → Among g (r ∷ rows) p
    by f None e i = later (f i)
    by f (Some y) e (inl h) = (zero, r, refl, e ∙ ap Some (sym h))
    by f (Some y) e (inr h) = later (f h)

row_at : (g : Row → Option Place) (rows : List Row) (m : ℕ) (r : Row) (p : Place) → row_of rows (suc m) ≡ Some r → g r ≡ Some p → In p (filter_map g rows)
row_at g [] m r p h k = none_some h
row_at g (q ∷ rows) zero r p h k = subst (λ (o : Option Place). In p (cons_option o (filter_map g rows))) (sym (ap g (some_same h) ∙ k)) (inl refl)
row_at g (q ∷ rows) (suc m) r p h k = by (g q) (row_at g rows m r p h k)
  where
    by : (o : Option Place) → In p (filter_map g rows) → In p (cons_option o (filter_map g rows))
    by None i = i
    by (Some y) i = inr i

-- the headers of a wait need plain needs of their entry
plain_in : (m : Need) (ns : List Need) → list_any (is_same_plain m) ns ≡ true → (is_plain m ≡ true) × In m ns
plain_in m [] h = absurd (cc (h))
plain_in m (n ∷ ns) h = by (plain_in m ns) (is_same_plain m n) refl h
  where
    here : (m n : Need) → is_same_plain m n ≡ true → (is_plain m ≡ true) × (m ≡ n)
    here (Stored r) (Stored s) e = (refl, ap Stored (name_sound r s e))
    here (Closed r) (Closed s) e = (refl, ap Closed (name_sound r s e))
    here (Stored r) (Closed s) e = absurd (cc (e))
    here (Stored r) (At a s) e = absurd (cc (e))
    here (Stored r) (AtKey a k) e = absurd (cc (e))
    here (Closed r) (Stored s) e = absurd (cc (e))
    here (Closed r) (At a s) e = absurd (cc (e))
    here (Closed r) (AtKey a k) e = absurd (cc (e))
    here (At a r) n e = absurd (cc (e))
    here (AtKey a k) n e = absurd (cc (e))

    by : (list_any (is_same_plain m) ns ≡ true → (is_plain m ≡ true) × In m ns) → (b : Bool) → is_same_plain m n ≡ b → (b || list_any (is_same_plain m) ns) ≡ true → (is_plain m ≡ true) × In m (n ∷ ns)
    by f true e k = (let x = here m n e in (x.0, inl x.1))
    by f false e k = (let x = f k in (x.0, inr x.1))

module _ (C : Code) (I : IsCode C) where
  pub headers_plain : (e : ℕ) (hs : List Header) (b : ℕ) → (entry C e).act ≡ Wait hs b → (h : Header) → In h hs → (m : Need) → In m h.needs → (is_plain m ≡ true) × In m (entry C e).needs
  headers_plain e hs b a h i m j =
      let shape = (and_parts (list_all _ (entry C e).needs) (has_shape (entry C e).act (entry C e).needs) (I.shape e)).1 in
      let headers : has_headers hs (entry C e).needs ≡ true = subst (λ z. has_shape z (entry C e).needs ≡ true) a shape in
      let each = every_in (λ (g : Header). list_all (λ n. list_any (is_same_plain n) (entry C e).needs) g.needs) hs (and_parts (list_all (λ (g : Header). list_all (λ n. list_any (is_same_plain n) (entry C e).needs) g.needs) hs) _ headers).0 h i in
      plain_in m (entry C e).needs (every_in (λ n. list_any (is_same_plain n) (entry C e).needs) h.needs each m j)

  module _ (fs : List (Option Frame)) (cs : List (Option Counted)) (k b : ℕ) where
    abbrev pub led : Name → Slot
    led r = led_slot fs k (spot_in C b r)

    pub same_missed : (n : Need) → wanted_missed C cs (led_slot fs k) (wanted_in C b n) ≡ missed C cs led n
    same_missed (Stored r) = refl
    same_missed (Closed r) = refl
    same_missed (At a r) = refl
    same_missed (AtKey a i) = refl

    same_needs : (ns : List Need) → is_header_known C fs cs k b ns ≡ list_all (λ n. misses_none (missed C cs led n)) ns
    same_needs [] = refl
    same_needs (n ∷ ns) = ap (λ w. misses_none w && is_header_known C fs cs k b ns) (same_missed n) ∙ ap (λ z. misses_none (missed C cs led n) && z) (same_needs ns)

lt_complete : (n m : ℕ) → n < m → nat_lt n m ≡ true
lt_complete n m h = grind arith

plain_told : (own at : ℕ) → (◌≡◌ {A = Option ℕ} (Some own) (Some at)) ↔ ((true ≡ true) × (at ≡ own))
plain_told own at = (λ h. (refl, sym (some_same h)), λ h. ap Some (sym h.1))

never_told : {X : Type 0} (at : ℕ) → (◌≡◌ {A = Option ℕ} None (Some at)) ↔ ((false ≡ true) × X)
never_told at = (λ h. none_some h, λ h. absurd (cc (h.0)))

module _ (C : Code) (I : IsCode C) (es : List Event) (core : BoardState) (t : Stand C es core) where
  abbrev fs : List (Option Frame)
  fs = frames_view core.data_state.instances.slots

  abbrev cs : List (Option Counted)
  cs = cells_view core.data_state.store.cells

  abbrev rows : List Row
  rows = rows_view core.items.rows.items

  abbrev F : Fields.Fields
  F = fields_view t.told core

  abbrev s : CodeState
  s = t.stands.state

  same_first : (k b : ℕ) (hs : List Header) (e : ℕ) (p : List Step) (res : (r : Name) → In r (entry C e).reads → Resolved C t.stands.names (led C I fs cs k b r) (place_at C p r)) → first_unknown C fs cs k b hs ≡ first_in C I (layout_of C) es F t.stands e p (led C I fs cs k b) res hs
  same_first k b [] e p res = refl
  same_first k b (h ∷ hs) e p res =
      ap (λ z. if z then first_unknown C fs cs k b hs else Some h.at) (same_needs C I fs cs k b h.needs)
      ∙ ap (λ o. if list_all (λ n. misses_none (missed C cs (led C I fs cs k b) n)) h.needs then o else Some h.at) (same_first k b hs e p res)

  -- the statement of a live row
  module _ (n k e c : ℕ) (r : Row) (there : row_of rows n ≡ Some r) (job : r.job ≡ Does k e c) (live : r.status ≡ Over → ⊥) where
    pub home : (f : Frame) × (slot_at fs k ≡ Some f) × In e (body C f.body).entries
    home = t.stands.frames.there n k e c r there job live

    own : (i : CodeItem) × In i s.items × (i.task ≡ Item e (Fields.path_of fs k) c)
    own = elim (status_is r.status) [
      | inl over ↦ absurd (live over)
      | inr y ↦ (record { number = n; task = task_of fs r.job; runs = y.runs }, item_there C I (layout_of C) es F t.stands n r there y, ap (task_of fs) job)
    ]

    pub res : (x : Name) → In x (entry C e).reads → Resolved C t.stands.names (led C I fs cs k home.0.body x) (place_at C (Fields.path_of fs k) x)
    res x i = subst (λ (z : Slot). Resolved C t.stands.names z (place_at C (Fields.path_of fs k) x)) (slot_by C fs k home.0.body t.kept.few x) (resolved C I (layout_of C) es F t.stands own.0 own.1 n k e c r home.0 own.2 there job live home.1 x i)

    offset_told : (a : Act) → (entry C e).act ≡ a → (o at : ℕ) → (blocked_offset C fs cs k o a ≡ Some at) ↔ ((counts a ≡ true) × IsBlockedAt C (IsKnown (code_system C) s) (Fields.path_of fs k) a o at)
    offset_told (Wait hs b) q o at =
        let told = first_told C I (layout_of C) es F t.stands e (Fields.path_of fs k) (led C I fs cs k home.0.body) res hs (headers_plain C I e hs b q) at in
        let same = ap (λ (z : Option Frame). elim z [ None ↦ None | Some f ↦ first_unknown C fs cs k f.body hs ]) home.1 ∙ same_first k home.0.body hs e (Fields.path_of fs k) res in
        (λ h. (refl, told.0 (sym same ∙ h)), λ h. same ∙ told.1 h.1)
    offset_told (Cell x) q o at = never_told at
    offset_told Read q o at = never_told at
    offset_told (Call b xs os) q o at = never_told at
    offset_told (Set y x) q o at = plain_told o at
    offset_told (Fill y xs) q o at = plain_told o at
    offset_told (Copy y) q o at = plain_told o at
    offset_told (InsertElement y i x) q o at = plain_told o at
    offset_told (Print x) q o at = plain_told o at
    offset_told (Assert x) q o at = plain_told o at
    offset_told (If x b d) q o at = plain_told o at
    offset_told (Range l h w z) q o at = plain_told o at
    offset_told (Each z) q o at = plain_told o at

    -- where and how the statement is blocked
    pub job_offset : (p : Place) → blocked_job C fs cs (Does k e c) ≡ Some p → (counts (entry C e).act ≡ true) × IsBlockedAt C (IsKnown (code_system C) s) (Fields.path_of fs k) (entry C e).act (entry C e).at p.at
    job_offset p h = made (blocked_offset C fs cs k (entry C e).at (entry C e).act) refl (sym (ap (λ b. if b then option_map (λ z. at_place z (Fields.path_of fs k)) (blocked_offset C fs cs k (entry C e).at (entry C e).act) else None) (lt_complete e (length C.entries) (I.there home.0.body e home.2))) ∙ h)
      where
        made : (o : Option ℕ) → blocked_offset C fs cs k (entry C e).at (entry C e).act ≡ o → option_map (λ z. at_place z (Fields.path_of fs k)) o ≡ Some p → (counts (entry C e).act ≡ true) × IsBlockedAt C (IsKnown (code_system C) s) (Fields.path_of fs k) (entry C e).act (entry C e).at p.at
        made None q g = none_some g
        made (Some at) q g =
            subst (λ (z : Place). (counts (entry C e).act ≡ true) × IsBlockedAt C (IsKnown (code_system C) s) (Fields.path_of fs k) (entry C e).act (entry C e).at z.at) (some_same g) ((offset_told (entry C e).act refl (entry C e).at at).0 q)

    job_blocked : (p : Place) → blocked_job C fs cs (Does k e c) ≡ Some p → Blocked C s p.at p.path
    job_blocked p h = made (blocked_offset C fs cs k (entry C e).at (entry C e).act) refl (sym (ap (λ b. if b then option_map (λ z. at_place z (Fields.path_of fs k)) (blocked_offset C fs cs k (entry C e).at (entry C e).act) else None) (lt_complete e (length C.entries) (I.there home.0.body e home.2))) ∙ h)
      where
        made : (o : Option ℕ) → blocked_offset C fs cs k (entry C e).at (entry C e).act ≡ o → option_map (λ z. at_place z (Fields.path_of fs k)) o ≡ Some p → Blocked C s p.at p.path
        made None q g = none_some g
        made (Some at) q g =
            let b = (offset_told (entry C e).act refl (entry C e).at at).0 q in
            subst (λ (z : Place). Blocked C s z.at z.path) (some_same g) (record { item = own.0; there = own.1; number = e; chunk = c; is = own.2; counted = b.0; stands = b.1 })

    pub blocked_here : (at : ℕ) → counts (entry C e).act ≡ true → IsBlockedAt C (IsKnown (code_system C) s) (Fields.path_of fs k) (entry C e).act (entry C e).at at → blocked_job C fs cs (Does k e c) ≡ Some (at_place at (Fields.path_of fs k))
    blocked_here at h g =
        ap (λ b. if b then option_map (λ z. at_place z (Fields.path_of fs k)) (blocked_offset C fs cs k (entry C e).at (entry C e).act) else None) (lt_complete e (length C.entries) (I.there home.0.body e home.2))
        ∙ ap (option_map (λ z. at_place z (Fields.path_of fs k))) ((offset_told (entry C e).act refl (entry C e).at at).1 (h, g))

  live_status : (r : Row) → is_over r.status ≡ false → r.status ≡ Over → ⊥
  live_status r h e = (let x : true ≡ false = sym (ap is_over e) ∙ h in absurd (cc (x)))

  row_blocked : (p : Place) → Among (blocked_row C fs cs) rows p → Blocked C s p.at p.path
  row_blocked p x = by_status (is_over x.1.status) refl x.3
    where
      by_job : (j : Job) → x.1.job ≡ j → (x.1.status ≡ Over → ⊥) → blocked_job C fs cs j ≡ Some p → Blocked C s p.at p.path
      by_job Script q live g = none_some g
      by_job (Does k e c) q live g = job_blocked (suc x.0) k e c x.1 x.2 q live p g

      by_status : (b : Bool) → is_over x.1.status ≡ b → (if b then None else blocked_job C fs cs x.1.job) ≡ Some p → Blocked C s p.at p.path
      by_status true q g = none_some g
      by_status false q g = by_job x.1.job refl (live_status x.1 q) g

  status_off : (m : Fields.Status) → (m ≡ Over → ⊥) → is_over m ≡ false
  status_off Fields.Waiting h = refl
  status_off Fields.Ready h = refl
  status_off (Fields.Running w) h = refl
  status_off Over h = absurd (h refl)

  blocked_in : (at : ℕ) (path : List Step) → Blocked C s at path → In (at_place at path) (filter_map (blocked_row C fs cs) rows)
  blocked_in at path b = (let f = row_there C I (layout_of C) es F t.stands b.item b.there in by f f.row.job refl)
    where
      task_parts : {e n c d : ℕ} {p q : List Step} → Item e p c ≡ Item n q d → (e ≡ n) × (p ≡ q)
      task_parts h = (cc (h), cc (h))

      main_item : {A : Type 0} {n c : ℕ} {p : List Step} → Main ≡ Item n p c → A
      main_item h = absurd (cc (h))

      by : (f : RowIs fs rows 1 b.item) → (j : Job) → f.row.job ≡ j → In (at_place at path) (filter_map (blocked_row C fs cs) rows)
      by f Script q = main_item (sym (f.task_is ∙ ap (task_of fs) q) ∙ b.is)
      by f (Does k e c) q =
          let same = task_parts (sym (f.task_is ∙ ap (task_of fs) q) ∙ b.is) in
          let counted = subst (λ z. counts (entry C z).act ≡ true) (sym same.0) b.counted in
          let stands = subst (λ z. IsBlockedAt C (IsKnown (code_system C) s) (Fields.path_of fs k) (entry C z).act (entry C z).at at) (sym same.0) (subst (λ z. IsBlockedAt C (IsKnown (code_system C) s) z (entry C b.number).act (entry C b.number).at at) (sym same.1) b.stands) in
          let told = blocked_here (suc f.at) k e c f.row f.there q f.not_over at counted stands in
          let row : blocked_row C fs cs f.row ≡ Some (at_place at path) =
          ap (λ z. if z then None else blocked_job C fs cs f.row.job) (status_off f.row.status f.not_over) ∙ ap (blocked_job C fs cs) q ∙ told ∙ ap (λ z. Some (at_place at z)) same.1 in
          row_at (blocked_row C fs cs) rows f.at f.row (at_place at path) f.there row

  -- all blocked statements
  pub are_blocked : (ss : List StatementInstance) → ((p : Place) → In p (map place_of ss) ↔ In p (filter_map (blocked_row C fs cs) rows)) → InTextOrder ss → AreBlocked C (state_of C es) ss
  are_blocked ss same order =
      subst (λ (z : CodeState). AreBlocked C z ss) (sym (state_is C es s t.stands.reached))
      (record {
        all = λ at path b. (let u = in_unmap place_of (at_place at path) ss ((same (at_place at path)).1 (blocked_in at path b)) in (u.0, u.1, ap (λ (z : Place). z.at) u.2, ap (λ (z : Place). z.path) u.2));
        only = λ u i. row_blocked (place_of u) (at_row (blocked_row C fs cs) rows (place_of u) ((same (place_of u)).0 (in_map place_of u ss i)));
        order = order;
      })

  pub blocked_told : {E A : Type 0} (r : Result (Vec StatementInstance A) E)
      → IfOk r (λ ss. (p : Place) → In p (map place_of ss.items) ↔ In p (filter_map (blocked_row C fs cs) rows))
      → IfOk r (λ ss. InTextOrder ss.items)
      → IfOk r (λ ss. AreBlocked C (state_of C es) ss.items)
  blocked_told (Ok v) a b = are_blocked v.items a b
  blocked_told (Err e) a b = tt
