-- What comes of the end of an item that opens no block.
use Rattle.std.proofs.Common.{◌≡◌, ◌∙◌, refl, sym, ap, subst, inl, inr, ℕ, Bool, true, false, nat_eq, List, [], ◌∷◌, Option, Some, None}
use Rattle.std.specs.Prelude.{if◌then◌else◌}
use Rattle.std.specs.List.{filter}
use Rattle.std.proofs.lemmas.Bool.{cases_Bool}
use Rattle.std.proofs.lemmas.List.{append-nil}
use Rattle.dataflow.specs.Machine.{ElementTwice}
use Rattle.dataflow.specs.System.{In}
use Rattle.board_history.proofs.Next.{nat_same, nat_sound}
use Rattle.board_history.specs.Ending.{has_entries, job_stores, stored_by, stored_values}
use Rattle.board_history.specs.Ending.{slot_is}
use Rattle.board_history.proofs.Tests.{none_some, some_same}
use Rattle.board_history.specs.Fields.{Absent, Counted, DatumOf, Does, Frame, LiteralOf, Slot, path_of, slot_at, slot_for}
use Rattle.board_history.specs.Needs.{cell_element, has}
use Rattle.task_code.specs.Code.{Assert, Code, Entry, Name, Print, entry, stored_of}
use Rattle.task_code.specs.Compute.{Computed, Elements, Gives, Inserts, in_key_order}
use Rattle.task_code.specs.Effects.{effect_at, prints, rest, steps_on}
use Rattle.values.specs.declared.key.Key.{Key}
use Rattle.values.specs.declared.value.Scalar.{Scalar}
use Rattle.board_program.specs.Spots.{layout_of, spot_in}
use Rattle.board_program.specs.Tables.{first_spot, is_place}
use Rattle.board_program.specs.declared.program.EntryTable.{EntryTable}
use Rattle.board_data.proofs.Named.{slot_by}
use Rattle.board_data.specs.Wanted.{FewSlots}
use Rattle.board_instances.specs.Names.{datum_of, led_slot}
use Rattle.board_effects.specs.Effects.{GoesWell, GoesWrong, IsAtWork, IsStored, IsTarget, OpensBy, OpensNothing, lines_in, target_in, values_in}
use Rattle.board_effects.specs.Fits.{gives_elements, gives_scalar}
use Rattle.board_effects.specs.declared.effect.Effect.{Effect}
use Rattle.board_effects.specs.declared.effect.Effect.TheVariants as Does_
use Rattle.board_effects.proofs.Acts.{at_most_one, deep_plain, elements_plain, elements_silent, good, is_plain, one_stored, plain_instances, plain_loop, plain_steps, scalar_plain, scalar_silent}

slot_target : (s : Slot) (vs : Elements) (d : ℕ) → (if is_place d (datum_of s) then vs else []) ≡ (if slot_is d s then vs else [])
slot_target Absent vs d = refl
slot_target (DatumOf e) vs d = refl
slot_target (LiteralOf e n) vs d = refl

pub nowhere : (b : Bool) → ◌≡◌ {A = Elements} (if b then [] else []) []
nowhere true = refl
nowhere false = refl

module _ (C : Code) (fs : List (Option Frame)) (k i c : ℕ) where
  -- the datum that the target stands for is what the names stand for
  one_target : FewSlots fs → (b : ℕ) (rs : List Name) → at_most_one rs ≡ true → (x : Computed) (d : ℕ) → (if is_place d (datum_of (led_slot fs k (first_spot C b rs))) then stored_values x else []) ≡ stored_by (slot_for (layout_of C) fs k b) x d rs
  one_target few b [] h x d = refl
  one_target few b (r ∷ []) h x d = slot_target (led_slot fs k (spot_in C b r)) (stored_values x) d ∙ ap (λ s. if slot_is d s then stored_values x else []) (sym (slot_by C fs k b few r)) ∙ sym (append-nil (if slot_is d (slot_for (layout_of C) fs k b r) then stored_values x else []))
  one_target few b (r ∷ s ∷ rs) h x d = absurd (cc h)

  at_home : (f : Frame) → slot_at fs k ≡ Some f → (x : Computed) (d : ℕ) → job_stores C (layout_of C) fs (Does k i c) x d ≡ stored_by (slot_for (layout_of C) fs k f.body) x d (stored_of (entry C i).node (entry C i).act)
  at_home f e x d = ap (λ (o : Option Frame). stored_by (λ r. elim o [ None ↦ Absent | Some g ↦ slot_for (layout_of C) fs k g.body r ]) x d (stored_of (entry C i).node (entry C i).act)) e

  module _ (E : Entry) (t : EntryTable) (w : IsAtWork C fs k i E t) where
    abbrev pub target : Option ℕ
    target = datum_of (led_slot fs k t.target)

    pub job_target : (x : Computed) (d : ℕ) → (if is_place d target then stored_values x else []) ≡ job_stores C (layout_of C) fs (Does k i c) x d
    job_target x d =
        ap (λ s. if is_place d (datum_of (led_slot fs k s)) then stored_values x else []) w.table_is.target
        ∙ one_target w.few w.frame.body (stored_of (entry C i).node (entry C i).act) (one_stored (entry C i).node (entry C i).act) x d
        ∙ sym (at_home w.frame w.there x d)

    -- the datum that the target stands for is that of a name
    at_slot : (d : ℕ) (y : Slot) → datum_of y ≡ Some d → y ≡ DatumOf d
    at_slot d Absent h = none_some h
    at_slot d (DatumOf e) h = ap DatumOf (some_same h)
    at_slot d (LiteralOf e m) h = none_some h

    target_name : (rs : List Name) (d : ℕ) → datum_of (led_slot fs k (first_spot C w.frame.body rs)) ≡ Some d → (r : Name) × In r rs × (slot_for (layout_of C) fs k w.frame.body r ≡ DatumOf d)
    target_name [] d h = none_some h
    target_name (r ∷ rs) d h = (r, inl refl, slot_by C fs k w.frame.body w.few r ∙ at_slot d (led_slot fs k (spot_in C w.frame.body r)) h)

    pub target_leads : (d : ℕ) → target ≡ Some d → IsTarget C fs (Does k i c) d
    target_leads d h =
        let n = target_name (stored_of (entry C i).node (entry C i).act) d (ap (λ s. datum_of (led_slot fs k s)) (sym w.table_is.target) ∙ h) in
        (n.0, n.1, ap (λ (o : Option Frame). elim o [ None ↦ Absent | Some g ↦ slot_for (layout_of C) fs k g.body n.0 ]) w.there ∙ n.2)

    -- an entry that stores into no name
    pub unstored : (x : Computed) → stored_of (entry C i).node (entry C i).act ≡ [] → (d : ℕ) → job_stores C (layout_of C) fs (Does k i c) x d ≡ []
    unstored x e d = at_home w.frame w.there x d ∙ ap (stored_by (slot_for (layout_of C) fs k w.frame.body) x d) e

    pub nothing : (x : Computed) → is_plain (entry C i).act ≡ true → OpensNothing C fs (Does k i c) x
    nothing x h = record {
      none = ap (filter (has_entries C)) (plain_instances (entry C i).act (entry C i).offset (path_of fs k) c x h);
      ends = ap (λ o. rest o i (path_of fs k) c x) (plain_loop (entry C i).act h);
    }

    module _ (cs : List (Option Counted)) where
      -- a scalar
      pub scalar_ends : (v : Scalar) → gives_scalar E.act ≡ true → GoesWell C fs cs (Does k i c) (Gives v) (Does_.Stores target v)
      scalar_ends v g =
          let h : gives_scalar (entry C i).act ≡ true = subst (λ (e : Entry). gives_scalar e.act ≡ true) w.entry_is g in
          let p = scalar_plain (entry C i).act h in
          record {
            good = (effect_at C i (path_of fs k) c (Gives v), good (Gives v) _ _ refl (deep_plain (entry C i).act (path_of fs k) _ (plain_steps (entry C i).act p)));
            apart = λ q. absurd (cc (q.inserts));
            computed = refl;
            leads = target_leads;
            stored = λ d. job_target (Gives v) d;
            rises = refl;
            lines = scalar_silent (entry C i).act (Gives v) h;
            opens = nothing (Gives v) p;
          }

      -- a value that is shown or tested alone
      pub shown_ends : (e : _) (v : Scalar) → E.act ≡ Print e → GoesWell C fs cs (Does k i c) (Gives v) (Does_.Prints v)
      shown_ends e v g = by (ap (λ (e : Entry). e.act) (sym w.entry_is) ∙ g)
        where
          by : (entry C i).act ≡ Print e → GoesWell C fs cs (Does k i c) (Gives v) (Does_.Prints v)
          by a = record {
            good = (effect_at C i (path_of fs k) c (Gives v), good (Gives v) _ _ refl (deep_plain (entry C i).act (path_of fs k) _ (ap steps_on a)));
            apart = λ q. absurd (cc (q.inserts));
            computed = tt;
            leads = λ d h. none_some h;
            stored = λ d. nowhere (is_place d None) ∙ sym (unstored (Gives v) (ap (stored_of (entry C i).node) a) d);
            rises = refl;
            lines = ap (λ b. prints b (Gives v)) a;
            opens = nothing (Gives v) (ap is_plain a);
          }

      pub tested_ends : (e : _) (v : Scalar) → E.act ≡ Assert e → GoesWell C fs cs (Does k i c) (Gives v) Does_.Passes
      tested_ends e v g = by (ap (λ (e : Entry). e.act) (sym w.entry_is) ∙ g)
        where
          by : (entry C i).act ≡ Assert e → GoesWell C fs cs (Does k i c) (Gives v) Does_.Passes
          by a = record {
            good = (effect_at C i (path_of fs k) c (Gives v), good (Gives v) _ _ refl (deep_plain (entry C i).act (path_of fs k) _ (ap steps_on a)));
            apart = λ q. absurd (cc (q.inserts));
            computed = tt;
            leads = λ d h. none_some h;
            stored = λ d. nowhere (is_place d None) ∙ sym (unstored (Gives v) (ap (stored_of (entry C i).node) a) d);
            rises = refl;
            lines = ap (λ b. prints b (Gives v)) a;
            opens = nothing (Gives v) (ap is_plain a);
          }

      -- elements, none of which is there
      apart_by : (at : Option ℕ) (xs : Elements) (key : ℕ) (p : Key × Scalar) (older : Scalar) → ((d : ℕ) → at ≡ Some d → (q : Key × Scalar) → In q xs → has (cell_element q.0 (slot_at cs d)) ≡ false) → In p (if is_place key at then xs else []) → cell_element p.0 (slot_at cs key) ≡ Some older → ⊥
      apart_by None xs key p older h m e = m
      apart_by (Some d) xs key p older h m e = elim (cases_Bool (nat_eq key d)) [
        | inl s ↦ (let f : has (cell_element p.0 (slot_at cs key)) ≡ false = subst (λ n. has (cell_element p.0 (slot_at cs n)) ≡ false) (sym (nat_sound key d s)) (h d refl p (subst (λ b. In p (if b then xs else [])) s m)) in
            let t : has (cell_element p.0 (slot_at cs key)) ≡ true = ap has e in absurd (cc (sym f ∙ t)))
        | inr s ↦ subst (λ b. In p (if b then xs else [])) s m
      ]

      pub elements_end : (xs : Elements) (e : Effect) → IsStored e (Inserts xs) → gives_elements E.act ≡ true → target_in e ≡ target → values_in e ≡ xs → lines_in e ≡ [] → in_key_order xs ≡ true → ((d : ℕ) → target ≡ Some d → (q : Key × Scalar) → In q xs → has (cell_element q.0 (slot_at cs d)) ≡ false) → (OpensNothing C fs (Does k i c) (Inserts xs) → OpensBy C fs (Does k i c) (Inserts xs) e) → GoesWell C fs cs (Does k i c) (Inserts xs) e
      elements_end xs e said g at vs ls order absent opens =
          let h : gives_elements (entry C i).act ≡ true = subst (λ (e : Entry). gives_elements e.act ≡ true) w.entry_is g in
          let p = elements_plain (entry C i).act h in
          record {
            good = (effect_at C i (path_of fs k) c (Inserts xs), good (Inserts xs) _ _ refl (deep_plain (entry C i).act (path_of fs k) _ (plain_steps (entry C i).act p)));
            apart = λ q. (let same : xs ≡ q.elements = cc (q.inserts) in apart_by target xs q.key q.element q.older absent (subst (λ l. In q.element l) (sym (job_target (Inserts xs) q.key)) q.stores) q.has);
            computed = said;
            leads = λ d h. target_leads d (sym at ∙ h);
            stored = λ d. ap (λ (o : Option ℕ). if is_place d o then values_in e else []) at ∙ ap (λ l. if is_place d target then l else []) vs ∙ job_target (Inserts xs) d;
            rises = ap in_key_order vs ∙ order;
            lines = elements_silent (entry C i).act (Inserts xs) h ∙ sym ls;
            opens = opens (nothing (Inserts xs) p);
          }

      -- one of them is there
      pub elements_clash : (xs : Elements) → gives_elements E.act ≡ true → (d : ℕ) → target ≡ Some d → (q : Key × Scalar) (v : Scalar) → In q xs → cell_element q.0 (slot_at cs d) ≡ Some v → GoesWrong C fs cs (Does k i c) (Inserts xs) ElementTwice
      elements_clash xs g d at q v m e =
          let h : gives_elements (entry C i).act ≡ true = subst (λ (e : Entry). gives_elements e.act ≡ true) w.entry_is g in
          let p = elements_plain (entry C i).act h in (
            (effect_at C i (path_of fs k) c (Inserts xs), good (Inserts xs) _ _ refl (deep_plain (entry C i).act (path_of fs k) _ (plain_steps (entry C i).act p))),
            record {
              key = d;
              element = q;
              older = v;
              elements = xs;
              inserts = refl;
              stores = subst (λ l. In q l) (sym (ap (λ (o : Option ℕ). if is_place d o then xs else []) at ∙ ap (λ b. if b then xs else []) (nat_same d)) ∙ job_target (Inserts xs) d) m;
              has = e;
            },
          )
