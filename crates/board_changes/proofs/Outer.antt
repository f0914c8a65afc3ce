-- What new instances hold outside of them: on no new datum, and each as much as any other.
use Rattle.std.proofs.Common.{◌≡◌, ◌∙◌, refl, sym, ap, subst, inl, inr, ℕ, zero, suc, ◌+◌, ◌*◌, true, false, List, [], ◌∷◌, ◌++◌, length, not, Option, Some, None, arith}
use Rattle.std.specs.Prelude.{if◌then◌else◌}
use Rattle.std.specs.List.{filter}
use Rattle.std.proofs.lemmas.Bool.{not-true}
use Rattle.dataflow.specs.System.{In}
use Rattle.dataflow.specs.Machine.{Event}
use Rattle.dataflow.proofs.Lists.{in_left, in_right, in_unmap}
use Rattle.board_history.proofs.EndedNames.{flat_in, hold_named, in_flat}
use Rattle.board_history.proofs.Layouts.{added_once}
use Rattle.board_history.proofs.Tests.{in_kept, yes_no}
use Rattle.board_history.specs.Ending.{Instance, NamesLead, added_times, held_times, job_slot, slot_is}
use Rattle.board_history.specs.Fields.{Does, Fields, Frame, LiteralOf, Over, Row, Slot, row_of, slot_at, slot_for}
use Rattle.board_history.specs.Stands.{Stands}
use Rattle.board_history.specs.Static.{Hold, names_in, outer_holds}
use Rattle.task_code.proofs.Decided.{declared_is}
use Rattle.task_code.specs.Check.{is_declared}
use Rattle.task_code.specs.Code.{Act, Assert, Call, Calling, Cell, Code, Copy, Each, Entry, Fill, If, InPlace, Name, Parameter, Print, InsertElement, Range, Read, Set, Through, Wait, Way, body, entry, ways}
use Rattle.task_code.specs.Compute.{Computed, Fails, Gives, Inserts, Opens, Takes, Turns}
use Rattle.task_code.specs.Effects.{chunk, instances, step_at, turns_of}
use Rattle.task_code.specs.Places.{Step}
use Rattle.task_code.specs.Whole.{Declared, Fixes, IsCode, Seen}
use Rattle.values.specs.declared.key.Key.{Key}
use Rattle.values.specs.declared.value.Scalar.{Scalar}
use Rattle.board_program.specs.Spots.{layout_of}
use Rattle.board_changes.proofs.Rights.{not_led, reads_stand, writes_stand}

-- the way to a body that an entry opens
pub ways_of : (a : Act) (offset : ℕ) (p : List Step) (c : ℕ) (x : Computed) (s : ℕ × List Step) → In s (instances a offset p c x) → (w : Way) × In (w, s.0) (ways a)
ways_of (Cell e) offset p c x s h = absurd h
ways_of Read offset p c x s h = absurd h
ways_of (Call b rs os) offset p zero x s h = elim h [ inl e ↦ (Calling, subst (λ (z : ℕ × List Step). In (Calling, z.0) (ways (Call b rs os))) (sym e) (inl refl)) | inr n ↦ absurd n ]
ways_of (Call b rs os) offset p (suc c) x s h = absurd h
ways_of (Set r e) offset p c x s h = absurd h
ways_of (Fill r es) offset p c x s h = absurd h
ways_of (Copy r) offset p c x s h = absurd h
ways_of (InsertElement r i e) offset p c x s h = absurd h
ways_of (Print e) offset p c x s h = absurd h
ways_of (Assert e) offset p c x s h = absurd h
ways_of (If e b d) offset p (suc c) x s h = absurd h
ways_of (If e b None) offset p zero (Takes true) s h = elim h [ inl q ↦ (Through, subst (λ (z : ℕ × List Step). In (Through, z.0) (ways (If e b None))) (sym q) (inl refl)) | inr n ↦ absurd n ]
ways_of (If e b (Some d)) offset p zero (Takes true) s h = elim h [ inl q ↦ (Through, subst (λ (z : ℕ × List Step). In (Through, z.0) (ways (If e b (Some d)))) (sym q) (inl refl)) | inr n ↦ absurd n ]
ways_of (If e b None) offset p zero (Takes false) s h = absurd h
ways_of (If e b (Some d)) offset p zero (Takes false) s h = elim h [ inl q ↦ (Through, subst (λ (z : ℕ × List Step). In (Through, z.0) (ways (If e b (Some d)))) (sym q) (inr (inl refl))) | inr n ↦ absurd n ]
ways_of (If e b d) offset p zero (Fails f) s h = absurd h
ways_of (If e b d) offset p zero (Gives v) s h = absurd h
ways_of (If e b d) offset p zero (Inserts xs) s h = absurd h
ways_of (If e b d) offset p zero (Turns ts) s h = absurd h
ways_of (If e b d) offset p zero Opens s h = absurd h
ways_of (Range l g k w) offset p c x s h =
    let r = in_unmap (λ (t : Key × Scalar). (w.body, step_at offset t.0 p)) s (chunk c (turns_of x)) h in
    (Through, subst (λ (z : ℕ × List Step). In (Through, z.0) (ways (Range l g k w))) r.2 (inl refl))
ways_of (Each w) offset p c x s h =
    let r = in_unmap (λ (t : Key × Scalar). (w.body, step_at offset t.0 p)) s (chunk c (turns_of x)) h in
    (Through, subst (λ (z : ℕ × List Step). In (Through, z.0) (ways (Each w))) r.2 (inl refl))
ways_of (Wait hs b) offset p zero x s h = elim h [ inl e ↦ (InPlace, subst (λ (z : ℕ × List Step). In (InPlace, z.0) (ways (Wait hs b))) (sym e) (inl refl)) | inr n ↦ absurd n ]
ways_of (Wait hs b) offset p (suc c) x s h = absurd h

-- what holds come to where no name of theirs is the datum
pub held_none : (f : Name → Slot) (d : ℕ) (hs : List Hold) → ((h : Hold) → In h hs → slot_is d (f h.name) ≡ false) → held_times f d hs ≡ 0
held_none f d [] all = refl
held_none f d (h ∷ hs) all =
    ap (λ b. (if b then h.count else 0) + held_times f d hs) (all h (inl refl)) ∙ zero_plus (held_times f d hs) ∙ held_none f d hs (λ g i. all g (inr i))
  where
    zero_plus : (n : ℕ) → 0 + n ≡ n
    zero_plus n = omega arith

-- a hold outside is of a name that the body does not declare
pub outer_named : (C : Code) (rights : Entry → List Name) (b : ℕ) (h : Hold) → In h (outer_holds C rights b) → In h.name (names_in C rights b) × (Declared C b h.name → ⊥)
outer_named C rights b h i =
    let p = in_kept (λ r. not (is_declared C b r)) h.name (names_in C rights b) (hold_named (filter (λ r. not (is_declared C b r)) (names_in C rights b)) h i) in
    (p.0, λ y. yes_no (declared_is C b h.name y) (not-true (is_declared C b h.name) p.1))

module _ (C : Code) (I : IsCode C) (es : List Event) (F : Fields) (x : Stands C (layout_of C) es F) (n k e c : ℕ) (row : Row) (there : row_of F.rows n ≡ Some row) (job : row.job ≡ Does k e c) (live : row.status ≡ Over → ⊥) (b : ℕ) (w : Way) (iw : In (w, b) (ways (entry C e).act)) (gs : List (Option Frame)) (made : List Instance) (body_is : (m : Instance) → In m made → m.body ≡ b) (leads : (m : Instance) → In m made → NamesLead C (layout_of C) F.frames gs k e c m) where
  -- a name stands for the same in each of the instances, and for no datum that was not there
  pub record Outside (r : Name) : Type 0 where
    pub slot : Slot
    pub same : (m : Instance) → In m made → slot_for (layout_of C) gs m.key b r ≡ slot
    pub older : (d : ℕ) → slot_at F.cells d ≡ None → slot_is d slot ≡ false

  seen_outside : (r s : Name) → In r (names_in C (λ y. y.reads ++ y.writes) b) → (Declared C b r → ⊥) → Seen C (entry C e).offset w r s → In s ((entry C e).reads ++ (entry C e).writes) → ((d : ℕ) → slot_at F.cells d ≡ None → slot_is d (job_slot C (layout_of C) F.frames (Does k e c) s) ≡ false) → Outside r
  seen_outside r s ir nd h is older = record {
    slot = job_slot C (layout_of C) F.frames (Does k e c) s;
    same = λ m im. let q = sym (body_is m im) in
        ap (λ (z : ℕ). slot_for (layout_of C) gs m.key z r) q
        ∙ (leads m im).seen w r s (subst (λ (z : ℕ). In (w, z) (ways (entry C e).act)) q iw) (subst (λ (z : ℕ). In r (names_in C (λ y. y.reads ++ y.writes) z)) q ir) (λ y. nd (subst (λ (z : ℕ). Declared C z r) (sym q) y)) h is;
    older = older;
  }

  fixed_outside : (r : Name) → In r (names_in C (λ y. y.reads) b) → (v : Way) → w ≡ v → Fixes C (entry C e).offset v r → Outside r
  fixed_outside r ir InPlace q f = absurd f
  fixed_outside r ir Through q f = absurd f
  fixed_outside r ir Calling q f = record {
    slot = LiteralOf e f.0;
    same = λ m im. let p = sym (body_is m im) in
        ap (λ (z : ℕ). slot_for (layout_of C) gs m.key z r) p ∙ ap (slot_for (layout_of C) gs m.key m.body) f.3
        ∙ (leads m im).fixed f.0 f.1 f.2 (subst (λ (z : ℕ). In (Calling, z) (ways (entry C e).act)) p (subst (λ (u : Way). In (u, b) (ways (entry C e).act)) q iw)) (subst (λ (z : ℕ). In (record { up = 0; owned = Parameter f.0 f.1 }) (names_in C (λ y. y.reads) z)) p (subst (λ (z : Name). In z (names_in C (λ y. y.reads) b)) f.3 ir)) f.4;
    older = λ d h. refl;
  }

  either : (rights : Entry → List Name) → ((y : Entry) (r : Name) → In r (rights y) → In r (y.reads ++ y.writes)) → (r : Name) → In r (names_in C rights b) → In r (names_in C (λ y. y.reads ++ y.writes) b)
  either rights more r i = let p = in_flat (λ j. rights (entry C j)) (body C b).entries r i in flat_in (λ j. (entry C j).reads ++ (entry C j).writes) (body C b).entries p.0 r p.1 (more (entry C p.0) r p.2)

  pub read_outside : (r : Name) → In r (names_in C (λ y. y.reads) b) → (Declared C b r → ⊥) → Outside r
  read_outside r ir nd =
      let p = in_flat (λ j. (entry C j).reads) (body C b).entries r ir in
      elim ((I.fits e w b iw).reads p.0 r p.1 p.2) [
        | inl y ↦ elim y [
          | inl d ↦ absurd (nd d)
          | inr s ↦ seen_outside r s.outside (either (λ y. y.reads) (λ y z i. in_left z y.reads y.writes i) r ir) nd s.seen (in_left s.outside (entry C e).reads (entry C e).writes s.right) (λ d h. not_led C I (layout_of C) es F x d h (job_slot C (layout_of C) F.frames (Does k e c) s.outside) _ (reads_stand C I (layout_of C) es F x n k e c row there job live s.outside s.right))
        ]
        | inr f ↦ fixed_outside r ir w refl f
      ]

  pub write_outside : (r : Name) → In r (names_in C (λ y. y.writes) b) → (Declared C b r → ⊥) → Outside r
  write_outside r ir nd =
      let p = in_flat (λ j. (entry C j).writes) (body C b).entries r ir in
      elim ((I.fits e w b iw).writes p.0 r p.1 p.2) [
        | inl d ↦ absurd (nd d)
        | inr s ↦ seen_outside r s.outside (either (λ y. y.writes) (λ y z i. in_right z y.reads y.writes i) r ir) nd s.seen (in_right s.outside (entry C e).reads (entry C e).writes s.right) (λ d h. not_led C I (layout_of C) es F x d h (job_slot C (layout_of C) F.frames (Does k e c) s.outside) _ (writes_stand C I (layout_of C) es F x n k e c row there job live s.outside s.right))
      ]

  module _ (rights : Entry → List Name) (outside : (r : Name) → In r (names_in C rights b) → (Declared C b r → ⊥) → Outside r) where
    -- no new datum gets any
    pub none_added : (d : ℕ) → slot_at F.cells d ≡ None → (ms : List Instance) → ((m : Instance) → In m ms → In m made) → added_times C (layout_of C) rights gs d ms ≡ 0
    none_added d h [] all = refl
    none_added d h (m ∷ ms) all =
        let im = all m (inl refl) in
        let one : held_times (slot_for (layout_of C) gs m.key m.body) d (outer_holds C rights m.body) ≡ 0 =
        ap (λ (z : ℕ). held_times (slot_for (layout_of C) gs m.key z) d (outer_holds C rights z)) (body_is m im)
        ∙ held_none (slot_for (layout_of C) gs m.key b) d (outer_holds C rights b) (λ g i. let p = outer_named C rights b g i in let u = outside g.name p.0 p.1 in ap (slot_is d) (u.same m im) ∙ u.older d h) in
        let more = none_added d h ms (λ l i. all l (inr i)) in
        omega (arith, one, more)

    -- all add as often what one of them does
    pub all_added : (d : ℕ) (l : Instance) → In l made → added_times C (layout_of C) rights gs d made ≡ length made * held_times (slot_for (layout_of C) gs l.key b) d (outer_holds C rights b)
    all_added d l il = added_once C (layout_of C) rights gs d b (slot_for (layout_of C) gs l.key b) made body_is (λ m r im ir nd. let u = outside r ir nd in u.same m im ∙ sym (u.same l il))
