-- What bodies declare, as it is noted.
use Rattle.std.proofs.Common.{◌≡◌, ◌⊎◌, inl, inr, ℕ, ◌<◌, ◌+◌, Bool, true, false, ◌&&◌, List, [], ◌∷◌, ◌++◌, length, refl, sym, ap, subst, arith}
use Rattle.std.specs.List.{list_any}
use Rattle.std.proofs.Math.Bool.{beq}
use Rattle.std.proofs.Math.Dec.{eqb}
use Rattle.std.proofs.lemmas.Bool.{eqb-true, and_from, and_parts}
use Rattle.indexmap.specs.IndexSet.{insert_key}
use Rattle.dataflow.specs.System.{In}
use Rattle.dataflow.proofs.Lists.{in_left, in_right, in_split}
use Rattle.task_code.specs.Code.{Code, InPlace, Variable, body}
use Rattle.ref_counting.specs.declared.declarations.DeclaredIn.{DeclaredIn}
use Rattle.ref_counting.specs.Makes.{IsWaited, MadeUpTo, NotesMade, NotesWaited, made_by, variable_of}
use Rattle.ref_counting.proofs.Keys.{same_flag, any_in, in_any, put_there, put_kept, put_only}
use Rattle.ref_counting.specs.declared.openings.BodyOpening.{BodyOpening}
use Rattle.ref_counting.specs.declared.openings.OpenKind.{OpenKind}
use Rattle.ref_counting.specs.declared.openings.OpenKind.TheVariants as Is
use Rattle.ref_counting.specs.contracts.openings.OpenKind as ways_told
use denote.Enum.Bare.{sameb}
use Rattle.ref_counting.specs.Openings.{AreOpenings, way_of}
use Rattle.ref_counting.specs.Rows.{row}
use Rattle.ref_counting.proofs.Noting.{below_or_at, opened_noted}

abbrev pub same_made : DeclaredIn → DeclaredIn → Bool
same_made a b = eqb a.body b.body && (eqb a.node b.node && beq a.array b.array)

pub made_is : (a b : DeclaredIn) → same_made a b ≡ true → a ≡ b
made_is a b h =
    let x = and_parts (eqb a.body b.body) _ h in
    let y = and_parts (eqb a.node b.node) _ x.1 in
    let e : a.body ≡ b.body = eqb-true a.body b.body x.0 in
    let n : a.node ≡ b.node = eqb-true a.node b.node y.0 in
    let r : a.array ≡ b.array = same_flag a.array b.array y.1 in
    λ i. record { body = e i; node = n i; array = r i }

same_bool : (a : Bool) → beq a a ≡ true
same_bool true = refl
same_bool false = refl

same_nat : (n : ℕ) → eqb n n ≡ true
same_nat n = grind arith

pub made_self : (a : DeclaredIn) → same_made a a ≡ true
made_self a = and_from (eqb a.body a.body) _ (same_nat a.body) (and_from (eqb a.node a.node) _ (same_nat a.node) (same_bool a.array))

pub declared_yes : (m : DeclaredIn) (ms : List DeclaredIn) → list_any (same_made m) ms ≡ true → In m ms
declared_yes m ms h = any_in same_made made_is m ms h

pub declared_no : (m : DeclaredIn) (ms : List DeclaredIn) → In m ms → list_any (same_made m) ms ≡ true
declared_no m ms t = in_any same_made made_self m ms t

pub nothing_made : (b : ℕ) (ms : List DeclaredIn) → NotesMade b [] ms ms
nothing_made b ms = record { kept = λ m t. t; only = λ m t. inl t; all = λ v t. absurd t }

pub one_more : (b : ℕ) (v : Variable) (vs : List Variable) (x y : List DeclaredIn) → NotesMade b vs x y → NotesMade b (vs ++ v ∷ []) x (insert_key same_made y (made_by b v))
one_more b v vs x y f = record { kept = λ m t. put_kept same_made made_is y (made_by b v) m (f.kept m t); only = only; all = all }
  where
    only : (m : DeclaredIn) → In m (insert_key same_made y (made_by b v)) → In m x ⊎ ((m.body ≡ b) × In (variable_of m) (vs ++ v ∷ []))
    only m t = elim (put_only same_made made_is y (made_by b v) m t) [
      | inl u ↦ elim (f.only m u) [ inl w ↦ inl w | inr q ↦ inr (q.0, in_left (variable_of m) vs (v ∷ []) q.1) ]
      | inr e ↦ inr (ap (λ (n : DeclaredIn). n.body) e, in_right (variable_of m) vs (v ∷ []) (inl (ap variable_of e)))
    ]

    all : (w : Variable) → In w (vs ++ v ∷ []) → In (made_by b w) (insert_key same_made y (made_by b v))
    all w t = elim (in_split w vs (v ∷ []) t) [
      | inl u ↦ put_kept same_made made_is y (made_by b v) (made_by b w) (f.all w u)
      | inr u ↦ elim u [ inl e ↦ subst (λ z. In (made_by b z) (insert_key same_made y (made_by b v))) (sym e) (put_there same_made made_is y (made_by b v)) | inr q ↦ absurd q ]
    ]

-- another way is not that of a `wait`
pub not_in_place : (w : OpenKind) → sameb ways_told.the_type w Is.InPlace ≡ false → way_of w ≡ InPlace → ⊥
not_in_place Is.InPlace e h = absurd (cc)
not_in_place Is.Through e h = absurd (cc)
not_in_place Is.Calling e h = absurd (cc)

module _ (C : Code) where
  pub none_made : MadeUpTo C 0 []
  none_made = record { only = λ m t. absurd t; all = λ b v h. absurd (omega arith) }

  pub more_made : (n : ℕ) (x y : List DeclaredIn) → MadeUpTo C n x → NotesWaited C n x y → MadeUpTo C (n + 1) y
  more_made n x y before new = record { only = only; all = all }
    where
      only : (m : DeclaredIn) → In m y → In (variable_of m) (body C m.body).makes
      only m t = elim (new.only m t) [ inl u ↦ before.only m u | inr q ↦ subst (λ k. In (variable_of m) (body C k).makes) (sym q.0) q.1 ]

      all : (b : ℕ) (v : Variable) → b < n + 1 → IsWaited C b → In v (body C b).makes → In (made_by b v) y
      all b v h w t = elim (below_or_at b n h) [
        | inl u ↦ new.kept (made_by b v) (before.all b v u w t)
        | inr e ↦ subst (λ k. In (made_by k v) y) (sym e) (new.all (subst (IsWaited C) e w) v (subst (λ k. In v (body C k).makes) e t))
      ]

  -- what a body declares that no `wait` opens is not noted, what others declare is
  pub notes_unwaited : (os : List (List BodyOpening)) (b : ℕ) (ms : List DeclaredIn) → AreOpenings C os → b < length C.bodies → ((o : BodyOpening) → In o (row os b) → way_of o.way ≡ InPlace → ⊥) → NotesWaited C b ms ms
  notes_unwaited os b ms O h none = record {
    kept = λ m t. t;
    only = λ m t. inl t;
    all = λ w. absurd (let n = opened_noted C os b O h (record { opener = w.opener; way = InPlace; opens = w.opens }) in none n.opening n.there n.by);
  }

  pub notes_waited : (b : ℕ) (x y : List DeclaredIn) → NotesMade b (body C b).makes x y → NotesWaited C b x y
  notes_waited b x y n = record { kept = n.kept; only = n.only; all = λ w. n.all }
