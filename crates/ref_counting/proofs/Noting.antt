-- Openings and homes as they are noted.
use Rattle.std.proofs.Common.{◌≡◌, ◌⊎◌, inl, inr, ℕ, zero, suc, ◌<◌, ◌+◌, List, [], ◌∷◌, ◌++◌, length, refl, sym, ap, subst, ◌∙◌, arith, Bool, true, false, nat_lt}
use Rattle.dataflow.specs.System.{In}
use Rattle.dataflow.proofs.Lists.{in_left, in_right, in_split}
use Rattle.task_code.specs.Code as pure
use Rattle.task_code.specs.Code.{Code, blank_entry, body, entry, nth, ways}
use Rattle.ref_counting.specs.declared.openings.BodyOpening.{BodyOpening}
use Rattle.ref_counting.specs.declared.openings.OpenKind.{OpenKind}
use Rattle.ref_counting.specs.Openings.{AreOpenings, IsOpened, Noted, NotesAll, NotesHomes, NotesOpened, OpeningsUpTo, HomesUpTo, way_of}
use Rattle.ref_counting.specs.Rows.{row, Fills, put_in}
use Rattle.ref_counting.proofs.Filling.{fills_not, put_fills, put_there}

pub below_or_at : (i n : ℕ) → i < n + 1 → (i < n) ⊎ (i ≡ n)
below_or_at i n h = by (nat_lt i n) refl
  where
    by : (b : Bool) → nat_lt i n ≡ b → (i < n) ⊎ (i ≡ n)
    by true e = inl (grind arith)
    by false e = inr (grind arith)

abbrev pub opening_by : ℕ → OpenKind → BodyOpening
opening_by i way = record { entry = i; way = way }

pub noted_one : (i : ℕ) (way : OpenKind) (b : ℕ) (old new : List (List BodyOpening)) → new ≡ put_in old b (opening_by i way) → NotesAll i ((way_of way, b) ∷ []) old new
noted_one i way b old new is = record { fills = record { count = fills.count; kept = fills.kept; only = only }; all = all }
  where
    fills : Fills (λ (k : ℕ) (o : BodyOpening). (k ≡ b) × (o ≡ opening_by i way)) old new
    fills = subst (Fills (λ (k : ℕ) (o : BodyOpening). (k ≡ b) × (o ≡ opening_by i way)) old) (sym is) (put_fills old b (opening_by i way))

    there : b < length old → In (opening_by i way) (row new b)
    there h = subst (λ rs. In (opening_by i way) (row rs b)) (sym is) (put_there old b (opening_by i way) h)

    only : (k : ℕ) (o : BodyOpening) → In o (row new k) → In o (row old k) ⊎ ((o.entry ≡ i) × In {X = pure.Way × ℕ} (way_of o.way, k) ((way_of way, b) ∷ []))
    only k o t = elim (fills.only k o t) [ inl u ↦ inl u | inr q ↦ inr (ap (λ (x : BodyOpening). x.entry) q.1, inl (λ j. (way_of (q.1 j).way, q.0 j))) ]

    all : (w : pure.Way) (k : ℕ) → In {X = pure.Way × ℕ} (w, k) ((way_of way, b) ∷ []) → k < length old → Noted i w (row new k)
    all w k (inl e) h =
        let at : k ≡ b = ap (λ (q : pure.Way × ℕ). q.1) e in
        let by : w ≡ way_of way = ap (λ (q : pure.Way × ℕ). q.0) e in
        record { opening = opening_by i way; there = subst (λ n. In (opening_by i way) (row new n)) (sym at) (there (subst (λ n. n < length old) at h)); of = refl; by = sym by }
    all w k (inr f) h = absurd f

pub noted_still : {P : ℕ → BodyOpening → Type 0} {i : ℕ} {w : pure.Way} {old new : List (List BodyOpening)} (k : ℕ) → Fills P old new → Noted i w (row old k) → Noted i w (row new k)
noted_still k f n = record { opening = n.opening; there = f.kept k n.opening n.there; of = n.of; by = n.by }

pub noted_both : (i : ℕ) (ws us : List (pure.Way × ℕ)) (a b c : List (List BodyOpening)) → NotesAll i ws a b → NotesAll i us b c → NotesAll i (ws ++ us) a c
noted_both i ws us a b c f g = record { fills = record { count = g.fills.count ∙ f.fills.count; kept = λ k x t. g.fills.kept k x (f.fills.kept k x t); only = only }; all = all }
  where
    only : (k : ℕ) (o : BodyOpening) → In o (row c k) → In o (row a k) ⊎ ((o.entry ≡ i) × In {X = pure.Way × ℕ} (way_of o.way, k) (ws ++ us))
    only k o t = elim (g.fills.only k o t) [
      | inl u ↦ elim (f.fills.only k o u) [ inl v ↦ inl v | inr q ↦ inr (q.0, in_left {X = pure.Way × ℕ} (way_of o.way, k) ws us q.1) ]
      | inr q ↦ inr (q.0, in_right {X = pure.Way × ℕ} (way_of o.way, k) ws us q.1)
    ]

    all : (w : pure.Way) (k : ℕ) → In {X = pure.Way × ℕ} (w, k) (ws ++ us) → k < length a → Noted i w (row c k)
    all w k t h = elim (in_split {X = pure.Way × ℕ} (w, k) ws us t) [
      | inl u ↦ noted_still k g.fills (f.all w k u h)
      | inr u ↦ g.all w k u (subst (λ n. k < n) (sym f.fills.count) h)
    ]

module _ (C : Code) where
  pub no_openings : (os : List (List BodyOpening)) → length os ≡ length C.bodies → ((k : ℕ) → row os k ≡ []) → OpeningsUpTo C 0 os
  no_openings os count empty = record { count = count; only = λ b o t. absurd (subst (In o) (empty b) t); all = λ i b w h. absurd (omega arith) }

  pub more_openings : (n : ℕ) (a b : List (List BodyOpening)) → OpeningsUpTo C n a → NotesAll n (ways (entry C n).act) a b → OpeningsUpTo C (n + 1) b
  more_openings n a b before new = record { count = new.fills.count ∙ before.count; only = only; all = all }
    where
      only : (k : ℕ) (o : BodyOpening) → In o (row b k) → In {X = pure.Way × ℕ} (way_of o.way, k) (ways (entry C o.entry).act)
      only k o t = elim (new.fills.only k o t) [ inl u ↦ before.only k o u | inr q ↦ subst (λ m. In {X = pure.Way × ℕ} (way_of o.way, k) (ways (entry C m).act)) (sym q.0) q.1 ]

      all : (i k : ℕ) (w : pure.Way) → i < n + 1 → k < length C.bodies → In {X = pure.Way × ℕ} (w, k) (ways (entry C i).act) → Noted i w (row b k)
      all i k w h l t = elim (split) [ inl u ↦ noted_still k new.fills (before.all i k w u l t) | inr e ↦ here e ]
        where
          split : (i < n) ⊎ (i ≡ n)
          split = below_or_at i n h

          here : i ≡ n → Noted i w (row b k)
          here e = subst (λ m. Noted m w (row b k)) (sym e) (new.all w k (subst (λ m. In {X = pure.Way × ℕ} (w, k) (ways (entry C m).act)) e t) (subst (λ m. k < m) (sym before.count) l))

  pub no_homes : (hs : List (List ℕ)) → length hs ≡ length C.entries → ((k : ℕ) → row hs k ≡ []) → HomesUpTo C 0 hs
  no_homes hs count empty = record { count = count; only = λ j b t. absurd (subst (In b) (empty j) t); all = λ j b h. absurd (omega arith) }

  pub more_homes : (n : ℕ) (a b : List (List ℕ)) → HomesUpTo C n a → NotesOpened C n a b → HomesUpTo C (n + 1) b
  more_homes n a b before new = record { count = new.fills.count ∙ before.count; only = only; all = all }
    where
      only : (j c : ℕ) → In c (row b j) → In j (body C c).entries
      only j c t = elim (new.fills.only j c t) [ inl u ↦ before.only j c u | inr q ↦ subst (λ m. In j (body C m).entries) (sym q.0) q.1 ]

      all : (j c : ℕ) → c < n + 1 → IsOpened C c → j < length C.entries → In j (body C c).entries → In c (row b j)
      all j c h o l t = elim (split) [ inl u ↦ new.fills.kept j c (before.all j c u o l t) | inr e ↦ here e ]
        where
          split : (c < n) ⊎ (c ≡ n)
          split = below_or_at c n h

          here : c ≡ n → In c (row b j)
          here e = subst (λ m. In m (row b j)) (sym e) (new.all (subst (IsOpened C) e o) j (subst (λ m. In j (body C m).entries) e t) (subst (λ m. j < m) (sym before.count) l))

  -- an entry past the last opens nothing
  pub opener_there : (w : pure.Way) (i b : ℕ) → In {X = pure.Way × ℕ} (w, b) (ways (entry C i).act) → i < length C.entries
  opener_there w i b t = by C.entries i t
    where
      by : (es : List pure.Entry) (k : ℕ) → In {X = pure.Way × ℕ} (w, b) (ways (nth blank_entry es k).act) → k < length es
      by [] k t = absurd t
      by (x ∷ xs) zero t = omega arith
      by (x ∷ xs) (suc k) t = let l : k < length xs = by xs k t in omega arith

  -- what is opened is noted
  pub opened_noted : (os : List (List BodyOpening)) (b : ℕ) → AreOpenings C os → b < length C.bodies → (o : IsOpened C b) → Noted o.opener o.way (row os b)
  opened_noted os b O h o = O.all o.opener b o.way (opener_there o.way o.opener b o.opens) h o.opens

  -- the entries of a body that nothing opens are not noted, those of others are
  pub notes_unopened : (os : List (List BodyOpening)) (b : ℕ) (hs : List (List ℕ)) → AreOpenings C os → b < length C.bodies → row os b ≡ [] → NotesOpened C b hs hs
  notes_unopened os b hs O h none = record { fills = fills_not hs; all = λ o. absurd (let n = opened_noted os b O h o in subst (In n.opening) none n.there) }

  pub notes_opened : (b : ℕ) (x y : List (List ℕ)) → NotesHomes b (body C b).entries x y → NotesOpened C b x y
  notes_opened b x y n = record { fills = n.fills; all = λ o. n.all }

-- entries of a body, one after another
pub no_home : (b : ℕ) (hs : List (List ℕ)) → NotesHomes b [] hs hs
no_home b hs = record { fills = fills_not hs; all = λ j t. absurd t }

pub next_home : (b j : ℕ) (js : List ℕ) (x y z : List (List ℕ)) → NotesHomes b js x y → z ≡ put_in y j b → NotesHomes b (js ++ j ∷ []) x z
next_home b j js x y z f is = record { fills = record { count = fills.count ∙ f.fills.count; kept = λ k c t. fills.kept k c (f.fills.kept k c t); only = only }; all = all }
  where
    fills : Fills (λ k c. (k ≡ j) × (c ≡ b)) y z
    fills = subst (Fills (λ k c. (k ≡ j) × (c ≡ b)) y) (sym is) (put_fills y j b)

    there : j < length y → In b (row z j)
    there h = subst (λ rs. In b (row rs j)) (sym is) (put_there y j b h)

    only : (k c : ℕ) → In c (row z k) → In c (row x k) ⊎ ((c ≡ b) × In k (js ++ j ∷ []))
    only k c t = elim (fills.only k c t) [
      | inl u ↦ elim (f.fills.only k c u) [ inl v ↦ inl v | inr q ↦ inr (q.0, in_left k js (j ∷ []) q.1) ]
      | inr q ↦ inr (q.1, in_right k js (j ∷ []) (inl q.0))
    ]

    all : (k : ℕ) → In k (js ++ j ∷ []) → k < length x → In b (row z k)
    all k t h = elim (in_split k js (j ∷ []) t) [
      | inl u ↦ fills.kept k b (f.all k u h)
      | inr u ↦ elim u [ inl e ↦ subst (λ m. In b (row z m)) (sym e) (there (subst (λ m. m < length y) e (subst (λ m. k < m) (sym f.fills.count) h))) | inr q ↦ absurd q ]
    ]
