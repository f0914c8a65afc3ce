-- All runs that end quiet come to the same.
use Rattle.std.proofs.lemmas.List.Sorted.{IsPermutation-refl, IsPermutation-trans, IsPermutation-append_left, IsPermutation-append_right, IsPermutation-append_comm}
use Rattle.std.specs.List.Sorted.{IsPermutation}
use Rattle.std.proofs.Common.{◌≡◌, ◌⊎◌, inl, inr, List, [], ◌∷◌, ◌++◌, refl, sym, ap, ◌∙◌, subst, append_assoc}
use Rattle.dataflow.specs.System.{In, Distinct, Write, Effect, System}
use Rattle.dataflow.specs.Facts.{Written}
use Rattle.dataflow.specs.Laws.{Laws}
use Rattle.dataflow.specs.Log.{Logged, LogIsWhole}
use Rattle.dataflow.specs.Machine.{Item, State, Free, Quiet}
use Rattle.dataflow.specs.Promises.{lines_of, tasks_in_log, tasks_in_items, SameEnd}
use Rattle.dataflow.proofs.Frozen.{written_grows, made_grows}
use Rattle.dataflow.proofs.Lists.{in_map, in_unmap, in_seam, seam_in, seam_distinct}
use Rattle.dataflow.proofs.Follows.{Uses, Follows}
use Rattle.dataflow.proofs.Decide.{place_of, user_is}
use Rattle.dataflow.proofs.Headline.{complete, log_once, quiet_log}
use Rattle.dataflow.proofs.Theorem.{run_complete}
use Rattle.dataflow.proofs.Keeping.{kept}

module _ {T D K V E : Type 0} (S : System T D K V E) where
  -- lists whose tasks differ have different members
  facts_differ : (log : List (T × Effect T D K V)) → Distinct (tasks_in_log S log) → Distinct log
  facts_differ [] d = tt
  facts_differ (p ∷ log) d = ((λ h. d.0 (in_map (λ (q : T × Effect T D K V). q.0) p log h)), facts_differ log d.1)

  lines_append : (xs ys : List (T × Effect T D K V)) → lines_of S (xs ++ ys) ≡ lines_of S ys ++ lines_of S xs
  lines_append [] ys = sym (append_nil (lines_of S ys))
    where
      append_nil : (vs : List V) → vs ++ [] ≡ vs
      append_nil [] = refl
      append_nil (v ∷ vs) = ap (λ (l : List V). v ∷ l) (append_nil vs)
  lines_append (p ∷ xs) ys = ap (λ (l : List V). l ++ p.1.lines) (lines_append xs ys) ∙ append_assoc (lines_of S ys) (lines_of S xs) p.1.lines

  -- the same facts in another order print the same lines in another order
  lines_permuted : (xs ys : List (T × Effect T D K V)) → Distinct xs → Distinct ys → ((p : T × Effect T D K V) → In p xs → In p ys) → ((p : T × Effect T D K V) → In p ys → In p xs) → IsPermutation (lines_of S xs) (lines_of S ys)
  lines_permuted [] [] d e f g = IsPermutation-refl []
  lines_permuted [] (q ∷ ys) d e f g = absurd (g q (inl refl))
  lines_permuted (p ∷ xs) ys d e f g =
      let at = place_of p ys (f p (inl refl)) in
      let b = at.0 in
      let a = at.1 in
      let e' : Distinct (b ++ p ∷ a) = subst (λ (l : List (T × Effect T D K V)). Distinct l) at.2 e in
      let out = seam_distinct p b a e' in
      let rest : IsPermutation (lines_of S xs) (lines_of S (b ++ a)) = lines_permuted xs (b ++ a) d.1 out.1 (λ q i. into q b a i (in_seam q p b a (subst (λ (l : List (T × Effect T D K V)). In q l) at.2 (f q (inr i))))) (λ q i. back q b a out.0 i (g q (subst (λ (l : List (T × Effect T D K V)). In q l) (sym at.2) (seam_in q p b a i)))) in
      let rest' : IsPermutation (lines_of S xs) (lines_of S a ++ lines_of S b) = subst (λ (l : List V). IsPermutation (lines_of S xs) l) (lines_append b a) rest in
      let one = IsPermutation-append_left p.1.lines (lines_of S xs) (lines_of S a ++ lines_of S b) rest' in
      let two : IsPermutation ((lines_of S a ++ lines_of S b) ++ p.1.lines) ((lines_of S a ++ p.1.lines) ++ lines_of S b) =
      subst (λ (l : List V). IsPermutation l ((lines_of S a ++ p.1.lines) ++ lines_of S b)) (sym (append_assoc (lines_of S a) (lines_of S b) p.1.lines))
      (subst (λ (l : List V). IsPermutation (lines_of S a ++ (lines_of S b ++ p.1.lines)) l) (sym (append_assoc (lines_of S a) p.1.lines (lines_of S b)))
      (IsPermutation-append_right (lines_of S a) (lines_of S b ++ p.1.lines) (p.1.lines ++ lines_of S b) (IsPermutation-append_comm (lines_of S b) p.1.lines))) in
      let same : lines_of S ys ≡ (lines_of S a ++ p.1.lines) ++ lines_of S b = ap (λ (l : List (T × Effect T D K V)). lines_of S l) at.2 ∙ lines_append b (p ∷ a) in
      subst (λ (l : List V). IsPermutation (lines_of S xs ++ p.1.lines) l) (sym same) (IsPermutation-trans _ _ _ one two)
    where
      into : (q : T × Effect T D K V) (b a : List (T × Effect T D K V)) → In q xs → In q (b ++ a) ⊎ (q ≡ p) → In q (b ++ a)
      into q b a i (inl h) = h
      into q b a i (inr h) = absurd (d.0 (subst (λ (x : T × Effect T D K V). In x xs) h i))

      back : (q : T × Effect T D K V) (b a : List (T × Effect T D K V)) → (In p (b ++ a) → ⊥) → In q (b ++ a) → In q (p ∷ xs) → In q xs
      back q b a out i h = elim h [ inl r ↦ absurd (out (subst (λ (x : T × Effect T D K V). In x (b ++ a)) r i)) | inr j ↦ j ]

  module _ (L : Laws S) (s t : State T D K V E) (log more : List (T × Effect T D K V)) (f : Follows S s log) (g : Follows S t more) (qs : Quiet S s) (qt : Quiet S t) where
    here : LogIsWhole S log
    here = run_complete S L f.run (quiet_log S L s log f qs)

    there : LogIsWhole S more
    there = run_complete S L g.run (quiet_log S L t more g qt)

    -- both logs have the same facts
    over : (u : T) (e : Effect T D K V) → Logged S log u e → Logged S more u e
    over u e h = there.facts here.known.0 u e (here.known.1 u e h)

    back_over : (u : T) (e : Effect T D K V) → Logged S more u e → Logged S log u e
    back_over u e h = here.facts there.known.0 u e (there.known.1 u e h)

    pub same_end : SameEnd S s t
    same_end = record { lines = lines; blocked = blocked; places = places; stored = stored }
      where
        lines : IsPermutation s.lines t.lines
        lines =
            subst (λ (l : List V). IsPermutation l t.lines) (sym f.lines)
            (subst (λ (l : List V). IsPermutation (lines_of S log) l) (sym g.lines)
            (lines_permuted log more (facts_differ log (log_once S L f.run)) (facts_differ more (log_once S L g.run)) (λ p i. over p.0 p.1 i) (λ p i. back_over p.0 p.1 i)))

        blocked : (u : T) → In u (tasks_in_items S s.items) → In u (tasks_in_items S t.items)
        blocked u h =
            let a = complete S L s log f qs in
            let b = complete S L t more g qt in
            let x = in_unmap (λ (i : Item T). i.task) u s.items h in
            let l = a.blocked_live x.0 x.1 in
            subst (λ (y : T). In y (tasks_in_items S t.items)) x.2 (b.blocked_all l.0 x.0.task l.1 (λ e k. a.blocked_never x.0 x.1 e k))

        places : (a : D) → In a s.places → In a t.places ⊎ Free S t a
        places a h = kept S L t more g a (made_grows S (Logged S log) (Logged S more) over (f.store.data_in a h))

        stored : (w : Write D K V) → In w s.stored → In w t.stored ⊎ Free S t w.place
        stored w h = by (user_is S L w.place t.items)
          where
            x : Written S (Logged S more) w.place w.key w.value
            x = written_grows S (Logged S log) (Logged S more) over (f.store.stored_in w h)

            by : ((i : Item T) × In i t.items × Uses S i.task w.place) ⊎ ((i : Item T) → In i t.items → Uses S i.task w.place → ⊥) → In w t.stored ⊎ Free S t w.place
            by (inl u) = inl (g.store.stored_all w.place w.key w.value u.0.task x (g.items.waits u.0 u.1) u.2)
            by (inr n) = inr (record { unread = λ i k r. n i k (inl r); unwritten = λ i k m. n i k (inr m) })
