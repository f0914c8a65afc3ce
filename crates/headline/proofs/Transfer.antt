-- A right reading yields a settled set of facts that leaves nothing out, so it yields all that is ever known.
use Rattle.std.proofs.Common.{◌≡◌, inl, inr, Bool, true, false, List, [], ◌∷◌, refl, sym, ap, ◌∙◌, subst}
use Rattle.dataflow.specs.System.{In, Input, Answer, Effect, Outcome, System}
use Rattle.dataflow.specs.Facts.{Live, live_main, live_opened, OneWriter, GivesAll, Comes, Ever, Saturated, Clean}
use Rattle.dataflow.specs.Laws.{Can, Laws}
use Rattle.dataflow.proofs.Frozen.{OneEffect, Grounded}
use Rattle.dataflow.proofs.Settled.{Settled, good_same}
use Rattle.dataflow.proofs.Single.{single}
use Rattle.dataflow.proofs.Ever.{least, least_clean}
use Rattle.headline.specs.Answered.{ReadAll, Reading, Shown, IsRight}

module _ {T D K V E : Type 0} (S : System T D K V E) (L : Laws S) (R : Input D K → Answer K V → Type 0) where
  -- what is live by readings is live by what is shown, and back
  pub live_shown : {t : T} → Live S (Reading S R) t → Live S (Shown S R) t
  live_shown live_main = live_main
  live_shown (live_opened t u e o l f io iu) = live_opened t u e o (live_shown l) (record { live = l; reading = f }) io iu

  pub live_reading : {t : T} → Live S (Shown S R) t → Live S (Reading S R) t
  live_reading live_main = live_main
  live_reading (live_opened t u e o l f io iu) = live_opened t u e o (live_reading l) f.reading io iu

  pub reading_valid : {t : T} → Live S (Reading S R) t → S.valid t ≡ true
  reading_valid live_main = L.main_valid
  reading_valid (live_opened t u e o l f io iu) = L.opened_valid t u e o (record { answers = f.answers; is = f.is; valid = reading_valid l }) io iu

  module _ (one : (i : Input D K) (x y : Answer K V) → R i x → R i y → x ≡ y) where
    pub same_answers : (is : List (Input D K)) (xs ys : List (Answer K V)) → ReadAll S R is xs → ReadAll S R is ys → xs ≡ ys
    same_answers [] [] [] g h = refl
    same_answers [] [] (y ∷ ys) g h = absurd h
    same_answers [] (x ∷ xs) ys g h = absurd g
    same_answers (i ∷ is) [] ys g h = absurd g
    same_answers (i ∷ is) (x ∷ xs) [] g h = absurd h
    same_answers (i ∷ is) (x ∷ xs) (y ∷ ys) g h =
        let p = one i x y g.0 h.0 in
        let q = same_answers is xs ys g.1 h.1 in
        cc

    abbrev pub shown_can : (t : T) (e : Effect T D K V) → Shown S R t e → Can S t e
    shown_can t e f = record { answers = f.reading.answers; is = f.reading.is; valid = reading_valid f.live }

    pub shown_one : OneEffect (Shown S R)
    shown_one t e e' f g =
        good_same (sym f.reading.is ∙ ap (S.effect t) (same_answers (S.inputs t) f.reading.answers g.reading.answers f.reading.read g.reading.read) ∙ g.reading.is)

    pub shown_grounded : Grounded S (Shown S R)
    shown_grounded = record {
      live = λ t e f. live_shown f.live;
      can = shown_can;
      coherent = λ t u e e' f g same. same_answers (S.inputs u) f.reading.answers g.reading.answers (subst (λ (is : List (Input D K)). ReadAll S R is f.reading.answers) same f.reading.read) g.reading.read;
    }

    pub shown_writer : ((a : D) → S.is_array a ≡ true → OneWriter S (Shown S R) a) → (a : D) → OneWriter S (Shown S R) a
    shown_writer arrays a = by (S.is_array a) refl
      where
        by : (b : Bool) → S.is_array a ≡ b → OneWriter S (Shown S R) a
        by true h = arrays a h
        by false h = single S L (Shown S R) shown_grounded shown_one a h

  module _ (right : IsRight S R) where
    pub given : (t : T) → Live S (Reading S R) t → (is : List (Input D K)) → ((i : Input D K) → In i is → In i (S.inputs t)) → (xs : List (Answer K V)) → ReadAll S R is xs → GivesAll S (Shown S R) is xs
    given t l [] h [] g = tt
    given t l [] h (x ∷ xs) g = absurd g
    given t l (i ∷ is) h [] g = absurd g
    given t l (i ∷ is) h (x ∷ xs) g = (right.to t i x l (h i (inl refl)) g.0, given t l is (λ j m. h j (inr m)) xs g.1)

    taken : (t : T) → Live S (Reading S R) t → (is : List (Input D K)) → ((i : Input D K) → In i is → In i (S.inputs t)) → (xs : List (Answer K V)) → GivesAll S (Shown S R) is xs → ReadAll S R is xs
    taken t l [] h [] g = tt
    taken t l [] h (x ∷ xs) g = absurd g
    taken t l (i ∷ is) h [] g = absurd g
    taken t l (i ∷ is) h (x ∷ xs) g = (right.from t i x l (h i (inl refl)) g.0, taken t l is (λ j m. h j (inr m)) xs g.1)

    pub shown_settled : Settled S (Shown S R)
    shown_settled = record {
      comes = λ t e f. record { live = live_shown f.live; answers = f.reading.answers; known = given t f.live (S.inputs t) (λ i m. m) f.reading.answers f.reading.read; is = f.reading.is };
      one_effect = shown_one right.one;
      one_writer = shown_writer right.one right.arrays;
    }

    pub shown_saturated : Saturated S (Shown S R)
    shown_saturated t e c =
        let l = live_reading c.live in
        record { live = l; reading = record { answers = c.answers; read = taken t l (S.inputs t) (λ i m. m) c.answers c.known; is = c.is } }

    -- THE CODE WITHIN THE SCRIPT, once the script's reading of the code's inputs is right
    pub ever_shown : (t : T) (e : Effect T D K V) → Ever S t e → Shown S R t e
    ever_shown t e x = least S L (Shown S R) shown_settled shown_saturated x.round t e x.known

    pub clean_shown : Clean S
    clean_shown = least_clean S L (Shown S R) shown_settled shown_saturated

    -- a fault too is one of what is read
    pub fault_read : {t : T} {r : Outcome T D K V E} → Comes S (Shown S R) t r → Live S (Reading S R) t × ((xs : List (Answer K V)) × ReadAll S R (S.inputs t) xs × (S.effect t xs ≡ r))
    fault_read {t} c = let l = live_reading c.live in (l, (c.answers, taken t l (S.inputs t) (λ i m. m) c.answers c.known, c.is))
