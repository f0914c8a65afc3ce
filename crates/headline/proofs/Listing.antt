-- The lines of facts with their writers, in the order of a log.
use Rattle.std.proofs.Common.{◌≡◌, ◌⊎◌, inl, inr, ℕ, List, [], ◌∷◌, ◌++◌, map, refl, sym, ap, ◌∙◌, subst}
use Rattle.std.proofs.lemmas.List.{map-append}
use Rattle.dataflow.specs.System.{In, Effect}
use Rattle.dataflow.specs.Promises.{lines_of}
use Rattle.values.specs.declared.key.Key.{Key}
use Rattle.values.specs.declared.value.Scalar.{Scalar}
use Rattle.values.specs.declared.value.Scalar.TheVariants.{Text}
use Rattle.values.specs.declared.value.Value.TheVariants.{One}
use Rattle.values.specs.Values.{text_of}
use Rattle.language.specs.Members.{◌∈◌, first, later}
use Rattle.language.specs.Outcomes.{Written, texts, OnceEach}
use Rattle.language.specs.Places.{Place}
use Rattle.language.proofs.Members.{split_in, to_left, to_right, either}
use Rattle.task_code.specs.Code.{Code, entry}
use Rattle.task_code.specs.Effects.{Task, Main, Item}
use Rattle.task_code.specs.Places as CodePlaces
use Rattle.task_code.specs.System.{code_system}
use Rattle.headline.specs.Headline.{script_path}

abbrev pub TaskEffect : Type 0
TaskEffect = Effect Task CodePlaces.Place Key Scalar

abbrev pub LogFacts : Type 0
LogFacts = List (Task × TaskEffect)

abbrev pub text : Scalar → List ℕ
text v = text_of (One v)

module _ (C : Code) where
  -- the place whose line a task prints
  abbrev pub writer : Task → Place
  writer Main = ([], 0)
  writer (Item i p c) = (script_path p, (entry C i).node)

  abbrev pub its_lines : Task × TaskEffect → List Written
  its_lines x = map (λ (v : Scalar). (writer x.0, text v)) x.1.lines

  -- the lines of facts with their writers, the latest first in the list of facts
  abbrev pub listing : LogFacts → List Written
  listing [] = []
  listing (x ∷ xs) = listing xs ++ its_lines x

  abbrev pub Prints : Place → List ℕ → List Written → Type 0
  Prints p t ls = ◌∈◌ {X = Written} (p, t) ls

  its_texts : (p : Place) (vs : List Scalar) → texts (map (λ (v : Scalar). (p, text v)) vs) ≡ map text vs
  its_texts p [] = refl
  its_texts p (v ∷ vs) = ap (λ (l : List (List ℕ)). text v ∷ l) (its_texts p vs)

  pub record PrintedBy (fs : LogFacts) (p : Place) (t : List ℕ) : Type 0 where
    pub task : Task
    pub effect : TaskEffect
    pub there : In (task, effect) fs
    pub place_is : p ≡ writer task
    pub value : Scalar
    pub prints : In value effect.lines
    pub text_is : t ≡ text value

  pub its_printed : (x : Task × TaskEffect) (fs : LogFacts) → In x fs → (p : Place) (t : List ℕ) (vs : List Scalar) → ((v : Scalar) → In v vs → In v x.1.lines) → Prints p t (map (λ (v : Scalar). (writer x.0, text v)) vs) → PrintedBy fs p t
  its_printed x fs i p t [] h m = elim m [ ]
  its_printed x fs i p t (v ∷ vs) h m = by (split_in m) (λ k. its_printed x fs i p t vs (λ u j. h u (inr j)) k)
    where
      by : (◌≡◌ {A = Written} (p, t) (writer x.0, text v)) ⊎ (Prints p t (map (λ (v : Scalar). (writer x.0, text v)) vs)) → (Prints p t (map (λ (v : Scalar). (writer x.0, text v)) vs) → PrintedBy fs p t) → PrintedBy fs p t
      by (inl e) rec = record {
        task = x.0;
        effect = x.1;
        there = i;
        place_is = ap (λ (y : Written). y.0) e;
        value = v;
        prints = h v (inl refl);
        text_is = ap (λ (y : Written). y.1) e;
      }
      by (inr k) rec = rec k

  wider : (x : Task × TaskEffect) (fs : LogFacts) (p : Place) (t : List ℕ) → PrintedBy fs p t → PrintedBy (x ∷ fs) p t
  wider x fs p t r = record { task = r.task; effect = r.effect; there = inr r.there; place_is = r.place_is; value = r.value; prints = r.prints; text_is = r.text_is }

  pub printed_by : (fs : LogFacts) (p : Place) (t : List ℕ) → Prints p t (listing fs) → PrintedBy fs p t
  printed_by [] p t m = elim m [ ]
  printed_by (x ∷ fs) p t m =
      elim (either (listing fs) (its_lines x) m) [
        | inl k ↦ wider x fs p t (printed_by fs p t k)
        | inr k ↦ its_printed x (x ∷ fs) (inl refl) p t x.1.lines (λ v i. i) k
      ]

  pub its_listed : (p : Place) (v : Scalar) (vs : List Scalar) → In v vs → Prints p (text v) (map (λ (u : Scalar). (p, text u)) vs)
  its_listed p v [] h = absurd h
  its_listed p v (u ∷ vs) (inl e) = subst (λ (z : Scalar). Prints p (text v) ((p, text z) ∷ map (λ (y : Scalar). (p, text y)) vs)) e first
  its_listed p v (u ∷ vs) (inr m) = later (its_listed p v vs m)

  pub listed : (fs : LogFacts) (t : Task) (e : TaskEffect) (v : Scalar) → In (t, e) fs → In v e.lines → Prints (writer t) (text v) (listing fs)
  listed [] t e v h i = absurd h
  listed (x ∷ fs) t e v (inl q) i =
      to_right (listing fs) (its_lines x) (subst (λ (y : Task × TaskEffect). Prints (writer t) (text v) (its_lines y)) q (its_listed (writer t) v e.lines i))
  listed (x ∷ fs) t e v (inr h) i = to_left (listing fs) (its_lines x) (listed fs t e v h i)

  pub once_append : (xs ys : List Written) → OnceEach xs → OnceEach ys → ((p : Place) (t u : List ℕ) → Prints p t xs → Prints p u ys → ⊥) → OnceEach (xs ++ ys)
  once_append [] ys o q apart = q
  once_append (x ∷ xs) ys o q apart = (
    λ t m. elim (either xs ys m) [ inl k ↦ o.0 t k | inr k ↦ apart x.0 x.1 t first k ],
    once_append xs ys o.1 q (λ p t u i j. apart p t u (later i) j),
  )

  pub listing_texts : (fs : LogFacts) → texts (listing fs) ≡ map text (lines_of (code_system C) fs)
  listing_texts [] = refl
  listing_texts (x ∷ fs) =
      map-append (λ (l : Written). l.1) (listing fs) (its_lines x)
      ∙ ap (λ (l : List (List ℕ)). l ++ texts (its_lines x)) (listing_texts fs)
      ∙ ap (λ (l : List (List ℕ)). map text (lines_of (code_system C) fs) ++ l) (its_texts (writer x.0) x.1.lines)
      ∙ sym (map-append text (lines_of (code_system C) fs) x.1.lines)

  -- the lines of facts are texts
  pub all_texts : (vs : List Scalar) → ((y : Scalar) → In y vs → (bytes : List ℕ) × (y ≡ Text bytes)) → vs ≡ map Text (map text vs)
  all_texts [] h = refl
  all_texts (v ∷ vs) h =
      let r = h v (inl refl) in
      let q : v ≡ Text (text v) = r.1 ∙ ap Text (sym (ap text r.1)) in
      λ i. q i ∷ all_texts vs (λ y j. h y (inr j)) i
