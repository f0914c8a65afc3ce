-- When all free data have gone, none that is free is there.
use Rattle.std.proofs.Common.{◌⊎◌, inl, inr, List, [], ◌∷◌, refl, sym, subst}
use Rattle.dataflow.specs.System.{In, Write, System}
use Rattle.dataflow.specs.Machine.{State, Free, Leaves}
use Rattle.dataflow.specs.Data.{IsTidy}
use Rattle.board_history.specs.Replay.{Tests, AreTests, is_used, places_left, stored_left, tidied}
use Rattle.board_history.proofs.Tests.{choose, unused_free, used_not_free}

module _ {T D K V E : Type 0} (S : System T D K V E) (X : Tests D K V) (R : AreTests S X) where
  module _ (s : State T D K V E) where
    abbrev left : List D → List D
    left ds = places_left S X s.items ds

    abbrev values : List (Write D K V) → List (Write D K V)
    values ws = stored_left S X s.items ws

    no_new : (a : D) (ds : List D) → In a (left ds) → In a ds
    no_new a [] = λ h. h
    no_new a (d ∷ ds) =
        choose (λ (l : List D). In a l → In a (d ∷ ds)) (is_used S X s.items d) (d ∷ left ds) (left ds)
        (λ t h. elim h [ inl p ↦ inl p | inr i ↦ inr (no_new a ds i) ])
        (λ t h. inr (no_new a ds h))

    stays : (a : D) (ds : List D) → In a ds → In a (left ds) ⊎ Free S s a
    stays a [] h = absurd h
    stays a (d ∷ ds) h =
        choose (λ (l : List D). In a l ⊎ Free S s a) (is_used S X s.items d) (d ∷ left ds) (left ds)
        (λ t. elim h [ inl p ↦ inl (inl p) | inr i ↦ elim (stays a ds i) [ inl j ↦ inl (inr j) | inr f ↦ inr f ] ])
        (λ t. elim h [ inl p ↦ inr (subst (λ (x : D). Free S s x) (sym p) (unused_free S X R s d t)) | inr i ↦ stays a ds i ])

    not_free : (a : D) (ds : List D) → In a (left ds) → Free S s a → ⊥
    not_free a [] = λ h f. h
    not_free a (d ∷ ds) =
        choose (λ (l : List D). In a l → Free S s a → ⊥) (is_used S X s.items d) (d ∷ left ds) (left ds)
        (λ t h f. elim h [ inl p ↦ used_not_free S X R s d t (subst (λ (x : D). Free S s x) p f) | inr i ↦ not_free a ds i f ])
        (λ t h f. not_free a ds h f)

    no_new_value : (v : Write D K V) (ws : List (Write D K V)) → In v (values ws) → In v ws
    no_new_value v [] = λ h. h
    no_new_value v (w ∷ ws) =
        choose (λ (l : List (Write D K V)). In v l → In v (w ∷ ws)) (is_used S X s.items w.place) (w ∷ values ws) (values ws)
        (λ t h. elim h [ inl p ↦ inl p | inr i ↦ inr (no_new_value v ws i) ])
        (λ t h. inr (no_new_value v ws h))

    value_stays : (v : Write D K V) (ws : List (Write D K V)) → In v ws → In v (values ws) ⊎ Free S s v.place
    value_stays v [] h = absurd h
    value_stays v (w ∷ ws) h =
        choose (λ (l : List (Write D K V)). In v l ⊎ Free S s v.place) (is_used S X s.items w.place) (w ∷ values ws) (values ws)
        (λ t. elim h [ inl p ↦ inl (inl p) | inr i ↦ elim (value_stays v ws i) [ inl j ↦ inl (inr j) | inr f ↦ inr f ] ])
        (λ t. elim h [ inl p ↦ inr (subst (λ (x : Write D K V). Free S s x.place) (sym p) (unused_free S X R s w.place t)) | inr i ↦ value_stays v ws i ])

  pub tidied_leaves : (s : State T D K V E) → Leaves S s (tidied S X s)
  tidied_leaves s = record {
    items = refl;
    next = refl;
    lines = refl;
    fault = refl;
    no_new_place = λ a h. no_new s a s.places h;
    stays = λ a h. stays s a s.places h;
    no_new_value = λ w h. no_new_value s w s.stored h;
    value_stays = λ w h. value_stays s w s.stored h;
  }

  pub tidied_tidy : (s : State T D K V E) → IsTidy S (tidied S X s)
  tidied_tidy s a h f = not_free s a s.places h (record { unread = f.unread; unwritten = f.unwritten })
