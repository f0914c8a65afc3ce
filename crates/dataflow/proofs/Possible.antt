-- Which events have a step from a state that a run reaches.
use Rattle.std.proofs.Common.{◌≡◌, ℕ, List, ◌∷◌, ◌++◌, sym, subst, None}
use Rattle.dataflow.specs.System.{In, System}
use Rattle.dataflow.specs.Laws.{Laws}
use Rattle.dataflow.specs.Machine.{Item, State, Begin, End, Back, At, Step}
use Rattle.dataflow.specs.Events.{CanBegin, RunsOn}
use Rattle.dataflow.specs.Promises.{GoesOn, HasSteps}
use Rattle.dataflow.proofs.Lists.{seam_here}
use Rattle.dataflow.proofs.Decide.{place_of}
use Rattle.dataflow.proofs.Headline.{leaves_nothing}

module _ {T D K V E : Type 0} (S : System T D K V E) (L : Laws S) (s : State T D K V E) (on : GoesOn S s) where
  member : (n : ℕ) (item : Item T) (before after : List (Item T)) → At S s n item before after → In item s.items
  member n item before after at = subst (λ (is : List (Item T)). In item is) (sym at.items) (seam_here item before after)

  begin : (w n : ℕ) → s.fault ≡ None → CanBegin S s n → (new : State T D K V E) × Step S s (Begin w n) new
  begin w n none c =
      subst (λ (m : ℕ). (new : State T D K V E) × Step S s (Begin w m) new) c.number_is (on.begins c.item w none c.there c.idle c.enabled)

  end : (w n : ℕ) → s.fault ≡ None → RunsOn S s w n → (new : State T D K V E) × Step S s (End w n) new
  end w n none r =
      subst (λ (m : ℕ). (new : State T D K V E) × Step S s (End w m) new) r.number_is (on.ends r.item w none r.there r.runs)

  back : (w n : ℕ) → s.fault ≡ None → RunsOn S s w n → (new : State T D K V E) × Step S s (Back w n) new
  back w n none r =
      let p = place_of r.item s.items r.there in (
        record s { items = p.0 ++ record { number = r.item.number; task = r.item.task; runs = None } ∷ p.1 },
        (none, record { item = r.item; before = p.0; after = p.1; at = record { items = p.2; number_is = r.number_is }; runs = r.runs; result = leaves_nothing S L _ }),
      )

  pub has_steps : HasSteps S s
  has_steps = record {
    begin = begin;
    begin_only = λ w n new x. (x.0, record { item = x.1.item; there = member n x.1.item x.1.before x.1.after x.1.at; number_is = x.1.at.number_is; idle = x.1.idle; enabled = x.1.enabled });
    end = end;
    end_only = λ w n new x. (x.0, record { item = x.1.item; there = member n x.1.item x.1.before x.1.after x.1.at; number_is = x.1.at.number_is; runs = x.1.runs });
    back = back;
    back_only = λ w n new x. (x.0, record { item = x.1.item; there = member n x.1.item x.1.before x.1.after x.1.at; number_is = x.1.at.number_is; runs = x.1.runs });
  }
