-- Names for data: each present datum has a name, and no two data have the same.
use Rattle.std.specs.Prelude.{◌≡◌, List, [], ◌∷◌}
use Rattle.dataflow.specs.System.{In, System}
use Rattle.dataflow.specs.Machine.{State, Event, Step, start}

module _ {T D K V E : Type 0} (S : System T D K V E) where
  -- a state whose data have names
  pub record NamedState (N : Type 0) : Type 0 where
    pub state : State T D K V E
    pub names : List (N × D)

  -- each present datum has one name, no two have the same, and nothing else has one
  pub record IsNaming (N : Type 0) (names : List (N × D)) (places : List D) : Type 0 where
    pub named : (a : D) → In a places → (n : N) × In (n, a) names
    pub there : (n : N) (a : D) → In (n, a) names → In a places
    pub one_name : (n m : N) (a : D) → In (n, a) names → In (m, a) names → n ≡ m
    pub one_datum : (n : N) (a b : D) → In (n, a) names → In (n, b) names → a ≡ b

  -- data keep their names, and a new datum gets any name that was not in use
  pub record NamedStep (N : Type 0) (old : NamedState N) (event : Event) (new : NamedState N) : Type 0 where
    pub step : Step S old.state event new.state
    pub naming : IsNaming N new.names new.state.places
    pub stays : (n : N) (a : D) → In (n, a) old.names → In a new.state.places → In (n, a) new.names
    pub fresh : (n : N) (a b : D) → In (n, a) new.names → In (n, b) old.names → a ≡ b

  -- steps along a list of events
  abbrev pub NamedSteps : (N : Type 0) → NamedState N → List Event → NamedState N → Type 0
  NamedSteps N old [] new = old ≡ new
  NamedSteps N old (e ∷ es) new = (mid : NamedState N) × NamedStep N old e mid × NamedSteps N mid es new

  -- the initial state has no data, and no names
  abbrev pub named_start : (N : Type 0) → NamedState N
  named_start N = record { state = start S; names = [] }

-- a supply of names: for any names in use, it has another one
abbrev pub IsFresh : (N : Type 0) → (List N → N) → Type 0
IsFresh N fresh = (used : List N) → In (fresh used) used → ⊥
