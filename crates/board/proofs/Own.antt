-- What holds of a board, and of one that has accepted an event more.
use Rattle.std.proofs.Common.{◌≡◌, ◌⊎◌, inl, inr, ℕ, zero, suc, ◌+◌, ◌<◌, ◌≤◌, Bool, true, false, List, [], ◌∷◌, ◌++◌, map, refl, sym, ap, ◌∙◌, subst, Option, None, Some, is_none, is_some, IsTrue, arith}
use Rattle.std.specs.Prelude.{◌^◌, vec_capacity, vec_len}
use Rattle.dataflow.specs.System.{In}
use Rattle.dataflow.specs.Events.{NewlyAt, worker_of}
use Rattle.dataflow.specs.Machine.{Back, Begin, End, Event, start}
use Rattle.dataflow.proofs.Lists.{in_split}
use Rattle.board_history.specs.Fields as Pure
use Rattle.board_history.specs.Stands.{Stands}
use Rattle.board_history.proofs.Marking.{running_marked}
use Rattle.board_history.proofs.Rows.{no_row}
use Rattle.task_code.specs.Code.{Code}
use Rattle.task_code.specs.Machine.{CanBegin, CodeState, CodeStep, RunsOn, Run}
use Rattle.task_code.specs.System.{code_system}
use Rattle.task_code.specs.View.{event_view}
use Rattle.task_code.specs.Whole.{IsCode}
use Rattle.task_code.specs.declared.event.Event.{Event as BoardEvent}
use Rattle.rules.specs.declared.input.Input.{Input}
use Rattle.board_work.specs.declared.answer.Answer.{Answer}
use Rattle.board_program.specs.Spots.{layout_of}
use Rattle.board_instances.specs.View.{rows_view}
use Rattle.paths.specs.declared.faults.Fault.{Fault}
use Rattle.dataflow.specs.Machine as Machine
use Rattle.task_code.specs.Compute.{EntryFault}
use Rattle.task_code.specs.Effects.{Item, Main, Task}
use Rattle.task_code.specs.Places.{Step}
use Rattle.board.specs.Blocked.{IsFaultOf}
use Rattle.board_program.specs.Program.{AreAtMost}
use Rattle.board.specs.Board.{Accepts, AreByWorkers, IsGoing, IsWorker, Seen}
use Rattle.board.specs.Ending.{IsUnchanged}
use Rattle.board.specs.History.{state_of}
use Rattle.board.specs.Inside.{IsNoted, IsSound, Stand, seen_of}
use Rattle.board.specs.Numbers.{AreNumbered, number_in}
use Rattle.board.specs.Rows as Rows
use Rattle.board_effects.specs.Effects.{kind_of_fault}
use Rattle.board.specs.View.{fields_view}
use Rattle.board.specs.declared.board.Board.TheInside.{Inside}
use Rattle.board.specs.declared.state.BoardState.{BoardState}
use Rattle.std.proofs.Common.{Vec, Global}
use Rattle.std.proofs.lemmas.List.{map-append}
use Rattle.board.proofs.Changes.{unmet, untold}
use Rattle.board.proofs.Moves.{begins_ready, ready_begins, row_runs, runs_row, state_is, stepped}
use Rattle.board_history.proofs.Replays.{run_replayed}
use Rattle.board_history.proofs.Elements.{code_told}
use Rattle.board_history.specs.Elements.{code_tests}
use Rattle.task_code.proofs.Kept.{code_laws}

pub none_of : {A : Type 0} (o : Option A) → is_none o ≡ true → o ≡ None
none_of None h = refl
none_of (Some x) h = absurd (cc)

pub some_of : {A : Type 0} (o : Option A) → is_none o ≡ false → o ≡ None → ⊥
some_of o h e = let p : true ≡ false = ap is_none (sym e) ∙ h in absurd (cc)

pub is_met : {A : Type 0} (o : Option A) → is_some o ≡ true → o ≡ None → ⊥
is_met o h e = let p : false ≡ true = ap is_some (sym e) ∙ h in absurd (cc)

pub not_true : (b : Bool) → b ≡ false → IsTrue b → ⊥
not_true b off t = let clash : true ≡ false = sym t ∙ off in absurd (cc)

pub history_goes : (hs : List BoardEvent) (e : BoardEvent) → map event_view (hs ++ e ∷ []) ≡ map event_view hs ++ event_view e ∷ []
history_goes hs e = map-append event_view hs (e ∷ [])

-- one event more
more : (P : Event → Type 0) (hs : List BoardEvent) (e : BoardEvent) → ((f : Event) → In f (map event_view hs) → P f) → P (event_view e) → (f : Event) → In f (map event_view (hs ++ e ∷ [])) → P f
more P hs e all by f i = split (in_split f (map event_view hs) (event_view e ∷ []) (subst (λ (es : List Event). In f es) (history_goes hs e) i))
  where
    split : In f (map event_view hs) ⊎ In f (event_view e ∷ []) → P f
    split (inl a) = all f a
    split (inr (inl p)) = subst P (sym p) by
    split (inr (inr n)) = absurd n

pub no_snoc : {X : Type 0} (xs : List X) (x : X) → xs ++ x ∷ [] ≡ [] → ⊥
no_snoc [] x h = absurd (cc)
no_snoc (y ∷ xs) x h = absurd (cc)

-- a new board
pub first_seen : (C D : Code) (n : ℕ) (events : List BoardEvent) (newly : List ℕ) → D ≡ C → events ≡ [] → newly ≡ [] → ◌≡◌ {A = Seen} (record { code = D; limit = n; state = state_of D (map event_view events); history = map event_view events; newly = newly }) (record { code = C; limit = n; state = start (code_system C); history = []; newly = [] })
first_seen C D n events newly e h k =
    (λ i. record { code = e i; limit = n; state = state_of (e i) (map event_view (h i)); history = map event_view (h i); newly = k i })
    ∙ ap (λ (s : CodeState). record { code = C; limit = n; state = s; history = []; newly = [] }) (state_is C [] (start (code_system C)) refl)

pub first_sound : (b : Inside) → IsCode b.program → AreAtMost b.program b.most_names → Stand b.program [] b.core → b.history.items ≡ [] → vec_len b.history ≡ 0 → b.core.items.newly.items ≡ [] → b.core.items.running ≡ 0 → IsSound b
first_sound b whole names stand history len newly running =
    record {
      whole = whole;
      names = names;
      stand = subst (λ (es : List BoardEvent). Stand b.program (map event_view es) b.core) (sym history) stand;
      room = λ h. omega arith;
      newly = λ n i. absurd (subst (λ (ns : List ℕ). In n ns) newly i);
      within = omega arith;
      workers = subst (λ (es : List BoardEvent). AreByWorkers (map event_view es)) (sym history) (λ e i. absurd i);
      numbers = subst (λ (es : List BoardEvent). AreNumbered (map event_view es)) (sym history) (λ e i. absurd i);
    }

-- the number of a row is above 0
pub numbered : (rows : List Pure.Row) (n : ℕ) (r : Pure.Row) → Pure.row_of rows n ≡ Some r → 0 < n
numbered rows zero r h = no_row rows r h
numbered rows (suc n) r h = omega arith

module _ (C : Code) (I : IsCode C) (es : List Event) (core : BoardState) (s : Stand C es core) where
  abbrev pub x : Stands C (layout_of C) es (fields_view s.told core)
  x = s.stands

  pub state_here : state_of C es ≡ x.state
  state_here = state_is C es x.state x.reached

  pub run_here : Run C es (state_of C es)
  run_here = subst (λ (t : CodeState). Run C es t) (sym state_here) (run_replayed (code_system C) code_tests (code_told C) (code_laws C I) es x.state x.reached).0

  -- the state has a fault exactly where one is noted
  pub free_state : core.fault ≡ None → (state_of C es).fault ≡ None
  free_state h = ap (λ (t : CodeState). t.fault) state_here ∙ sym x.fault ∙ untold C s.told.fault core.fault s.fault h

  pub free_core : (state_of C es).fault ≡ None → core.fault ≡ None
  free_core h = unmet C s.told.fault core.fault s.fault (x.fault ∙ ap (λ (t : CodeState). t.fault) (sym state_here) ∙ h)

  pub may_begin : (n : ℕ) (j : Pure.Job) → Rows.IsReady (rows_view core.items.rows.items) n j → CanBegin C (state_of C es) n
  may_begin n j h = subst (λ (t : CodeState). CanBegin C t n) (sym state_here) (ready_begins C I (layout_of C) es (fields_view s.told core) x n j h)

  pub may_not_begin : (n : ℕ) → ((j : Pure.Job) → Rows.IsReady (rows_view core.items.rows.items) n j → ⊥) → CanBegin C (state_of C es) n → ⊥
  may_not_begin n none h = let p = begins_ready C I (layout_of C) es (fields_view s.told core) x n (subst (λ (t : CodeState). CanBegin C t n) state_here h) in none p.0 p.1

  pub theirs : (w n : ℕ) (j : Pure.Job) → Rows.RunsOn (rows_view core.items.rows.items) w n j → RunsOn C (state_of C es) w n
  theirs w n j h = subst (λ (t : CodeState). RunsOn C t w n) (sym state_here) (row_runs C I (layout_of C) es (fields_view s.told core) x w n j h)

  pub not_theirs : (w n : ℕ) → ((j : Pure.Job) → Rows.RunsOn (rows_view core.items.rows.items) w n j → ⊥) → RunsOn C (state_of C es) w n → ⊥
  not_theirs w n none h = let p = runs_row C I (layout_of C) es (fields_view s.told core) x w n (subst (λ (t : CodeState). RunsOn C t w n) state_here h) in none p.0 p.1

  -- the fields of the history with an event more show a step, and which items are newly enabled
  pub steps_on : (e : Event) (new : BoardState) → Stand C (es ++ e ∷ []) new → CodeStep C (state_of C es) e (state_of C (es ++ e ∷ []))
  steps_on e new t = stepped C I (layout_of C) es (fields_view s.told core) x e t.stands.state t.stands.reached

  pub newly_on : (e : Event) (new : BoardState) → Stand C (es ++ e ∷ []) new → NewlyAt (code_system C) (state_of C es) (state_of C (es ++ e ∷ [])) new.items.newly.items
  newly_on e new t =
      subst (λ (u : CodeState). NewlyAt (code_system C) (state_of C es) u new.items.newly.items) (sym (state_is C (es ++ e ∷ []) t.stands.state t.stands.reached))
      (subst (λ (u : CodeState). NewlyAt (code_system C) u t.stands.state new.items.newly.items) (sym state_here)
      (t.stands.newly es e x.state refl x.reached))

  -- the lines are the state's
  pub lines_here : (state_of C es).lines ≡ core.lines.items
  lines_here = ap (λ (t : CodeState). t.lines) state_here ∙ sym x.lines

  -- and so is the fault, with its statement
  pub fault_here : (f : Fault) → core.fault ≡ Some f → IsFaultOf C (state_of C es) f
  fault_here f e = noted s.told.fault x.fault (subst (λ (g : Option Fault). IsNoted C s.told.fault g) e s.fault)
    where
      noted : (m : Option (Task × Machine.Fault EntryFault)) → m ≡ x.state.fault → IsNoted C m (Some f) → IsFaultOf C (state_of C es) f
      noted None h n = absurd n
      noted (Some (Main, k)) h n = absurd n.1
      noted (Some (Item i p c, k)) h n =
          record {
            number = i;
            chunk = c;
            is = ap (λ (t : CodeState). t.fault) state_here ∙ sym h ∙ ap (λ (g : Machine.Fault EntryFault). Some (Item i p c, g)) n.0 ∙ ap (λ (q : List Step). Some (Item i q c, kind_of_fault f.kind)) (sym n.1.1);
            stands = n.1.0;
          }

  -- where one runs, some run
  pub some_run : (w n : ℕ) (j : Pure.Job) → Rows.RunsOn (rows_view core.items.rows.items) w n j → 0 < core.items.running
  some_run w zero j h = no_row (rows_view core.items.rows.items) (record { job = j; status = Pure.Running w }) h
  some_run w (suc n) j h =
      let e = running_marked (rows_view core.items.rows.items) n (record { job = j; status = Pure.Running w }) Pure.Ready h in
      let f = x.items.running in
      omega arith

-- the step that the board has made
pub accepts_on : (a : Inside) (s : IsSound a) (b : Inside) (e : BoardEvent) → b.program ≡ a.program → b.limit ≡ a.limit → b.history.items ≡ a.history.items ++ e ∷ []
    → Stand a.program (map event_view a.history.items ++ event_view e ∷ []) b.core → IsGoing (seen_of a) → Accepts (seen_of a) (event_view e) (seen_of b)
accepts_on a s b e program limit history stand going =
    record {
      going = going;
      step =
          subst (λ (es : List Event). CodeStep a.program (state_of a.program (map event_view a.history.items)) (event_view e) (state_of b.program es)) (sym events)
          (subst (λ (C : Code). CodeStep a.program (state_of a.program (map event_view a.history.items)) (event_view e) (state_of C (map event_view a.history.items ++ event_view e ∷ []))) (sym program)
          (steps_on a.program s.whole (map event_view a.history.items) a.core s.stand (event_view e) b.core stand));
      history = events;
      code = program;
      limit = limit;
      newly =
          subst (λ (es : List Event). NewlyAt (code_system a.program) (state_of a.program (map event_view a.history.items)) (state_of b.program es) b.core.items.newly.items) (sym events)
          (subst (λ (C : Code). NewlyAt (code_system a.program) (state_of a.program (map event_view a.history.items)) (state_of C (map event_view a.history.items ++ event_view e ∷ [])) b.core.items.newly.items) (sym program)
          (newly_on a.program s.whole (map event_view a.history.items) a.core s.stand (event_view e) b.core stand));
      rising = stand.kept.rises;
    }
  where
    events : map event_view b.history.items ≡ map event_view a.history.items ++ event_view e ∷ []
    events = ap (map event_view) history ∙ history_goes a.history.items e

-- the board after an event
pub sound_on : (a : Inside) (s : IsSound a) (b : Inside) (e : BoardEvent) → b.program ≡ a.program → b.most_names ≡ a.most_names → b.limit ≡ a.limit → b.history.items ≡ a.history.items ++ e ∷ []
    → Stand a.program (map event_view a.history.items ++ event_view e ∷ []) b.core → (b.core.fault ≡ None → vec_len b.history + b.core.items.running ≤ vec_capacity b.history)
    → vec_len b.history ≤ b.limit → IsWorker (worker_of (event_view e)) → (0 < number_in (event_view e)) × (number_in (event_view e) < 2 ^ 64) → IsSound b
sound_on a s b e program most limit history stand room within worker number =
    record {
      whole = subst (λ (C : Code). IsCode C) (sym program) s.whole;
      names = subst (λ (C : Code). AreAtMost C b.most_names) (sym program) (subst (λ (n : ℕ). AreAtMost a.program n) (sym most) s.names);
      stand = subst (λ (C : Code). Stand C (map event_view b.history.items) b.core) (sym program) (subst (λ (es : List Event). Stand a.program es b.core) (sym events) stand);
      room = room;
      newly = λ n i.
          subst (λ (C : Code). CanBegin C (state_of C (map event_view b.history.items)) n) (sym program)
          (subst (λ (es : List Event). CanBegin a.program (state_of a.program es) n) (sym events)
          ((newly_on a.program s.whole (map event_view a.history.items) a.core s.stand (event_view e) b.core stand).can n i));
      within = within;
      workers = subst (λ (es : List BoardEvent). AreByWorkers (map event_view es)) (sym history) (more (λ f. IsWorker (worker_of f)) a.history.items e s.workers worker);
      numbers = subst (λ (es : List BoardEvent). AreNumbered (map event_view es)) (sym history) (more (λ f. (0 < number_in f) × (number_in f < 2 ^ 64)) a.history.items e s.numbers number);
    }
  where
    events : map event_view b.history.items ≡ map event_view a.history.items ++ event_view e ∷ []
    events = ap (map event_view) history ∙ history_goes a.history.items e

-- the board as it was, but for room
pub same_on : (a : Inside) (s : IsSound a) (core : BoardState) (known : Vec Input Global) (answers : Vec Answer Global) → IsUnchanged a.program (map event_view a.history.items) a.core core → IsSound (record { program = a.program; most_names = a.most_names; limit = a.limit; core = core; history = a.history; known = known; answers = answers })
same_on a s core known answers k =
    record {
      whole = s.whole;
      names = s.names;
      stand = k.stand;
      room = λ h. subst (λ (n : ℕ). vec_len a.history + n ≤ vec_capacity a.history) (sym k.running) (s.room (sym k.fault ∙ h));
      newly = λ n i. s.newly n (subst (λ (ns : List ℕ). In n ns) k.newly i);
      within = s.within;
      workers = s.workers;
      numbers = s.numbers;
    }

pub same_seen : (a : Inside) (core : BoardState) (known : Vec Input Global) (answers : Vec Answer Global) → core.items.newly.items ≡ a.core.items.newly.items → seen_of (record { program = a.program; most_names = a.most_names; limit = a.limit; core = core; history = a.history; known = known; answers = answers }) ≡ seen_of a
same_seen a core known answers e = ap (λ (ns : List ℕ). record { code = a.program; limit = a.limit; state = state_of a.program (map event_view a.history.items); history = map event_view a.history.items; newly = ns }) e

-- the same board
pub sorted_sound : (a : Inside) (s : IsSound a) (core : BoardState) (answers : Vec Answer Global) → core ≡ a.core → (history : Vec BoardEvent Global) → history.items ≡ a.history.items → vec_len history ≡ vec_len a.history → vec_capacity a.history ≤ vec_capacity history → IsSound (record { program = a.program; most_names = a.most_names; limit = a.limit; core = core; history = history; known = a.known; answers = answers })
sorted_sound a s core answers e history items len capacity =
    record {
      whole = s.whole;
      names = s.names;
      stand = subst (λ (hs : List BoardEvent). Stand a.program (map event_view hs) core) (sym items) (subst (λ (k : BoardState). Stand a.program (map event_view a.history.items) k) (sym e) s.stand);
      room = λ h.
          let r = s.room (ap (λ (k : BoardState). k.fault) (sym e) ∙ h) in
          let n = ap (λ (k : BoardState). k.items.running) e in
          omega arith;
      newly = subst (λ (hs : List BoardEvent). (n : ℕ) → In n core.items.newly.items → CanBegin a.program (state_of a.program (map event_view hs)) n) (sym items) (λ n i. s.newly n (subst (λ (k : BoardState). In n k.items.newly.items) e i));
      within = (let w = s.within in omega arith);
      workers = subst (λ (hs : List BoardEvent). AreByWorkers (map event_view hs)) (sym items) s.workers;
      numbers = subst (λ (hs : List BoardEvent). AreNumbered (map event_view hs)) (sym items) s.numbers;
    }
