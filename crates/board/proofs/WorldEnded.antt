-- What becomes of instances, rows and data at the End of an item, put together for each change that it makes.
use Rattle.std.proofs.Common.{◌≡◌, ◌∙◌, ℕ, ◌<◌, ◌≤◌, Bool, true, false, List, [], ◌∷◌, ◌++◌, map, length, refl, sym, ap, subst, arith, append_assoc, append-nil, Option, Some, None}
use Rattle.std.specs.Prelude.{◌^◌, if◌then◌else◌, slice_get}
use Rattle.std.proofs.lemmas.List.{map-append}
use Rattle.dataflow.specs.System.{Opening}
use Rattle.dataflow.specs.Machine.{Event}
use Rattle.data_store.specs.Stores.{Store, at}
use Rattle.board_history.specs.Ending.{BecomesKnown, CellsAfter, NamesLead, TakenOff, added_times, given_times, home, job_stores, made_jobs, new_row, rest_jobs}
use Rattle.board_history.specs.Fields.{Counted, Does, Fields, Frame, Job, Over, Row, Script, Want, Whole, row_of, task_of}
use Rattle.board_history.specs.Stands.{Stands}
use Rattle.board_history.specs.Static.{rests}
use Rattle.board_history.proofs.EndedFrames.{one_rest}
use Rattle.task_code.specs.Code.{Code}
use Rattle.task_code.specs.Compute.{Computed}
use Rattle.task_code.specs.Effects.{Task, is_some_list}
use Rattle.task_code.specs.Places.{Place}
use Rattle.task_code.specs.Whole.{IsCode}
use Rattle.board_program.specs.Spots.{layout_of}
use Rattle.board_program.specs.Tables.{is_place}
use Rattle.board_data.specs.Ended.{Covers}
use Rattle.board_data.specs.Holds.{Fit}
use Rattle.board_data.specs.Stored.{StoresIn}
use Rattle.board_data.specs.View.{cells_view}
use Rattle.board_data.specs.Wanted.{FewSlots}
use Rattle.board_effects.specs.Effects.{OpensNothing}
use Rattle.board_data.specs.Openings.{AreOpenings}
use Rattle.board_instances.proofs.Opened.{stands_nested}
use Rattle.board_instances.specs.Made.{FitsAround, made_as}
use Rattle.board_instances.specs.declared.pending.PendingInstance.{PendingInstance as OneOpening}
use Rattle.board_instances.specs.declared.pending.PendingInstances.{PendingInstances}
use Rattle.board_changes.proofs.After.{cells_after}
use Rattle.board_changes.proofs.Becomes.{becomes}
use Rattle.board_changes.proofs.Bridge.{are_blocks}
use Rattle.board_changes.proofs.EntryOpens.{entry_opens, opens_become}
use Rattle.board_changes.proofs.EntryStores.{entry_stores, frames_same, makes_none, stores_become}
use Rattle.board_changes.proofs.Frames.{are_made, frames_open, rows_are}
use Rattle.board_changes.proofs.Known.{given}
use Rattle.board_changes.proofs.Leads.{all_lead}
use Rattle.board_changes.proofs.Rights.{covers}
use Rattle.board_changes.proofs.ScriptOpens.{script_opens}
use Rattle.board_changes.proofs.Steps.{with_none}
use Rattle.board_changes.proofs.Told.{told_sound}
use Rattle.board_changes.specs.Blocks.{AreBlocks}
use Rattle.board_changes.specs.Data.{MakesData}
use Rattle.board_changes.specs.Opened.{AreOpened, going}
use Rattle.board_changes.specs.World.{CanStore, Goes, IsSame, LetsGo, Opens, WorldEnds, target_of, told_of, values_of}
use Rattle.board_changes.specs.declared.data_state.Change.{Change}
use Rattle.board_changes.specs.declared.data_state.Change.TheVariants as Changes
use Rattle.board.proofs.After.{WorldAfter, new_jobs}
use Rattle.board.proofs.Slots.{few_left, few_opened, few_put}

-- all that the End of an item comes to for instances, rows and data
pub record WorldPasses (C : Code) (F : Fields) (j : Job) (x : Computed) (gs : List (Option Frame)) (ds : List (Option Counted)) (rows : List Row) (news : List (Want ℕ)) : Type 0 where
  pub after : WorldAfter C F j x gs ds
  pub known_is : after.known ≡ news
  pub rows_are : rows ≡ F.rows ++ map new_row (new_jobs C F j x gs ds after)
  pub few : FewSlots gs

-- what a change opens, and how many slots the first instance has
abbrev pub OpensAs : (C : Code) (fs : List (Option Frame)) → Job → Computed → Change → Type 0
OpensAs C fs j x Changes.Nothing = OpensNothing C fs j x
OpensAs C fs j x (Changes.Value d v) = OpensNothing C fs j x
OpensAs C fs j x (Changes.Element d k v) = OpensNothing C fs j x
OpensAs C fs j x (Changes.Elements d es) = OpensNothing C fs j x
OpensAs C fs j x (Changes.Opens o) = AreOpenings C fs j x o

pub record OpeningsFit (fs : List (Option Frame)) (j : Job) (o : PendingInstances) : Type 0 where
  pub around : FitsAround fs (home j) (length o.list.items)
  pub count : ℕ
  pub first : (one : OneOpening) → slice_get o.list.items 0 ≡ Some one → count ≡ length one.instance.slots.items
  pub few : count < 2 ^ 64

-- the holds that are added fit
abbrev pub HoldsFit : (C : Code) (F : Fields) (j : Job) (s : Store) (o : PendingInstances) → Type 0
HoldsFit C F j s o =
    (hs : List (Option Frame)) (rows : List Row) (stored more : Store) (w : AreOpened C j o F.frames hs F.rows rows stored more) → StoresIn None [] s stored
    → (d : ℕ) → Fit (added_times C (layout_of C) (λ y. y.reads) hs d (map (made_as F.frames (home j)) w.placed.puts)) (added_times C (layout_of C) (λ y. y.writes) hs d (map (made_as F.frames (home j)) w.placed.puts)) (at w.made d)

abbrev pub ChangeFits : (C : Code) (F : Fields) (j : Job) (s : Store) → Change → Type 0
ChangeFits C F j s Changes.Nothing = Unit {0}
ChangeFits C F j s (Changes.Value d v) = Unit {0}
ChangeFits C F j s (Changes.Element d k v) = Unit {0}
ChangeFits C F j s (Changes.Elements d es) = Unit {0}
ChangeFits C F j s (Changes.Opens o) = OpeningsFit F.frames j o × HoldsFit C F j s o

same_entry : (P : ℕ → ℕ → ℕ → Type 0) (k e c l f d : ℕ) → Does k e c ≡ Does l f d → P k e c → P l f d
same_entry P k e c l f d q p =
    let a : k ≡ l = cc in
    let b : e ≡ f = cc in
    let g : c ≡ d = cc in
    subst (λ z. P z f d) a (subst (λ z. P k z d) b (subst (λ z. P k e z) g p))

not_script : {B : Type 0} (k e c : ℕ) → Script ≡ Does k e c → B
not_script k e c q = absurd (cc)

-- the item that goes on with a loop, as the code makes it
goes_as : (k e c : ℕ) (os : List (Opening Task Place)) → length os ≤ 1 → (b : Bool) → b ≡ is_some_list os → going (Does k e c) b ≡ rest_jobs (Does k e c) os
goes_as k e c [] l true q = absurd (cc)
goes_as k e c [] l false q = refl
goes_as k e c (o ∷ []) l true q = refl
goes_as k e c (o ∷ []) l false q = absurd (cc)
goes_as k e c (o ∷ p ∷ os) l b q = absurd (omega arith)

goes_script : (b : Bool) → going Script b ≡ []
goes_script true = refl
goes_script false = refl

module _ (C : Code) (I : IsCode C) (es : List Event) (F : Fields) (st : Stands C (layout_of C) es F) (n : ℕ) (row : Row) (there : row_of F.rows n ≡ Some row) (live : row.status ≡ Over → ⊥) (x : Computed) (s : Store) (cells : F.cells ≡ cells_view s.cells) (few : FewSlots F.frames) where
  abbrev fs : List (Option Frame)
  fs = F.frames

  -- a change that opens nothing
  module _ (ch : Change) (can : CanStore ch s) (gs : List (Option Frame)) (rows : List Row) (stored t : Store) (closed : List ℕ) (stores : StoresIn (target_of ch) (values_of ch) s stored) (same_rows : rows ≡ F.rows) where
    entry_nothing : (k e c : ℕ) → row.job ≡ Does k e c → OpensNothing C fs (Does k e c) x → LetsGo C (Does k e c) fs gs stored t closed → ((d : ℕ) → (if is_place d (target_of ch) then values_of ch else []) ≡ job_stores C (layout_of C) fs (Does k e c) x d) →
        WorldPasses C F (Does k e c) x gs (cells_view t.cells) rows (told_of ch ++ map Whole closed)
    entry_nothing k e c job none goes told =
        let os : List (Opening Task Place) = rests C (task_of fs (Does k e c)) x in
        let both = entry_stores C I es F st n k e c row there job live x os (target_of ch) (values_of ch) gs s stored t closed none.ends cells stores goes told in
        record {
          after =
              record {
                made = [];
                made_are = sym none.none;
                middle = fs;
                opens = frames_same C fs (Some k);
                leads = λ l f d m q i. absurd i;
                leaves = both.1;
                cells = both.0;
                known = told_of ch ++ map Whole closed;
                becomes = stores_become C I es F st n k e c row there job live x os ch gs s stored t closed none.ends cells can stores goes told;
              };
          known_is = refl;
          rows_are = same_rows ∙ sym (append-nil F.rows) ∙ ap (λ (l : List (Opening Task Place)). F.rows ++ map new_row (rest_jobs (Does k e c) l)) (sym none.ends);
          few = few_left gs fs _ both.1 few;
        }

    script_nothing : row.job ≡ Script → OpensNothing C fs Script x → LetsGo C Script fs gs stored t closed → ((d : ℕ) → (if is_place d (target_of ch) then values_of ch else []) ≡ job_stores C (layout_of C) fs Script x d) →
        WorldPasses C F Script x gs (cells_view t.cells) rows (told_of ch ++ map Whole closed)
    script_nothing job none goes told =
        record {
          after =
              record {
                made = [];
                made_are = sym none.none;
                middle = fs;
                opens = frames_same C fs None;
                leads = λ l f d m q i. absurd i;
                leaves = leaves;
                cells = subst (λ (cs : List (Option Counted)). CellsAfter C (layout_of C) fs fs Script x [] [] cs (cells_view t.cells)) (sym cells)
                    (cells_after C (layout_of C) fs fs Script x [] [] (target_of ch) (values_of ch) s stored stored stored t stores makes (λ d. sym (with_none (at stored d))) goes.gives cov told (λ d h. (refl, refl)));
                known = told_of ch ++ map Whole closed;
                becomes = subst (λ (cs : List (Option Counted)). BecomesKnown C (layout_of C) (job_stores C (layout_of C) fs Script x) cs (cells_view t.cells) (told_of ch ++ map Whole closed)) (sym cells)
                    (becomes C (layout_of C) fs fs Script x [] [] ch s stored stored stored t can stores makes (λ d. sym (with_none (at stored d))) goes.gives cov told closed goes.closes
                    (told_sound ch (λ d. given_times C (layout_of C) (λ y. y.reads) fs d Script []) (λ d. given_times C (layout_of C) (λ y. y.writes) fs d Script []) s stored t can stores
                    (given C (layout_of C) fs fs Script x [] [] (target_of ch) (values_of ch) s stored stored stored t stores makes (λ d. sym (with_none (at stored d))) goes.gives cov) goes.gives.nothing));
              };
          known_is = refl;
          rows_are = same_rows ∙ sym (append-nil F.rows);
          few = few_left gs fs None leaves few;
        }
      where
        leaves : TakenOff gs fs None
        leaves = goes.leaves (stands_nested C (layout_of C) es F st) (λ k e. absurd (cc))

        makes : MakesData C (layout_of C) fs fs Script x [] stored stored
        makes = makes_none C (layout_of C) fs Script x stored

        cov : Covers (λ d. given_times C (layout_of C) (λ y. y.reads) fs d Script []) (λ d. given_times C (layout_of C) (λ y. y.writes) fs d Script []) s
        cov = subst (λ (j : Job). Covers (λ d. given_times C (layout_of C) (λ y. y.reads) fs d j []) (λ d. given_times C (layout_of C) (λ y. y.writes) fs d j []) s) job (covers C I (layout_of C) es F st n row there live [] s cells)

    nothing : (j : Job) → row.job ≡ j → OpensNothing C fs j x → LetsGo C j fs gs stored t closed → ((d : ℕ) → (if is_place d (target_of ch) then values_of ch else []) ≡ job_stores C (layout_of C) fs j x d) →
        WorldPasses C F j x gs (cells_view t.cells) rows (told_of ch ++ map Whole closed)
    nothing Script job = script_nothing job
    nothing (Does k e c) job = entry_nothing k e c job

  -- the same from the steps
  kept : (ch : Change) (j : Job) → row.job ≡ j → CanStore ch s → OpensNothing C fs j x → ((d : ℕ) → (if is_place d (target_of ch) then values_of ch else []) ≡ job_stores C (layout_of C) fs j x d)
      → (middle gs : List (Option Frame)) (rows : List Row) (stored more t : Store) (closed : List ℕ) → StoresIn (target_of ch) (values_of ch) s stored → IsSame C fs middle F.rows rows stored more → LetsGo C j middle gs more t closed
      → (news : List (Want ℕ)) → news ≡ told_of ch ++ map Whole closed → WorldPasses C F j x gs (cells_view t.cells) rows news
  kept ch j job can none told middle gs rows stored more t closed stores same goes news e =
      subst (λ (ws : List (Want ℕ)). WorldPasses C F j x gs (cells_view t.cells) rows ws) (sym e)
      (nothing ch can gs rows stored t closed stores same.rows j job none
      (subst (λ (a : List (Option Frame)). LetsGo C j a gs stored t closed) same.frames (subst (λ (a : Store). LetsGo C j middle gs a t closed) same.data_same goes)) told)

  -- a change that opens instances
  module _ (o : PendingInstances) (gs : List (Option Frame)) (rows : List Row) (t : Store) where
    entry_blocks : (k e c : ℕ) → row.job ≡ Does k e c → AreOpenings C fs (Does k e c) x o → OpeningsFit fs (Does k e c) o → HoldsFit C F (Does k e c) s o → ((d : ℕ) → [] ≡ job_stores C (layout_of C) fs (Does k e c) x d)
        → (middle : List (Option Frame)) (stored more : Store) (closed : List ℕ) → StoresIn None [] s stored → Opens C (Does k e c) o fs middle F.rows rows stored more → Goes C o.goes_on (Does k e c) middle gs more t closed
        → WorldPasses C F (Does k e c) x gs (cells_view t.cells) rows (map Whole closed)
    entry_blocks k e c job are fit holds told middle stored more closed stores opens goes =
        let b : AreBlocks C fs (Does k e c) x o = are_blocks C fs st.frames.depth x o (Does k e c) are in
        let puts = few_put C I (Does k e c) x o fs middle F.rows opens.rows stored more b opens.opened fit.count fit.first fit.few in
        let both = entry_opens C I es F st n k e c row there job live x o middle opens.rows s stored more b opens.opened fit.around puts (holds middle opens.rows stored more opens.opened stores) gs t closed o.goes_on goes are.goes_on cells stores told in
        record {
          after =
              record {
                made = map (made_as fs (Some k)) opens.opened.placed.puts;
                made_are = are_made C (Does k e c) x o fs middle F.rows opens.rows stored more b opens.opened;
                middle = middle;
                opens = frames_open C (Does k e c) x o fs middle F.rows opens.rows stored more b opens.opened fit.around;
                leads = λ l f d m q i. same_entry (λ l f d. NamesLead C (layout_of C) fs middle l f d m) k e c l f d q (all_lead C I es F st n k e c row there job live x o middle F.rows opens.rows stored more b opens.opened fit.around puts m i);
                leaves = both.1;
                cells = both.0;
                known = map Whole closed;
                becomes = opens_become C I es F st n k e c row there job live x o middle opens.rows s stored more b opens.opened fit.around puts (holds middle opens.rows stored more opens.opened stores) gs t closed o.goes_on goes are.goes_on cells stores told;
              };
          known_is = refl;
          rows_are = opens.goes
              ∙ ap (λ (l : List Row). l ++ map new_row (going (Does k e c) o.goes_on)) (rows_are C (Does k e c) x o fs middle F.rows opens.rows stored more b opens.opened)
              ∙ append_assoc F.rows (map new_row (made_jobs C (map (made_as fs (Some k)) opens.opened.placed.puts))) (map new_row (going (Does k e c) o.goes_on))
              ∙ ap (λ (l : List Row). F.rows ++ l) (sym (map-append new_row (made_jobs C (map (made_as fs (Some k)) opens.opened.placed.puts)) (going (Does k e c) o.goes_on)))
              ∙ ap (λ (l : List Job). F.rows ++ map new_row (made_jobs C (map (made_as fs (Some k)) opens.opened.placed.puts) ++ l)) (goes_as k e c (rests C (task_of fs (Does k e c)) x) (one_rest C (task_of fs (Does k e c)) x) o.goes_on are.goes_on);
          few = few_left gs middle _ both.1 (few_opened C I (Does k e c) x o fs middle F.rows opens.rows stored more b opens.opened fit.count fit.first fit.few fit.around few);
        }

    script_blocks : row.job ≡ Script → AreOpenings C fs Script x o → OpeningsFit fs Script o → HoldsFit C F Script s o
        → (middle : List (Option Frame)) (stored more : Store) (closed : List ℕ) → StoresIn None [] s stored → Opens C Script o fs middle F.rows rows stored more → Goes C o.goes_on Script middle gs more t closed
        → WorldPasses C F Script x gs (cells_view t.cells) rows (map Whole closed)
    script_blocks job are fit holds middle stored more closed stores opens goes =
        let b : AreBlocks C fs Script x o = are_blocks C fs st.frames.depth x o Script are in
        let all = script_opens C I es F st n row there job live x o middle opens.rows s stored more b opens.opened (holds middle opens.rows stored more opens.opened stores) gs t closed (subst (λ (y : Bool). Goes C y Script middle gs more t closed) are.goes_on goes) cells stores in
        record {
          after =
              record {
                made = map (made_as fs None) opens.opened.placed.puts;
                made_are = are_made C Script x o fs middle F.rows opens.rows stored more b opens.opened;
                middle = middle;
                opens = frames_open C Script x o fs middle F.rows opens.rows stored more b opens.opened tt;
                leads = λ l f d m q i. not_script l f d q;
                leaves = all.1;
                cells = all.0;
                known = map Whole closed;
                becomes = all.2;
              };
          known_is = refl;
          rows_are = opens.goes ∙ ap (λ (l : List Job). opens.rows ++ map new_row l) (goes_script o.goes_on) ∙ append-nil opens.rows
              ∙ rows_are C Script x o fs middle F.rows opens.rows stored more b opens.opened
              ∙ ap (λ (l : List Job). F.rows ++ map new_row l) (sym (append-nil (made_jobs C (map (made_as fs None) opens.opened.placed.puts))));
          few = few_left gs middle None all.1 (few_opened C I Script x o fs middle F.rows opens.rows stored more b opens.opened fit.count fit.first fit.few tt few);
        }

  -- all changes
  pub passes : (ch : Change) (j : Job) → row.job ≡ j → CanStore ch s → OpensAs C fs j x ch → ChangeFits C F j s ch → ((d : ℕ) → (if is_place d (target_of ch) then values_of ch else []) ≡ job_stores C (layout_of C) fs j x d)
      → (gs : List (Option Frame)) (rows : List Row) (t : Store) (news : List (Want ℕ)) → WorldEnds C j ch fs gs F.rows rows s t news → WorldPasses C F j x gs (cells_view t.cells) rows news
  passes Changes.Nothing j job can opens fit told gs rows t news w = kept Changes.Nothing j job can opens told w.middle gs rows w.changed.stored w.more t w.closed (w.changed.stores can) w.changed.opens w.goes news w.known_is
  passes (Changes.Value d v) j job can opens fit told gs rows t news w = kept (Changes.Value d v) j job can opens told w.middle gs rows w.changed.stored w.more t w.closed (w.changed.stores can) w.changed.opens w.goes news w.known_is
  passes (Changes.Element d k v) j job can opens fit told gs rows t news w = kept (Changes.Element d k v) j job can opens told w.middle gs rows w.changed.stored w.more t w.closed (w.changed.stores can) w.changed.opens w.goes news w.known_is
  passes (Changes.Elements d xs) j job can opens fit told gs rows t news w = kept (Changes.Elements d xs) j job can opens told w.middle gs rows w.changed.stored w.more t w.closed (w.changed.stores can) w.changed.opens w.goes news w.known_is
  passes (Changes.Opens o) Script job can opens fit told gs rows t news w =
      subst (λ (ws : List (Want ℕ)). WorldPasses C F Script x gs (cells_view t.cells) rows ws) (sym w.known_is)
      (script_blocks o gs rows t job opens fit.0 fit.1 w.middle w.changed.stored w.more w.closed (w.changed.stores can) w.changed.opens w.goes)
  passes (Changes.Opens o) (Does k e c) job can opens fit told gs rows t news w =
      subst (λ (ws : List (Want ℕ)). WorldPasses C F (Does k e c) x gs (cells_view t.cells) rows ws) (sym w.known_is)
      (entry_blocks o gs rows t k e c job opens fit.0 fit.1 told w.middle w.changed.stored w.more w.closed (w.changed.stores can) w.changed.opens w.goes)
