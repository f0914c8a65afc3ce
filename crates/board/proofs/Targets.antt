-- The array into which an item stores takes the elements, where room was made.
use Rattle.std.proofs.Common.{◌≡◌, refl, ℕ, true, List, [], ◌∷◌, ◌++◌, Option, Some, None}
use Rattle.std.specs.Prelude.{IsSomeAnd}
use Rattle.dataflow.specs.Machine.{End, Event, SeesAll}
use Rattle.dataflow.specs.System.{Answer}
use Rattle.data_store.specs.Data.{IsArray}
use Rattle.data_store.specs.Stores.{IsArrayAt, Store, at}
use Rattle.data_store.specs.declared.datum.Content.{Content}
use Rattle.data_store.specs.declared.datum.Content.TheVariants.{OfArray, OfScalar}
use Rattle.data_store.specs.declared.datum.Datum.{Datum}
use Rattle.board_history.specs.CodeReplay.{replayed}
use Rattle.board_history.specs.Fields.{Does, Fields, Job, Row, Script, row_of, task_of}
use Rattle.board_history.specs.Stands.{Stands}
use Rattle.board_history.specs.Static.{computed_by}
use Rattle.task_code.specs.Code.{Code}
use Rattle.task_code.specs.Compute.{Elements, Inserts, pairs}
use Rattle.task_code.specs.Machine.{CodeState}
use Rattle.task_code.specs.System.{code_system, task_inputs}
use Rattle.task_code.specs.Whole.{IsCode}
use Rattle.values.specs.declared.key.Key.{Key}
use Rattle.values.specs.declared.value.Scalar.{Scalar}
use Rattle.board_program.specs.Spots.{layout_of}
use Rattle.board_data.specs.Data.{is_keyed}
use Rattle.board_data.specs.View.{cells_view}
use Rattle.board_effects.proofs.Takes.{array_there, can_store}
use Rattle.board_effects.specs.Effects.{GoesWell, IsEffect, target_in}
use Rattle.board_effects.specs.declared.effect.Effect.{Effect}
use Rattle.board_effects.specs.declared.effect.Effect.TheVariants as To
use Rattle.board_changes.specs.Room.{TakesMore}
use Rattle.board_changes.specs.World.{CanStore}
use Rattle.board.specs.Changing.{change_of}

is_array : (s : Store) (d : ℕ) → IsArrayAt s d → is_keyed (at s d) ≡ true
is_array s d h = by (at s d) h
  where
    content : (y : Datum) (o : Content) → IsArray o → is_keyed (Some (record { content = o; reads = y.reads; writes = y.writes })) ≡ true
    content y (OfScalar v) i = absurd i
    content y (OfArray a) i = refl

    by : (o : Option Datum) → IsSomeAnd o (λ x. IsArray x.content) → is_keyed o ≡ true
    by None i = absurd i
    by (Some y) i = content y y.content i

module _ (C : Code) (I : IsCode C) (es : List Event) (F : Fields) (x : Stands C (layout_of C) es F) (w n : ℕ) (t : CodeState) (reached : replayed C (es ++ End w n ∷ []) ≡ Some t) (row : Row) (row_is : row_of F.rows n ≡ Some row) (xs : List (Answer Key Scalar)) (known : SeesAll (code_system C) x.state (task_inputs C (task_of F.frames row.job)) xs) (store : Store) (cells : F.cells ≡ cells_view store.cells) where
  target_keyed : (j : Job) → row.job ≡ j → (e : Effect) → GoesWell C F.frames F.cells j (computed_by C (task_of F.frames j) xs) e → (ys : Elements) → computed_by C (task_of F.frames j) xs ≡ Inserts ys → (d : ℕ) → target_in e ≡ Some d → is_keyed (at store d) ≡ true
  target_keyed Script is e g ys q d td = absurd (g.leads d td)
  target_keyed (Does k i c) is e g ys q d td = is_array store d (array_there C I es F x w n t reached row row_is xs known store cells k i c is d (g.leads d td) ys q).0

  -- what goes well can be stored, once there is room for it
  pub change_takes : (e : Effect) → IsEffect C F.frames F.cells row.job (computed_by C (task_of F.frames row.job) xs) e → TakesMore (change_of e) store → CanStore (change_of e) store
  change_takes (To.Fails f) g r = tt
  change_takes (To.Stores d v) g r = can_store C I es F x w n t reached row row_is xs known store cells (To.Stores d v) g
  change_takes (To.InsertsElement d k v) g r = λ m h. can_store C I es F x w n t reached row row_is xs known store cells (To.InsertsElement d k v) g m h (r m h (target_keyed row.job refl (To.InsertsElement d k v) g ((k, v) ∷ []) g.computed m h))
  change_takes (To.Inserts d ys) g r = λ m h. can_store C I es F x w n t reached row row_is xs known store cells (To.Inserts d ys) g m h (r m h (target_keyed row.job refl (To.Inserts d ys) g (pairs ys.items) g.computed m h))
  change_takes (To.Prints v) g r = tt
  change_takes To.Passes g r = tt
  change_takes (To.Opens o) g r = tt
