-- What is closed in the script is closed in the code, by the script's answers, where rights are exact.
use Rattle.std.proofs.Common.{inl, inr, refl, sym, ap, ◌∙◌}
use Rattle.dataflow.specs.System.{In}
use Rattle.dataflow.specs.Facts as Fa
use Rattle.dataflow.specs.Facts.{Live, live_main, live_opened}
use Rattle.language.specs.Core.{Core}
use Rattle.language.specs.Facts.{Knowledge}
use Rattle.language.specs.Single.{SinglyAssigned}
use Rattle.language.specs.WellFormed.{WellFormed}
use Rattle.task_code.specs.Code.{Variable, Code}
use Rattle.task_code.specs.Effects.{Task}
use Rattle.task_code.specs.Exact.{IsExact}
use Rattle.task_code.specs.Places as CodePlaces
use Rattle.task_code.specs.Places.{Datum}
use Rattle.task_code.specs.System.{code_system}
use Rattle.task_code.specs.Whole.{IsCode}
use Rattle.task_code.proofs.Kept.{code_laws}
use Rattle.task_code.proofs.Places.{spot_variable}
use Rattle.code_rules.specs.IsCodeOf.{IsCodeOf}
use Rattle.language_laws.specs.Scoped.{Scoped}
use Rattle.language_laws.specs.TypedValues.{TypedValues}
use Rattle.headline.specs.Answered.{Reading}
use Rattle.headline.specs.Chains.{Answers}
use Rattle.headline.specs.Inclusions.{Facts, ArraysOnce, ClosedFrom}
use Rattle.headline.specs.Knows.{Knows}
use Rattle.headline.proofs.Backing.{backs, knows_full}
use Rattle.headline.proofs.ClosingFrom.{Ends}
use Rattle.headline.proofs.Derived.{ended_by}
use Rattle.headline.proofs.Hits.{made_in_block, array_made}
use Rattle.headline.proofs.LiveFrom.{by_answers, main_reading}
use Rattle.headline.proofs.Means.{chain_body}
use Rattle.headline.proofs.Transfer.{reading_valid}

module _ (s : Core) (C : Code) (w : IsCodeOf s C) (K : Knowledge) (wf : WellFormed s) (kn : Knows s K) (I : IsCode C) (sc : Scoped s) where
  -- each fact that is read counts
  abbrev facts_end : Ends s C w K wf (backs s K kn) I sc (by_answers s C w K wf (backs s K kn) I sc)
  facts_end = record {
    Counted = λ q v t e. Facts s C K t e;
    main = λ q v. record { live = live_main; reading = main_reading s C w K wf (backs s K kn) I sc };
    counts = λ q v j c p x va l f kw. record { live = l; reading = f };
    right = λ p t k b ch j there at n x o v m kv z h g. tt;
  }

  -- what some live task may read is made
  read_made : {t : Task} → Live (code_system C) (Reading (code_system C) (Answers s K)) t → (a : CodePlaces.Place) → In a ((code_system C).may_read t) → Fa.Made (code_system C) (Facts s C K) a
  read_made live_main a h = absurd h
  read_made (live_opened t u e o lv f io iu) a h =
      elim ((code_laws C I).opens_reads t u e o a (record { answers = f.answers; is = f.is; valid = reading_valid (code_system C) (code_laws C I) (Answers s K) lv }) io iu h) [
        | inl m ↦ record { task = t; effect = e; opening = o; fact = record { live = lv; reading = f }; opens = io; makes = m }
        | inr r ↦ read_made lv a r
      ]

  pub closed_from : TypedValues s K → IsExact C → SinglyAssigned s → ArraysOnce s C K → ClosedFrom s C K
  closed_from ty ex single once p0 v0 a0 rd cl =
      let mk = read_made rd.1 (Datum p0 v0) rd.2 in
      let md = made_in_block s C w K wf kn I sc ty mk.task mk.effect mk.opening (Datum p0 v0) mk.fact mk.opens mk.makes in
      let same = spot_variable md.is in
      let am = array_made s C w K wf I sc (chain_body s C w.layout K wf.names I sc md.chain) md.made (ap (λ (z : Variable). z.array) (sym same) ∙ a0) in
      let r = ended_by s C w K wf (backs s K kn) I sc (by_answers s C w K wf (backs s K kn) I sc) facts_end (knows_full s K kn wf) ex single (Facts s C K) (λ j c p e l f. record { live = l; reading = f })
      (λ pl h. tt) (λ pl u k. tt) (λ pl u h q x e y. tt) cl p0 v0 a0 refl (ap (λ (z : Variable). w.layout.array z.node) same ∙ am.0.of_layout) in
      record { made = r.made; finished = r.finished; one_writer = once p0 v0 a0 }
