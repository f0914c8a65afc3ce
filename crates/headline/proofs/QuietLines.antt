-- A quiet state has all of the script's lines, once the code comes to all that the script's answers yield.
use Rattle.std.proofs.Common.{◌≡◌, ℕ, List, map, sym, ap, ◌∙◌, subst}
use Rattle.std.specs.List.Sorted.{IsPermutation}
use Rattle.std.proofs.lemmas.List.Sorted.{IsPermutation-refl}
use Rattle.dataflow.specs.System.{In}
use Rattle.dataflow.specs.Facts.{Ever}
use Rattle.dataflow.specs.Promises.{Complete}
use Rattle.values.specs.declared.value.Scalar.{Scalar}
use Rattle.values.specs.declared.value.Scalar.TheVariants.{Text}
use Rattle.language.specs.Core.{Core}
use Rattle.language.specs.Facts.{line}
use Rattle.language.specs.Meaning.{Meaning}
use Rattle.language.specs.Outcomes.{Lines, texts}
use Rattle.language.specs.Places.{Place}
use Rattle.language.specs.Single.{SinglyAssigned}
use Rattle.language.specs.WellFormed.{WellFormed}
use Rattle.task_code.specs.Code.{Code}
use Rattle.task_code.specs.Effects.{Task, Item}
use Rattle.task_code.specs.Exact.{IsExact}
use Rattle.task_code.specs.Machine.{CodeState}
use Rattle.task_code.specs.System.{code_system}
use Rattle.task_code.specs.Whole.{IsCode}
use Rattle.code_rules.specs.IsCodeOf.{IsCodeOf}
use Rattle.code_rules.specs.NodesOnce.{NodesOnce}
use Rattle.language_laws.specs.Scoped.{Scoped}
use Rattle.language_laws.specs.TypedValues.{TypedValues}
use Rattle.headline.specs.Inclusions.{Facts}
use Rattle.headline.specs.Knows.{Knows}
use Rattle.headline.proofs.Backing.{backs}
use Rattle.headline.proofs.LinesOf.{lines_from}
use Rattle.headline.proofs.Listing.{TaskEffect, text, listing, Prints, listed, listing_texts, all_texts}
use Rattle.headline.proofs.RunsWithin.{AllIts, within, once_listing, listing_known, line_text}

module _ (s : Core) (C : Code) (w : IsCodeOf s C) (wf : WellFormed s) (kn : Knows s (Meaning s)) (I : IsCode C) (sc : Scoped s) (ty : TypedValues s (Meaning s)) (nodes : NodesOnce C) (ex : IsExact C) (single : SinglyAssigned s)
    (back : (t : Task) (e : TaskEffect) → Facts s C (Meaning s) t e → Ever (code_system C) t e) where
  pub quiet_lines : (st : CodeState) → Complete (code_system C) st → (printed : List (List ℕ)) × (st.lines ≡ map Text printed) × Lines (Meaning s) printed
  quiet_lines st a = (
    map text st.lines,
    all_texts C st.lines (λ y i. line_text s C w wf kn I sc ty nodes ex single a.lines.facts its y (subst (λ (l : List Scalar). In y l) a.lines.is i)),
    record {
      listing = listing C a.lines.facts;
      once = once_listing s C w wf kn I sc ty nodes ex single a.lines.facts a.lines.once its;
      known = listing_known s C w wf kn I sc ty nodes ex single a.lines.facts its;
      all = all;
      permuted = subst (λ (l : List (List ℕ)). IsPermutation (texts (listing C a.lines.facts)) l) texts_are (IsPermutation-refl (texts (listing C a.lines.facts)));
    },
  )
    where
      its : AllIts s C w wf kn I sc ty nodes ex single a.lines.facts
      its t e i = (let f = a.lines.known t e i in within s C w wf kn I sc ty nodes ex single f.round t e f.known)

      texts_are : texts (listing C a.lines.facts) ≡ map text st.lines
      texts_are = listing_texts C a.lines.facts ∙ ap (λ (l : List Scalar). map text l) (sym a.lines.is)

      -- a line of the script is printed by its item, whose fact the state has
      all : (p : Place) (bytes : List ℕ) → Meaning s (line p bytes) → Prints C p bytes (listing C a.lines.facts)
      all p bytes h =
          let r = lines_from s C w (Meaning s) wf (backs s (Meaning s) kn) I sc p.0 p.1 bytes h in
          let i = a.lines.all (Item r.0 r.1 0) r.2 (back (Item r.0 r.1 0) r.2 r.3) in
          subst (λ (z : Place). Prints C z bytes (listing C a.lines.facts)) (λ z. (r.5 z, r.6 z)) (listed C a.lines.facts (Item r.0 r.1 0) r.2 (Text bytes) i r.4)
