-- The lines of a report where the state's are texts.
use Rattle.std.proofs.Common.{◌≡◌, ◌∙◌, ap, refl, ℕ, List, [], ◌∷◌, map}
use Rattle.values.specs.declared.value.Scalar.TheVariants.{Text}
use Rattle.board.specs.Board.{Seen}
use Rattle.board_runs.specs.declared.report.Report.{Report}
use Rattle.board_runs.specs.Report.{Tells, line_bytes}

-- a text is told by its bytes
own_bytes : (printed : List (List ℕ)) → map line_bytes (map Text printed) ≡ printed
own_bytes [] = refl
own_bytes (bytes ∷ printed) = ap (λ more. bytes ∷ more) (own_bytes printed)

pub texts_told : (b : Seen) (r : Report) (printed : List (List ℕ)) → Tells b r → b.state.lines ≡ map Text printed → r.lines.items ≡ printed
texts_told b r printed tells texts = tells.lines ∙ ap (λ lines. map line_bytes lines) texts ∙ own_bytes printed
