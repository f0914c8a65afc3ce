-- A line is what the words ask for, but for how it is to be told.
use Rattle.std.specs.Prelude.{◌≡◌, ℕ, List, Some, Err, option_map}
use Rattle.std.proofs.Common.{ap, sym, ◌∙◌}
use Rattle.swt_arguments.specs.declared.fault.LineFault.{LineFault}
use Rattle.swt_arguments.specs.declared.fault.LineFault.TheVariants.{Usage, Memory}
use Rattle.swt_arguments.specs.declared.request.Request.{Request}
use Rattle.swt_arguments.specs.Requests.{request_of}
use Rattle.swt_arguments.specs.Words.{Answers}
use Rattle.swt_library.specs.Words.{line_of}

pub line_given : (words texts : List (List ℕ)) (request : Request) → words ≡ texts → request_of words ≡ Some request → line_of texts ≡ Some request.line
line_given words texts request same given = ap line_of (sym same) ∙ ap (option_map (λ (r : Request). r.line)) given

pub line_refused : (words texts : List (List ℕ)) (fault : LineFault) → words ≡ texts → Answers (request_of words) (Err fault) → Answers (line_of texts) (Err fault)
line_refused words texts Usage same given = ap line_of (sym same) ∙ ap (option_map (λ (r : Request). r.line)) given
line_refused words texts Memory same given = given
