-- The line of the words after the program's name, without the other requests.
use Rattle.std.specs.Prelude.{ℕ, List, Option, option_map}
use Rattle.swt_arguments.specs.declared.line.Line.{Line}
use Rattle.swt_arguments.specs.declared.request.Request.{Request}
use Rattle.swt_arguments.specs.Requests.{request_of}

-- the line that the words form
abbrev pub line_of : List (List ℕ) → Option Line
line_of words = option_map (λ (request : Request). request.line) (request_of words)
