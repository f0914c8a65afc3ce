-- The form in which `code` prints a script.
use Rattle.std.specs.Prelude.{ℕ, zero, suc, List, [], ◌∷◌, Option, Some, None, option_and_then, if◌then◌else◌, codes}
use Rattle.std.specs.Str.{bytes_eq}
use Rattle.swt_arguments.specs.declared.code_form.CodeForm.{CodeForm}
use Rattle.swt_arguments.specs.declared.code_form.CodeForm.TheVariants.{Listing, Graph, Drawing, After}
use Rattle.swt_arguments.specs.declared.pass.Pass.{Pass}
use Rattle.swt_arguments.specs.declared.pass.Pass.TheVariants.{Parse, Types, Fold, Lower, Merge, Emit}
use Rattle.swt_arguments.specs.Words.{often}

-- the form by the number of `--draw`, without `--dot`
abbrev pub without_dot : ℕ → Option CodeForm
without_dot zero = Some Listing
without_dot (suc zero) = Some Drawing
without_dot (suc (suc n)) = None

-- the form by the number of `--draw`, beside one `--dot`
abbrev pub with_dot : ℕ → Option CodeForm
with_dot zero = Some Graph
with_dot (suc n) = None

-- the form by the numbers of `--dot` and `--draw`, of which at most one is given, and that once
abbrev pub form_of : ℕ → ℕ → Option CodeForm
form_of zero draws = without_dot draws
form_of (suc zero) draws = with_dot draws
form_of (suc (suc n)) draws = None

-- the form that these words after a command ask for
abbrev pub form_given : List (List ℕ) → Option CodeForm
form_given ws = form_of (often (codes "--dot") ws) (often (codes "--draw") ws)

-- the pass of this name
abbrev pub pass_of : List ℕ → Option Pass
pass_of w =
    if bytes_eq w (codes "parse") then Some Parse
    else (if bytes_eq w (codes "types") then Some Types
    else (if bytes_eq w (codes "fold") then Some Fold
    else (if bytes_eq w (codes "lower") then Some Lower
    else (if bytes_eq w (codes "merge") then Some Merge
    else (if bytes_eq w (codes "emit") then Some Emit
    else None)))))

-- the form that `--after` with this value asks for, beside a form that is no drawing
abbrev pub after : CodeForm → List ℕ → Option CodeForm
after Listing w = option_and_then (λ pass. Some (After pass)) (pass_of w)
after Graph w = None
after Drawing w = None
after (After p) w = None

-- the form that the other options and the values of `--after` ask for
abbrev pub with_passes : Option CodeForm → List (List ℕ) → Option CodeForm
with_passes given [] = given
with_passes given (w ∷ []) = option_and_then (λ form. after form w) given
with_passes given (w ∷ v ∷ ws) = None
