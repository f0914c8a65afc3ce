-- The rules that `clap` receives for each command, and the matches that it returns.
use Rattle.std.specs.Prelude.{◌⊎◌, ◌≤◌, length, option_to_list, ◌≡◌, ◌&&◌, ◌||◌, nat_eq, ℕ, Bool, true, false, not, Result, Ok, Err, List, [], ◌∷◌, drop, fold, Some, option_map, unwrap_or, codes}
use Rattle.std.specs.List.{list_any}
use Rattle.clap.specs.Words.{App, Rule, Text, first_value, found_of, matched_of, new_app, new_rule, raw_values, with_rule}
use Rattle.clap.specs.declared.builder.ArgAction.TheVariants.{Append}
use Rattle.clap.specs.declared.ArgMatches.{ArgMatches}
use Rattle.clap.specs.declared.error.kind.ErrorKind.{ErrorKind}
use Rattle.clap.specs.declared.error.kind.ErrorKind.TheVariants.{OutOfMemory}
use Rattle.swt_arguments.specs.declared.command.Command.{Command}
use Rattle.swt_arguments.specs.Commands.{has_option}
use Rattle.swt_arguments.specs.Words.{marked, well_formed, files_in, values_of}
use Rattle.swt_arguments.specs.declared.fault.LineFault.{LineFault}
use Rattle.swt_arguments.specs.declared.fault.LineFault.TheVariants.{Usage, Memory}

-- an option, matched by its whole name; it may be used once, with one value
abbrev pub option_rule : Text → Rule
option_rule name = record (new_rule name) { long = Some (drop 2 name) }

-- the words that are neither an option nor its value; all are kept
abbrev pub file_rule : Rule
file_rule = record (new_rule (codes "FILE")) { action = Some Append }

-- the name of an option: two dashes, more characters, and no `=`
abbrev pub is_name : List ℕ → Bool
is_name (a ∷ b ∷ c ∷ rest) = nat_eq a 45 && nat_eq b 45 && not (list_any (λ x. nat_eq x 61) (c ∷ rest))
is_name _ = false

-- a marked word has the form of an option's name: two dashes, more characters, and no `=`
abbrev pub is_plain : List ℕ → Bool
is_plain w = not (marked w) || is_name w

-- neither the program's name as first word nor an option for help
abbrev pub bare_app : App
bare_app =
    let app = new_app (codes "swt") in
    record app { top = record app.top { no_binary_name = true; disable_help_flag = true } }

-- files and these options
abbrev pub app_with : List Text → App
app_with names = fold (λ app name. with_rule app (option_rule name)) (with_rule bare_app file_rule) names

-- the files, in order
abbrev pub files_given : ArgMatches → List Text
files_given matches = unwrap_or (option_map raw_values (matched_of (found_of matches) (codes "FILE"))) []

-- the value given for an option, or nothing
abbrev pub values_given : ArgMatches → Text → List Text
values_given matches name = option_to_list (first_value (found_of matches) name)

-- why parsing failed
abbrev pub refusal : ErrorKind → LineFault
refusal OutOfMemory = Memory
refusal _ = Usage

-- the matches of well formed words: their files, and the value of each option
pub record Holds (command : Command) (ws : List Text) (matches : ArgMatches) : Type 0 where
  pub form : well_formed command false ws ≡ true
  pub files : files_given matches ≡ files_in false ws
  pub values : (o : Text) → has_option command o ≡ true → values_given matches o ≡ values_of o false ws

-- `Usage` is returned only if the words are not well formed or an option has two values; `Memory` may be returned for
-- any words
abbrev pub IsRead : Command → List Text → Result ArgMatches LineFault → Type 0
IsRead command ws (Ok matches) = Holds command ws matches
IsRead command ws (Err Usage) =
    (well_formed command false ws ≡ false) ⊎ ((o : Text) × (has_option command o ≡ true) × (2 ≤ length (values_of o false ws)))
IsRead command ws (Err Memory) = Unit {0}
