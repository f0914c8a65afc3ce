-- The relation between the words of a command line and the end of the process.
use Rattle.std.specs.Prelude.{◌≡◌, ◌⊎◌, ℕ, List, [], Option, Some, None, option_and_then}
use Rattle.host.specs.Events.{Event, asked, changes, links, reads}
use Rattle.swt_arguments.specs.Requests.{request_of}
use Rattle.swt_arguments.specs.declared.request.Request.{Request}
use Rattle.swt_status.specs.declared.failure.CommandFailure.TheVariants.{Memory}
use Rattle.swt_command.specs.Sinks.{Held, Given, Kept}
use Rattle.swt_command.specs.Troubles.{trouble_line}
use Rattle.swt_process.specs.Ends.{Ends}
use Rattle.swt_process.specs.Warned.{Concludes, denies_for}

-- the request of the words, once all have been read
abbrev pub requested : List Event → Option Request
requested h = option_and_then request_of (asked h)

-- the words are no request, with status 2; or an allocation for them failed, which is reported, with status 6
abbrev pub Declines : List Event → (err err_new : Held) → (status : ℕ) → Type 0
Declines h err err_new status = ((status ≡ 2) × (requested h ≡ None)) ⊎ ((status ≡ 6) × Given err (trouble_line Memory []) err_new)

-- nothing was done: no file was opened or resolved, nothing was created or changed, and nothing was printed
pub record Declined (h : List Event) (out out_new err err_new : Held) (status : ℕ) : Type 0 where
  pub unread : reads h ≡ []
  pub unfollowed : links h ≡ []
  pub unchanged : changes h ≡ []
  pub unprinted : Kept out out_new
  pub declines : Declines h err err_new status

-- the line of the request ended by its contract with this number, and then the process with this status, where warnings
-- may be denied
pub record Obeys (request : Request) (h : List Event) (out out_new err err_new : Held) (status : ℕ) : Type 0 where
  pub number : ℕ
  pub mid : Held
  pub ends : Ends request.line h out out_new err mid number
  pub concludes : Concludes (denies_for request.line request.deny) (reads h) number mid err_new status

-- the request of the words was executed
pub record Obeyed (h : List Event) (out out_new err err_new : Held) (status : ℕ) : Type 0 where
  pub request : Request
  pub requested_is : requested h ≡ Some request
  pub obeys : Obeys request h out out_new err err_new status

-- a process with this history of its machine, the contents of standard output and standard error before and after, and
-- its status
abbrev pub IsProcess : List Event → (out out_new err err_new : Held) → (status : ℕ) → Type 0
IsProcess h out out_new err err_new status = Obeyed h out out_new err err_new status ⊎ Declined h out out_new err err_new status
