use Rattle.code_laws.proofs.AcceptedWhole.{accepted_within}
use Rattle.code_laws.proofs.whole_code.accepted_code_is_within.Goals as goal

pub returns : goal.returns
returns g = λ t tree fs ds C l place typed single kinds declared laid rights found. accepted_within t tree fs ds C l place typed single kinds declared laid rights found
