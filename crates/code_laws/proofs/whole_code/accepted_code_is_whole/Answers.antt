use Rattle.code_laws.proofs.AcceptedWhole.{accepted_whole}
use Rattle.code_laws.proofs.whole_code.accepted_code_is_whole.Goals as goal

pub returns : goal.returns
returns g = λ t tree fs ds C l place typed single kinds declared laid rights found nodes. accepted_whole t tree fs ds C l place typed single kinds declared laid rights found nodes
