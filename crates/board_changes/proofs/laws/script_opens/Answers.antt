use Rattle.board_changes.proofs.ScriptOpens.{script_opens}
use Rattle.board_changes.proofs.laws.script_opens.Goals as goal

pub returns : goal.returns
returns g = λ C I es F x n row there job live y o hs rows s stored more b w fit gs t closed goes cells stores. script_opens C I es F x n row there job live y o hs rows s stored more b w fit gs t closed goes cells stores
