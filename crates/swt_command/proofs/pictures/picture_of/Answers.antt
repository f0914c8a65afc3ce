use Rattle.swt_command.proofs.pictures.picture_of.Goals as goal

pub returns-in-Ok : goal.returns-in-Ok
returns-in-Ok c =
    let script = c.in_ok-flow.ensures in
    (script.0, script.1, (script.2.table, script.2.tree, script.2.accepted))
