use Rattle.std.proofs.Common.{[], string_bytes}
use Rattle.host.specs.Events.{learnt}
use Rattle.swt_process.proofs.program.run_on_files.Given as goal

abbrev pub ghosts-with_trace : goal.ghosts-with_trace
ghosts-with_trace g a = record { learnt = learnt (g.H.Host.history a.host); changed = []; place = string_bytes a.place }
