-- Expressions, acts, entries, drafts and code may go to another thread, and be looked at there. What a tree of expressions is part of is
-- shown here, since a search from nothing at a call finds no type that holds so many others.
use denote.Param.Send.{IsSend, IsSync, sendable}
use Rattle.std.proofs.Crossing.{crosses, Vec-send, Vec-sync}
use Rattle.values.proofs.value.Scalar.TheSendSync as scalar
use Rattle.task_code.proofs.expr.Expr.TheLaws.TheKnot.{send-Expr, sync-Expr}
use Rattle.task_code.proofs.expr.Operator.TheSendSync as operator
use Rattle.task_code.proofs.entry.Name.TheSendSync as name
use Rattle.task_code.proofs.entry.Argument.TheSendSync as argument
use Rattle.task_code.proofs.entry.Header.TheSendSync as header
use Rattle.task_code.proofs.entry.Need.TheSendSync as need
use Rattle.task_code.specs.contracts.expr.Expr as expr
use Rattle.task_code.specs.contracts.entry.Act as act
use Rattle.task_code.specs.contracts.entry.Entry as entry
use Rattle.task_code.proofs.code.Body.TheSendSync as body
use Rattle.task_code.specs.contracts.draft.Draft as draft
use Rattle.task_code.specs.contracts.code.Code as code

pub expr_send : IsSend (expr.the_field).row
expr_send = send-Expr scalar.the_field_send (search sendable) operator.the_field_send Vec-send

pub expr_sync : IsSync (expr.the_field).row
expr_sync = sync-Expr scalar.the_field_sync (search sendable) operator.the_field_sync Vec-sync

pub act_send : IsSend (act.the_field).row
act_send = search (expr_send, name.the_send, argument.the_send, header.the_send, crosses, sendable) depth 60 fits 4000

pub act_sync : IsSync (act.the_field).row
act_sync = search (expr_sync, name.the_sync, argument.the_sync, header.the_sync, crosses, sendable) depth 60 fits 4000

pub entry_send : IsSend (entry.the_field).row
entry_send = search (act_send, name.the_send, need.the_send, crosses, sendable) depth 60 fits 4000

pub entry_sync : IsSync (entry.the_field).row
entry_sync = search (act_sync, name.the_sync, need.the_sync, crosses, sendable) depth 60 fits 4000

pub draft_send : IsSend (draft.the_field).row
draft_send = search (entry_send, entry_sync, body.the_send, body.the_sync, crosses, sendable) depth 60 fits 4000

pub draft_sync : IsSync (draft.the_field).row
draft_sync = search (entry_send, entry_sync, body.the_send, body.the_sync, crosses, sendable) depth 60 fits 4000

pub code_send : IsSend (code.the_field).row
code_send = search (draft_send, crosses, sendable) depth 60 fits 4000

pub code_sync : IsSync (code.the_field).row
code_sync = search (draft_sync, crosses, sendable) depth 60 fits 4000
