use Rattle.std.proofs.Common.{rules, sym, ◌∙◌, subst, IfSome, Option}
use Rattle.task_code.specs.Code.{Control, Leaf}
use Rattle.work_queue.specs.Entries.{IsForemost}
use Rattle.work_queue.specs.declared.entry.QueueEntry.{QueueEntry}
use Rattle.board.specs.Board.{IsGoing, Seen}
use Rattle.board.proofs.FirstOfAll.{control_is_alone, control_is_first, leaf_is_alone, kind_of_foremost, leaf_is_first, nothing_ready}
use Rattle.board.proofs.board.Board.first.Goals as goal

pub returns-then-precedes-clause-some : goal.returns-then-precedes-clause-some
returns-then-precedes-clause-some c =
    let going : IsGoing c.args.self.now = search rules in
    let here = subst (λ (b : Seen). IsGoing b) (sym c.self.view_is) going in
    let control = subst (λ (o : Option QueueEntry). IfSome o (λ e. IsForemost e c.self.inside.core.items.queue.control.entries)) c.in-Some-Some.is-0 c.first_entry-control.ensures.foremost in
    let leaf = subst (λ (o : Option QueueEntry). IfSome o (λ e. IsForemost e c.self.inside.core.items.queue.leaf.entries)) c.in-Some-Some.is-1 c.first_entry-leaf.ensures.foremost in
    rw (← c.self.view_is) (leaf_is_first c.self.inside c.self.invariant here c.in-Some-Some.control c.in-Some-Some.leaf control leaf (search rules))

pub returns-else-precedes-clause-some : goal.returns-else-precedes-clause-some
returns-else-precedes-clause-some c =
    let going : IsGoing c.args.self.now = search rules in
    let here = subst (λ (b : Seen). IsGoing b) (sym c.self.view_is) going in
    let control = subst (λ (o : Option QueueEntry). IfSome o (λ e. IsForemost e c.self.inside.core.items.queue.control.entries)) c.in-Some-Some.is-0 c.first_entry-control.ensures.foremost in
    let leaf = subst (λ (o : Option QueueEntry). IfSome o (λ e. IsForemost e c.self.inside.core.items.queue.leaf.entries)) c.in-Some-Some.is-1 c.first_entry-leaf.ensures.foremost in
    rw (← c.self.view_is) (control_is_first c.self.inside c.self.invariant here c.in-Some-Some.control c.in-Some-Some.leaf control leaf (search rules))

pub returns-in-Some-None-clause-some : goal.returns-in-Some-None-clause-some
returns-in-Some-None-clause-some c =
    let going : IsGoing c.args.self.now = search rules in
    let here = subst (λ (b : Seen). IsGoing b) (sym c.self.view_is) going in
    let control = subst (λ (o : Option QueueEntry). IfSome o (λ e. IsForemost e c.self.inside.core.items.queue.control.entries)) c.in-Some-None.is-0 c.first_entry-control.ensures.foremost in
    rw (← c.self.view_is) (control_is_alone c.self.inside c.self.invariant here c.in-Some-None.control control (sym c.first_entry-leaf.ensures.first ∙ c.in-Some-None.is-1))

pub returns-in-None-Some-clause-some : goal.returns-in-None-Some-clause-some
returns-in-None-Some-clause-some c =
    let going : IsGoing c.args.self.now = search rules in
    let here = subst (λ (b : Seen). IsGoing b) (sym c.self.view_is) going in
    let leaf = subst (λ (o : Option QueueEntry). IfSome o (λ e. IsForemost e c.self.inside.core.items.queue.leaf.entries)) c.in-None-Some.is-1 c.first_entry-leaf.ensures.foremost in
    rw (← c.self.view_is) (leaf_is_alone c.self.inside c.self.invariant here c.in-None-Some.leaf leaf (sym c.first_entry-control.ensures.first ∙ c.in-None-Some.is-0))

pub returns-in-None-None-clause-none : goal.returns-in-None-None-clause-none
returns-in-None-None-clause-none c =
    rw (← c.self.view_is) (λ going. nothing_ready c.self.inside c.self.invariant (sym c.first_entry-control.ensures.first ∙ c.in-None-None.is-0) (sym c.first_entry-leaf.ensures.first ∙ c.in-None-None.is-1))

pub returns-then-precedes-clause-kind : goal.returns-then-precedes-clause-kind
returns-then-precedes-clause-kind c =
    let going : IsGoing c.args.self.now = search rules in
    let here = subst (λ (b : Seen). IsGoing b) (sym c.self.view_is) going in
    let leaf = subst (λ (o : Option QueueEntry). IfSome o (λ e. IsForemost e c.self.inside.core.items.queue.leaf.entries)) c.in-Some-Some.is-1 c.first_entry-leaf.ensures.foremost in
    rw (← c.self.view_is) (kind_of_foremost c.self.inside c.self.invariant here Leaf c.in-Some-Some.leaf leaf)

pub returns-else-precedes-clause-kind : goal.returns-else-precedes-clause-kind
returns-else-precedes-clause-kind c =
    let going : IsGoing c.args.self.now = search rules in
    let here = subst (λ (b : Seen). IsGoing b) (sym c.self.view_is) going in
    let control = subst (λ (o : Option QueueEntry). IfSome o (λ e. IsForemost e c.self.inside.core.items.queue.control.entries)) c.in-Some-Some.is-0 c.first_entry-control.ensures.foremost in
    rw (← c.self.view_is) (kind_of_foremost c.self.inside c.self.invariant here Control c.in-Some-Some.control control)

pub returns-in-Some-None-clause-kind : goal.returns-in-Some-None-clause-kind
returns-in-Some-None-clause-kind c =
    let going : IsGoing c.args.self.now = search rules in
    let here = subst (λ (b : Seen). IsGoing b) (sym c.self.view_is) going in
    let control = subst (λ (o : Option QueueEntry). IfSome o (λ e. IsForemost e c.self.inside.core.items.queue.control.entries)) c.in-Some-None.is-0 c.first_entry-control.ensures.foremost in
    rw (← c.self.view_is) (kind_of_foremost c.self.inside c.self.invariant here Control c.in-Some-None.control control)

pub returns-in-None-Some-clause-kind : goal.returns-in-None-Some-clause-kind
returns-in-None-Some-clause-kind c =
    let going : IsGoing c.args.self.now = search rules in
    let here = subst (λ (b : Seen). IsGoing b) (sym c.self.view_is) going in
    let leaf = subst (λ (o : Option QueueEntry). IfSome o (λ e. IsForemost e c.self.inside.core.items.queue.leaf.entries)) c.in-None-Some.is-1 c.first_entry-leaf.ensures.foremost in
    rw (← c.self.view_is) (kind_of_foremost c.self.inside c.self.invariant here Leaf c.in-None-Some.leaf leaf)
