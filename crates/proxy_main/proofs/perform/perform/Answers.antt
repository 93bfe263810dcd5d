use Rattle.std.proofs.Common.{◌++◌, sym, ◌∙◌, ap, subst, Some, Ok}
use Rattle.conn_rules.specs.declared.event.Event.TheVariants as event
use Rattle.conn_rules.specs.declared.event.Reply.TheVariants as reply
use Rattle.session.proofs.Counting.{counted_then, counted_idle, end_idle}
use Rattle.session.specs.Counting.{BringsCounted}
use Rattle.transcript.specs.declared.line.Line.TheVariants as line
use Rattle.conn_rules.specs.declared.event.Fault.TheVariants as fault
use Rattle.proxy_main.specs.Played.{IsPlayed, IsEventLine, at_state}
use Rattle.proxy_main.proofs.Stepping.{verdict_answer, verdict_line, emit_line, idle_line}
use Rattle.proxy_main.proofs.perform.perform.Goals as goal

pub returns-in_ok-retake-in-Emit : goal.returns-in_ok-retake-in-Emit
returns-in_ok-retake-in-Emit g c =
    let first = c.emit-answer.ensures.emit in
    let rest = c.in_ok-retake-in-Emit.ensures.push in
    let old = c.args.station.now in
    let new = c.retake.new.self in (
      first.0 ++ rest.0,
      counted_then g.C.Connection.meaning g.C.Connection.stands old.connection c.emit-answer.new.station.connection new.connection first.0 rest.0 c.args.steps.now c.args.steps.now c.retake.new.steps
          (first.1 c.args.steps.now) rest.1,
      λ s t. subst (λ l. IsPlayed (at_state old s) l c.emit-answer.result (first.0 ++ rest.0) (at_state new t)) (sym c.in-Emit.is)
          (emit_line c.emit-answer.result old.client c.emit-answer.new.station.client new.client first.0 rest.0 c.in_ok-retake-in-Emit.field-0 first.2 c.emit-answer.ensures.client rest.2, c.in_ok-retake-in-Emit.ensures.broker ∙ c.emit-answer.ensures.broker),
    )

pub returns-in_ok-done-in-Done : goal.returns-in_ok-done-in-Done
returns-in_ok-done-in-Done g c =
    let done = c.in_ok-done-in-Done.ensures.done in
    let old = c.args.station.now in
    let new = c.done.new.self in
    let answered = verdict_answer done.0 c.in_ok-done-in-Done.field-0 done.3 ∙ ap Some (sym c.answer_to-in-Done.ensures) in
    let e = verdict_line g.C.Connection.meaning g.C.Connection.stands old.connection new.connection (event.Complete c.in-Done.request c.in-Done.index c.in-Done.verdict) (reply.Complete done.0) c.answer_to-in-Done.result c.args.steps.now c.done.new.steps done.1 done.2 answered in (
      e.0,
      e.1,
      λ s t. subst (λ l. IsPlayed (at_state old s) l c.answer_to-in-Done.result e.0 (at_state new t)) (sym c.in-Done.is) (e.2, (c.in_ok-done-in-Done.ensures.client, c.in_ok-done-in-Done.ensures.broker)),
    )

pub returns-in_ok-client_end-in-ClientEnd : goal.returns-in_ok-client_end-in-ClientEnd
returns-in_ok-client_end-in-ClientEnd g c =
    let e = c.in_ok-client_end-in-ClientEnd.ensures.end in
    let old = c.args.station.now in
    let new = c.client_end.new.self in (
      e.0,
      subst (λ n. BringsCounted g.C.Connection.meaning g.C.Connection.stands old.connection e.0 new.connection c.args.steps.now n) (sym c.in_ok-client_end-in-ClientEnd.ensures.uncounted)
          (counted_idle g.C.Connection.meaning g.C.Connection.stands old.connection new.connection e.0 c.args.steps.now e.1 (end_idle old.client new.client e.0 (Ok c.in_ok-client_end-in-ClientEnd.field-0) e.2).0),
      λ s t. subst (λ l. IsPlayed (at_state old s) l c.answer_to-in-ClientEnd.result e.0 (at_state new t)) (sym c.in-ClientEnd.is)
          (record { told = c.in_ok-client_end-in-ClientEnd.field-0; is_end = e.2; answered = c.answer_to-in-ClientEnd.ensures }, c.in_ok-client_end-in-ClientEnd.ensures.broker),
    )

pub returns-in_ok-broker_end-in-BrokerEnd : goal.returns-in_ok-broker_end-in-BrokerEnd
returns-in_ok-broker_end-in-BrokerEnd g c =
    let e = c.in_ok-broker_end-in-BrokerEnd.ensures.end in
    let old = c.args.station.now in
    let new = c.broker_end.new.self in (
      e.0,
      subst (λ n. BringsCounted g.C.Connection.meaning g.C.Connection.stands old.connection e.0 new.connection c.args.steps.now n) (sym c.in_ok-broker_end-in-BrokerEnd.ensures.uncounted)
          (counted_idle g.C.Connection.meaning g.C.Connection.stands old.connection new.connection e.0 c.args.steps.now e.1 (end_idle old.broker new.broker e.0 (Ok c.in_ok-broker_end-in-BrokerEnd.field-0) e.2).0),
      λ s t. subst (λ l. IsPlayed (at_state old s) l c.answer_to-in-BrokerEnd.result e.0 (at_state new t)) (sym c.in-BrokerEnd.is)
          (record { told = c.in_ok-broker_end-in-BrokerEnd.field-0; is_end = e.2; answered = c.answer_to-in-BrokerEnd.ensures }, c.in_ok-broker_end-in-BrokerEnd.ensures.client),
    )

pub returns-in-Send : goal.returns-in-Send
returns-in-Send g c =
    idle_line g.C.Connection.meaning g.C.Connection.stands c.args.station.now c.send.new.station c.args.line line.Send c.send.result c.args.steps.now (IsEventLine event.Send c.send.result) c.in-Send.is
    c.send.ensures.send (λ s t h. (h, (c.send.ensures.client, c.send.ensures.broker)))

pub returns-in-Pick : goal.returns-in-Pick
returns-in-Pick g c =
    idle_line g.C.Connection.meaning g.C.Connection.stands c.args.station.now c.pick.new.station c.args.line line.Pick c.pick.result c.args.steps.now (IsEventLine event.Pick c.pick.result) c.in-Pick.is
    c.pick.ensures.pick (λ s t h. (h, (c.pick.ensures.client, c.pick.ensures.broker)))

pub returns-in-FaultClientRead : goal.returns-in-FaultClientRead
returns-in-FaultClientRead g c =
    idle_line g.C.Connection.meaning g.C.Connection.stands c.args.station.now c.fault.new.station c.args.line line.FaultClientRead c.fault.result c.args.steps.now (IsEventLine (event.Fault fault.ClientRead) c.fault.result) c.in-FaultClientRead.is
    c.fault.ensures.fault (λ s t h. (h, (c.fault.ensures.client, c.fault.ensures.broker)))

pub returns-in-FaultClientWrite : goal.returns-in-FaultClientWrite
returns-in-FaultClientWrite g c =
    idle_line g.C.Connection.meaning g.C.Connection.stands c.args.station.now c.fault-in-FaultClientWrite.new.station c.args.line line.FaultClientWrite c.fault-in-FaultClientWrite.result c.args.steps.now (IsEventLine (event.Fault fault.ClientWrite) c.fault-in-FaultClientWrite.result) c.in-FaultClientWrite.is
    c.fault-in-FaultClientWrite.ensures.fault (λ s t h. (h, (c.fault-in-FaultClientWrite.ensures.client, c.fault-in-FaultClientWrite.ensures.broker)))

pub returns-in-FaultBrokerRead : goal.returns-in-FaultBrokerRead
returns-in-FaultBrokerRead g c =
    idle_line g.C.Connection.meaning g.C.Connection.stands c.args.station.now c.fault-in-FaultBrokerRead.new.station c.args.line line.FaultBrokerRead c.fault-in-FaultBrokerRead.result c.args.steps.now (IsEventLine (event.Fault fault.BrokerRead) c.fault-in-FaultBrokerRead.result) c.in-FaultBrokerRead.is
    c.fault-in-FaultBrokerRead.ensures.fault (λ s t h. (h, (c.fault-in-FaultBrokerRead.ensures.client, c.fault-in-FaultBrokerRead.ensures.broker)))

pub returns-in-FaultBrokerWrite : goal.returns-in-FaultBrokerWrite
returns-in-FaultBrokerWrite g c =
    idle_line g.C.Connection.meaning g.C.Connection.stands c.args.station.now c.fault-in-FaultBrokerWrite.new.station c.args.line line.FaultBrokerWrite c.fault-in-FaultBrokerWrite.result c.args.steps.now (IsEventLine (event.Fault fault.BrokerWrite) c.fault-in-FaultBrokerWrite.result) c.in-FaultBrokerWrite.is
    c.fault-in-FaultBrokerWrite.ensures.fault (λ s t h. (h, (c.fault-in-FaultBrokerWrite.ensures.client, c.fault-in-FaultBrokerWrite.ensures.broker)))

pub returns-in-FaultAuthority : goal.returns-in-FaultAuthority
returns-in-FaultAuthority g c =
    idle_line g.C.Connection.meaning g.C.Connection.stands c.args.station.now c.fault-in-FaultAuthority.new.station c.args.line (line.FaultAuthority c.in-FaultAuthority.request) c.fault-in-FaultAuthority.result c.args.steps.now (IsEventLine (event.Fault (fault.Authority c.in-FaultAuthority.request)) c.fault-in-FaultAuthority.result) c.in-FaultAuthority.is
    c.fault-in-FaultAuthority.ensures.fault (λ s t h. (h, (c.fault-in-FaultAuthority.ensures.client, c.fault-in-FaultAuthority.ensures.broker)))
