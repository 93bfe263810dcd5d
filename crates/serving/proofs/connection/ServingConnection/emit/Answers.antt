use Rattle.std.proofs.Common.{◌∙◌, ap, sym}
use Rattle.conn_rules.specs.declared.event.Event.TheVariants as event
use Rattle.conn_rules.specs.declared.event.Reply.TheVariants as reply
use Rattle.conn_rules.specs.declared.event.Emit.TheVariants as emit
use Rattle.conn_rules.specs.Causes.{cut_cause}
use Rattle.conn_rules.specs.Room.{limited}
use Rattle.serving.proofs.Follows.{follows_by}
use Rattle.serving.proofs.Passing.{emit_halt, emit_cut, emit_response, emit_death, emit_later}
use Rattle.serving.proofs.connection.ServingConnection.emit.Goals as goal

pub returns-in-Some-halt-clause-follows : goal.returns-in-Some-halt-clause-follows
returns-in-Some-halt-clause-follows g c =
    let v = c.args.self.now.service in
    let f = c.args.self.now.flight in
    let M = limited f.limit (g.S.Service.meaning v) in
    let runs = g.S.Service.stands v in
    rw c.tell.ensures.over (follows_by g.S.Service.meaning g.S.Service.stands v f event.Emit (reply.Emit (emit.Over c.in-Some-halt.why)) c.tell.new.self.service c.tell.new.self.flight c.tell.ensures.service (ap (λ x. x.limit) c.tell.ensures.told) (λ s h. rw c.tell.ensures.told (emit_halt M runs f s h c.in_default.is c.in-Some-halt.why c.in-Some-halt.is)))

pub returns-in-Some-cut_cause-clause-follows : goal.returns-in-Some-cut_cause-clause-follows
returns-in-Some-cut_cause-clause-follows g c =
    let v = c.args.self.now.service in
    let f = c.args.self.now.flight in
    let M = limited f.limit (g.S.Service.meaning v) in
    let runs = g.S.Service.stands v in
    let passed = c.pass_silent.new.self.flight in
    let passes = c.pass_silent.ensures.passes f.limit in
    rw c.tell-in-Some-cut_cause.ensures.over (follows_by g.S.Service.meaning g.S.Service.stands v f event.Emit (reply.Emit (emit.Over c.in-Some-cut_cause.why)) c.tell-in-Some-cut_cause.new.self.service c.tell-in-Some-cut_cause.new.self.flight (c.tell-in-Some-cut_cause.ensures.service ∙ c.pass_silent.ensures.service) (ap (λ x. x.limit) c.tell-in-Some-cut_cause.ensures.told ∙ passes.0) (λ s h. rw c.tell-in-Some-cut_cause.ensures.told (emit_cut M runs f s h c.in_default.is c.in_default-halt.is passed (passes.1 s (sym h.halt_is ∙ c.in_default-halt.is) h) c.pass_silent.ensures.stuck c.in-Some-cut_cause.why (ap (λ n. cut_cause passed.causes.cut n) (sym c.first-first.ensures.first) ∙ (sym c.cut_cause.ensures ∙ c.in-Some-cut_cause.is)))))

pub returns-in-Some-pass_ready-clause-follows : goal.returns-in-Some-pass_ready-clause-follows
returns-in-Some-pass_ready-clause-follows g c =
    let v = c.args.self.now.service in
    let f = c.args.self.now.flight in
    let M = limited f.limit (g.S.Service.meaning v) in
    let runs = g.S.Service.stands v in
    let passed = c.pass_silent.new.self.flight in
    let passes = c.pass_silent.ensures.passes f.limit in
    follows_by g.S.Service.meaning g.S.Service.stands v f event.Emit (reply.Emit (emit.Bytes c.in-Some-pass_ready.response.bytes)) c.pass_silent.new.self.service c.pass_ready.new.self c.pass_silent.ensures.service (c.in-Some-pass_ready.ensures.2.limit_is ∙ passes.0) (λ s h. emit_response M runs f s h c.in_default.is c.in_default-halt.is passed (passes.1 s (sym h.halt_is ∙ c.in_default-halt.is) h) c.pass_silent.ensures.stuck (ap (λ n. cut_cause passed.causes.cut n) (sym c.first-first.ensures.first) ∙ (sym c.cut_cause.ensures ∙ c.in_default-cut_cause.is)) c.in-Some-pass_ready.response c.pass_ready.new.self c.in-Some-pass_ready.ensures)

pub returns-in-Some-death-clause-follows : goal.returns-in-Some-death-clause-follows
returns-in-Some-death-clause-follows g c =
    let v = c.args.self.now.service in
    let f = c.args.self.now.flight in
    let M = limited f.limit (g.S.Service.meaning v) in
    let runs = g.S.Service.stands v in
    let passed = c.pass_silent.new.self.flight in
    let passes = c.pass_silent.ensures.passes f.limit in
    rw c.tell-in-Some-death.ensures.over (follows_by g.S.Service.meaning g.S.Service.stands v f event.Emit (reply.Emit (emit.Over c.in-Some-death.why)) c.tell-in-Some-death.new.self.service c.tell-in-Some-death.new.self.flight (c.tell-in-Some-death.ensures.service ∙ c.pass_silent.ensures.service) (ap (λ x. x.limit) c.tell-in-Some-death.ensures.told ∙ (c.in_default-pass_ready.ensures.0.0.limit_is ∙ passes.0)) (λ s h. rw c.tell-in-Some-death.ensures.told (emit_death M runs f s h c.in_default.is c.in_default-halt.is passed (passes.1 s (sym h.halt_is ∙ c.in_default-halt.is) h) c.pass_silent.ensures.stuck (ap (λ n. cut_cause passed.causes.cut n) (sym c.first-first.ensures.first) ∙ (sym c.cut_cause.ensures ∙ c.in_default-cut_cause.is)) c.pass_ready.new.self c.in_default-pass_ready.ensures c.in-Some-death.why c.in-Some-death.is)))

pub returns-in-None-clause-follows : goal.returns-in-None-clause-follows
returns-in-None-clause-follows g c =
    let v = c.args.self.now.service in
    let f = c.args.self.now.flight in
    let M = limited f.limit (g.S.Service.meaning v) in
    let runs = g.S.Service.stands v in
    let passed = c.pass_silent.new.self.flight in
    let passes = c.pass_silent.ensures.passes f.limit in
    follows_by g.S.Service.meaning g.S.Service.stands v f event.Emit (reply.Emit emit.Later) c.pass_silent.new.self.service c.pass_ready.new.self c.pass_silent.ensures.service (c.in_default-pass_ready.ensures.0.0.limit_is ∙ passes.0) (λ s h. emit_later M runs f s h c.in_default.is c.in_default-halt.is passed (passes.1 s (sym h.halt_is ∙ c.in_default-halt.is) h) c.pass_silent.ensures.stuck (ap (λ n. cut_cause passed.causes.cut n) (sym c.first-first.ensures.first) ∙ (sym c.cut_cause.ensures ∙ c.in_default-cut_cause.is)) c.pass_ready.new.self c.in_default-pass_ready.ensures c.in-None.is)
