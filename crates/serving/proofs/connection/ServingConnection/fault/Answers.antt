use Rattle.std.proofs.Common.{◌≡◌, ◌∙◌, ap, refl, Bool, true, false, is_some, if◌then◌else◌}
use Rattle.kp_edge.specs.declared.end.End.TheVariants as end
use Rattle.conn_rules.specs.declared.event.Event.TheVariants as event
use Rattle.conn_rules.specs.declared.event.Reply.TheVariants as reply
use Rattle.conn_rules.specs.declared.event.Fault.{Fault}
use Rattle.conn_rules.specs.declared.event.Fault.TheVariants as fault
use Rattle.conn_rules.specs.Room.{limited}
use Rattle.conn_rules.specs.Steps.{faulted}
use Rattle.serving.specs.declared.flight.Flight.{Flight}
use Rattle.serving.specs.Flights.{hold_at}
use Rattle.serving.specs.Stands.{cut_flight, flight_faulted}
use Rattle.serving.proofs.Ends.{noted_now, faults}
use Rattle.serving.proofs.Follows.{follows_by}
use Rattle.serving.proofs.connection.ServingConnection.fault.Goals as goal

limit_by : {R : Type 0} → (b : Bool) (f g : Flight R) → g.limit ≡ f.limit → (if b then g else f).limit ≡ f.limit
limit_by true f g e = e
limit_by false f g e = refl

limit_same : {R : Type 0} → (x : Fault) (f : Flight R) → (flight_faulted x f).limit ≡ f.limit
limit_same fault.ClientRead f = refl
limit_same fault.ClientWrite f = refl
limit_same fault.BrokerRead f = refl
limit_same fault.BrokerWrite f = refl
limit_same (fault.ClientBadSize at size) f = refl
limit_same (fault.BrokerBadSize at size) f = refl
limit_same (fault.Authority k) f = limit_by (is_some (hold_at f k)) f (cut_flight k (end.AuthorityFault k) f) refl
limit_same fault.Thread f = refl
limit_same fault.NoMemory f = refl

pub returns-then-is_none : goal.returns-then-is_none
returns-then-is_none g c =
    let f = c.args.self.now.flight in
    let x = c.args.fault in
    follows_by g.S.Service.meaning g.S.Service.stands c.args.self.now.service f (event.Fault x) reply.Noted c.fail.new.self.service c.fail.new.self.flight c.fail.ensures.service
    (ap (λ n. n.limit) c.fail.ensures.fails ∙ limit_same x f)
    (λ s h.
    let M = limited f.limit (g.S.Service.meaning c.args.self.now.service) in
    let runs = g.S.Service.stands c.args.self.now.service in
    rw c.fail.ensures.fails (noted_now M runs f s h (event.Fault x) (faulted M s x) refl (flight_faulted x f) c.if-is_none.ensures (faults M runs f s h x)))
