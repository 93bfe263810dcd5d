use Rattle.conn_rules.specs.Room.{limited}
use Rattle.serving.specs.Listing.{FlightSettlesFrom}
use Rattle.std.proofs.Common.{subst, length, ◌≡◌, ◌∙◌, ap, refl, Some, None, arith, ℕ, ◌+◌, ◌++◌, ◌∷◌, []}
use Rattle.serving.specs.Slots.{fresh_slot}
use Rattle.serving.proofs.connection.Serving.accept.Goals as goal

pub returns-in-NoRequest-clause-takes : goal.returns-in-NoRequest-clause-takes
returns-in-NoRequest-clause-takes g c =
    let none : c.begin.new.steps ≡ c.args.steps.now = omega (arith, rw c.in-NoRequest.is at c.in_ok-cause.ensures.counted) in
    (Some c.in-NoRequest.cause, (rw c.in-NoRequest.is at c.in_ok-cause.ensures.right, rw (c.cut_at.ensures, c.at.ensures) refl, none))

pub returns-clause-takes : goal.returns-clause-takes
returns-clause-takes g c =
    let begun = rw c.in-Request.is at c.in_ok-cause.ensures.right in
    let M = g.S.Service.meaning c.args.self.now.service in
    let counted : c.begin.new.steps ≡ c.args.steps.now + M.work c.args.frame.now [] = rw c.in-Request.is at c.in_ok-cause.ensures.counted in
    let f = c.args.self.now.flight in (
      None,
      (
        record f { slots = c.push_back.new.self },
        record {
          silent = c.in-Request.silent;
          progress = c.in-Request.progress;
          no_cause = begun.0;
          silent_is = begun.1;
          right = begun.2;
          rest = record { limit_is = refl; count = refl; held = refl; requests = refl; causes = refl; free = refl; sends = refl };
          slots = c.in_ok-push_back.ensures.items ∙ ap (λ x. f.slots.items ++ x ∷ []) (c.begun.ensures ∙ ap (λ n. fresh_slot n c.in-Request.silent c.in-Request.progress) c.len-size.ensures.value);
        },
        record {
          small = c.in-Some-Some-Some.ensures.0;
          settled = c.settle.new.flight;
          settles = subst (λ n. (limit : ℕ) → FlightSettlesFrom (limited limit M) (g.S.Service.stands c.args.self.now.service) (length f.slots.items) f.free (record f { slots = c.push_back.new.self }) c.settle.new.flight n c.settle.new.steps) counted (subst (λ n. (limit : ℕ) → FlightSettlesFrom (limited limit M) (g.S.Service.stands c.args.self.now.service) n f.free (record f { slots = c.push_back.new.self }) c.settle.new.flight c.begin.new.steps c.settle.new.steps) (let e : c.len-last.result ≡ length f.slots.items = omega (arith, c.len-last.ensures) in e) c.in_ok-settle.ensures.settles);
          outside = c.in_ok-settle.ensures.outside;
          new_is = rw (c.in-Some-Some-Some.ensures.1, c.in-Some-Some-Some.ensures'.1, c.in-Some-Some-Some.ensures''.1, c.len-size.ensures.value) refl;
        },
      ),
    )
