use Rattle.std.proofs.Common.{◌∙◌, sym, refl}
use Rattle.conn_rules.specs.Room.{limited}
use Rattle.correlation.specs.WindowOf.{window_of}
use Rattle.serving.proofs.Settle.{settles_none, settles_past, settles_failing}
use Rattle.serving.proofs.listing.settle_at.Goals as goal

pub returns-then-not-is_below_cut-clause-settles : goal.returns-then-not-is_below_cut-clause-settles
returns-then-not-is_below_cut-clause-settles g c = λ limit.
    settles_none (limited limit (g.S.Service.meaning c.args.service.now)) (g.S.Service.stands c.args.service.now) c.args.request c.args.free c.args.causes.now c.args.slot.now c.args.slot.now (window_of c.args.sends.now) (window_of c.args.sends.now) c.args.steps.now c.args.steps.now (sym c.is_below_cut.ensures ∙ c.if-not-is_below_cut.true)

pub returns-in-Failed-clause-settles : goal.returns-in-Failed-clause-settles
returns-in-Failed-clause-settles g c = λ limit.
    rw (c.cut_at.ensures, c.at.ensures) (settles_failing (limited limit (g.S.Service.meaning c.args.service.now)) (g.S.Service.stands c.args.service.now) c.args.request c.args.free c.args.causes.now c.args.slot.now c.list_all.new.slot (window_of c.args.sends.now) (window_of c.list_all.new.sends) c.args.steps.now c.list_all.new.steps (sym c.is_below_cut.ensures ∙ c.if-not-is_below_cut.false) (c.in_ok-list_all.ensures.advances limit) c.in-Failed.cause c.in-Failed.is)

pub returns-then-free : goal.returns-then-free
returns-then-free g c =
    record {
      settles = λ limit. settles_past (limited limit (g.S.Service.meaning c.args.service.now)) (g.S.Service.stands c.args.service.now) c.args.request c.args.free c.args.causes.now c.args.slot.now c.list_all.new.slot (window_of c.args.sends.now) (window_of c.list_all.new.sends) c.args.steps.now c.list_all.new.steps (sym c.is_below_cut.ensures ∙ c.if-not-is_below_cut.false) (c.in_ok-list_all.ensures.advances limit) c.holds_none_back.result (rw c.if-free.true c.holds_none_back.ensures) (c.in_ok-list_all.ensures.done, c.in_default.not-Failed);
      halt = refl;
      over = refl;
    }

pub returns-else-free : goal.returns-else-free
returns-else-free g c =
    record {
      settles = λ limit. settles_past (limited limit (g.S.Service.meaning c.args.service.now)) (g.S.Service.stands c.args.service.now) c.args.request c.args.free c.args.causes.now c.args.slot.now c.list_all.new.slot (window_of c.args.sends.now) (window_of c.list_all.new.sends) c.args.steps.now c.list_all.new.steps (sym c.is_below_cut.ensures ∙ c.if-not-is_below_cut.false) (c.in_ok-list_all.ensures.advances limit) c.args.free (rw c.if-free.false refl) (c.in_ok-list_all.ensures.done, c.in_default.not-Failed);
      halt = refl;
      over = refl;
    }
