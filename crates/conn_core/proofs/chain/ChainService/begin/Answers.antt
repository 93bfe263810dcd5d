use Rattle.std.proofs.Common.{◌≡◌, ◌+◌, ◌∙◌, ap, sym, subst, true, [], map, if◌then◌else◌, arith}
use Rattle.filter_chain.specs.Outcomes.{turns}
use Rattle.filter_chain.specs.RunStates.{IsState}
use Rattle.conn_rules.specs.Meaning.{Done}
use Rattle.conn_core.specs.Requests.{request_of, is_told_versions, versions_told}
use Rattle.conn_core.specs.Chained.{outcome_status, chain_outcome, chain_work}
use Rattle.conn_core.specs.Kinds.{Opens}
use Rattle.conn_core.proofs.Silence.{told_is_loud, told_is_request}
use Rattle.conn_core.proofs.Progress.{told_so, work_is}
use Rattle.conn_core.proofs.chain.ChainService.begin.Goals as goal

pub returns-in_ok-progress-in-Request-clause-right : goal.returns-in_ok-progress-in-Request-clause-right
returns-in_ok-progress-in-Request-clause-right g c =
    let filters = c.args.self.now.filters.items in
    let opens = subst (Opens c.args.frame.now) c.in-Request.is c.in_ok-envelope-in-Headed.ensures in
    let is = opens.2 in
    let began = subst (λ r. IsState g.F.Filter.turn g.F.Filter.stands filters r [] c.in_ok-state-in-Request.state) opens.3 (subst (λ fs. IsState g.F.Filter.turn g.F.Filter.stands fs c.in-Request.request [] c.in_ok-state-in-Request.state) c.as_slice-in-Request.ensures.value c.in_ok-state-in-Request.ensures.state) in (
      opens.1,
      sym is.silent,
      told_so g.F.Filter.turn g.F.Filter.stands filters c.args.frame.now [] opens.0 c.in-Request.envelope c.in_ok-state-in-Request.state c.in_ok-progress-in-Request.progress is began (c.in_ok-progress-in-Request.ensures.told c.args.frame.now is),
    )

pub returns-in_ok-tell_versions-in-ToldVersions-clause-right : goal.returns-in_ok-tell_versions-in-ToldVersions-clause-right
returns-in_ok-tell_versions-in-ToldVersions-clause-right g c =
    let told : is_told_versions c.args.frame.now ≡ _ = ap is_told_versions (sym c.as_slice.ensures) ∙ c.in-ToldVersions.ensures.0 in
    let loud = told_is_loud c.args.frame.now told in (
      told_is_request c.args.frame.now told,
      loud,
      (
        loud,
        ap (λ b. if b then Done (versions_told c.args.frame.now) else outcome_status c.args.frame.now (chain_outcome (map g.F.Filter.turn c.args.self.now.filters.items) c.args.frame.now [])) told
            ∙ ap Done (sym (c.in_ok-tell_versions-in-ToldVersions.ensures ∙ ap versions_told c.as_slice-in-ToldVersions.ensures)),
      ),
    )

pub returns-in_ok-progress-in-Request-clause-counted : goal.returns-in_ok-progress-in-Request-clause-counted
returns-in_ok-progress-in-Request-clause-counted g c =
    let turn = g.F.Filter.turn in
    let filters = c.args.self.now.filters.items in
    let opens = subst (Opens c.args.frame.now) c.in-Request.is c.in_ok-envelope-in-Headed.ensures in
    subst (λ fs. c.start.new.steps ≡ c.args.steps.now + turns (map turn fs) c.in-Request.request []) c.as_slice-in-Request.ensures.value c.in_ok-state-in-Request.ensures.counted
    ∙ (ap (λ r. c.args.steps.now + turns (map turn filters) r []) opens.3 ∙ ap (λ k. c.args.steps.now + k) (sym (work_is turn g.F.Filter.stands filters c.args.frame.now [] opens.0)))

pub returns-in_ok-tell_versions-in-ToldVersions-clause-counted : goal.returns-in_ok-tell_versions-in-ToldVersions-clause-counted
returns-in_ok-tell_versions-in-ToldVersions-clause-counted g c =
    let turn = g.F.Filter.turn in
    let told : is_told_versions c.args.frame.now ≡ true = ap is_told_versions (sym c.as_slice.ensures) ∙ c.in-ToldVersions.ensures.0 in
    let none : chain_work (map turn c.args.self.now.filters.items) c.args.frame.now [] ≡ 0 = ap (λ b. if b then 0 else turns (map turn c.args.self.now.filters.items) (request_of c.args.frame.now) []) told in
    omega (arith, none)
