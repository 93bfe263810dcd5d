use Rattle.std.proofs.Common.{◌≡◌, ◌+◌, List, ◌++◌, ◌∷◌, [], map, Result, Ok, Err, OnOk, subst}
use Rattle.tree_spelling.specs.Body.{Contents}
use Rattle.filter_chain.specs.declared.outside.Outside.{Outside}
use Rattle.filter_chain.specs.Outcomes.{turns}
use Rattle.filter_chain.specs.RunStates.{RunsFor, IsState}
use Rattle.serving.specs.Services.{outside_of}
use Rattle.conn_core.specs.Underway.{answer_bytes}
use Rattle.conn_core.proofs.Progress.{goes_on, on_ok, work_grows}
use Rattle.conn_core.proofs.chain.ChainService.go_on.Goals as goal

pub returns-clause-right : goal.returns-clause-right
returns-clause-right g c =
    let turn = g.F.Filter.turn in
    let stands = g.F.Filter.stands in
    let came = c.in_ok-outside.outside in
    let polled = subst (λ fs. (request : Contents) (given : List Outside) → RunsFor turn stands fs request given c.args.run.run → IsState turn stands fs request (given ++ came ∷ []) c.in_ok-state.state) c.as_slice.ensures.value c.in_ok-state.ensures.state in
    on_ok c.tell.result (λ progress told frame before runs.
    goes_on turn stands c.args.self.now.filters.items frame c.args.run before (outside_of answer_bytes c.args.given) came c.in_ok-state.state progress runs (c.in_ok-outside.ensures runs.question runs.asked) polled (told frame)) c.tell.ensures.told

always : {A E : Type 0} {P : Type 0} → (r : Result A E) → P → OnOk r P
always (Ok x) h = h
always (Err e) h = tt

pub returns-clause-counted : goal.returns-clause-counted
returns-clause-counted g c =
    let turn = g.F.Filter.turn in
    let stands = g.F.Filter.stands in
    let came = c.in_ok-outside.outside in
    let counted = subst (λ fs. (request : Contents) (given : List Outside) → RunsFor turn stands fs request given c.args.run.run → c.poll.new.steps + turns (map turn fs) request given ≡ c.args.steps.now + turns (map turn fs) request (given ++ came ∷ [])) c.as_slice.ensures.value c.in_ok-state.ensures.counted in
    always c.tell.result (λ frame before runs. work_grows turn stands c.args.self.now.filters.items frame c.args.run before (outside_of answer_bytes c.args.given) came c.args.steps.now c.poll.new.steps runs (c.in_ok-outside.ensures runs.question runs.asked) counted)
