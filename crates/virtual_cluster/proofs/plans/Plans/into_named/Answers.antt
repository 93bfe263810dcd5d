use Rattle.std.proofs.Common.{◌≡◌, ◌∙◌, sym, subst, Some}
use Rattle.std.specs.Prelude.{slice_get}
use Rattle.std.specs.List.{position_from}
use Rattle.std.specs.Str.{bytes_eq}
use Rattle.virtual_cluster.proofs.Faultless.{All-valid}
use Rattle.virtual_cluster.proofs.Named.{found_at, found_nowhere, valid_there}
use Rattle.virtual_cluster.proofs.plans.Plans.into_named.Goals as goal

pub taken-requires : goal.taken-requires
taken-requires c =
    let is = subst (λ plans. c.number_of.result ≡ position_from (λ plan. bytes_eq plan.name c.args.name.now) 0 plans) c.as_slice.ensures c.number_of.ensures in
    rw c.into_vec.ensures (found_at (λ plan. bytes_eq plan.name c.args.name.now) c.self.inside.list c.in-Some.number (sym is ∙ c.in-Some.is)).0

pub returns-in-Some-clause-named : goal.returns-in-Some-clause-named
returns-in-Some-clause-named c =
    let is = subst (λ plans. c.number_of.result ≡ position_from (λ plan. bytes_eq plan.name c.args.name.now) 0 plans) c.as_slice.ensures c.number_of.ensures in
    let found = (found_at (λ plan. bytes_eq plan.name c.args.name.now) c.self.inside.list c.in-Some.number (sym is ∙ c.in-Some.is)).1 in
    rw (← c.self.view_is) (sym (found ∙ subst (λ plans. slice_get plans c.in-Some.number ≡ Some c.taken.result) c.into_vec.ensures c.taken.ensures))

pub returns-in-Some-clause-valid : goal.returns-in-Some-clause-valid
returns-in-Some-clause-valid c =
    valid_there c.into_vec.result.items c.in-Some.number c.taken.result (rw c.into_vec.ensures (All-valid c.self.inside.list c.self.invariant.faultless)) c.taken.ensures

pub returns-in-None-clause-named : goal.returns-in-None-clause-named
returns-in-None-clause-named c =
    let is = subst (λ plans. c.number_of.result ≡ position_from (λ plan. bytes_eq plan.name c.args.name.now) 0 plans) c.as_slice.ensures c.number_of.ensures in
    sym (rw (← c.self.view_is) (found_nowhere (λ plan. bytes_eq plan.name c.args.name.now) c.self.inside.list (sym is ∙ c.in-None.is)))
