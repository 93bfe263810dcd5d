use Rattle.any_filter.specs.declared.any_filter.AnyFilter.TheVariants.{Narrow, ProduceAll, TopicDeny, ApiBlock, Addresses}
use Rattle.any_filter.specs.declared.any_pending.AnyPending.TheVariants.{Forwarded, Addressing}
use Rattle.any_filter.proofs.Resumed.{resumed}
use Rattle.any_filter.proofs.any_filter.AnyFilterFilter.resume.Goals as goal

pub returns-in_ok-resume-in-Narrow-Forwarded : goal.returns-in_ok-resume-in-Narrow-Forwarded
returns-in_ok-resume-in-Narrow-Forwarded c =
    let arm = c.in-Narrow-Forwarded in
    let moved = c.in_ok-resume-in-Narrow-Forwarded in
    resumed Forwarded c.args.self.now (Narrow arm.filter) c.args.pending arm.kept c.args.input moved.field-0 c.with_forwarded.result
    arm.is-0 arm.is-1 (record { first = λ kept request inputs h. h; back = λ kept request inputs h. h }) moved.ensures c.with_forwarded.ensures

pub returns-in_ok-resume-in-ProduceAll-Forwarded : goal.returns-in_ok-resume-in-ProduceAll-Forwarded
returns-in_ok-resume-in-ProduceAll-Forwarded c =
    let arm = c.in-ProduceAll-Forwarded in
    let moved = c.in_ok-resume-in-ProduceAll-Forwarded in
    resumed Forwarded c.args.self.now (ProduceAll arm.filter) c.args.pending arm.kept c.args.input moved.field-0 c.with_forwarded-in-ProduceAll-Forwarded.result
    arm.is-0 arm.is-1 (record { first = λ kept request inputs h. h; back = λ kept request inputs h. h }) moved.ensures c.with_forwarded-in-ProduceAll-Forwarded.ensures

pub returns-in_ok-resume-in-TopicDeny-Forwarded : goal.returns-in_ok-resume-in-TopicDeny-Forwarded
returns-in_ok-resume-in-TopicDeny-Forwarded c =
    let arm = c.in-TopicDeny-Forwarded in
    let moved = c.in_ok-resume-in-TopicDeny-Forwarded in
    resumed Forwarded c.args.self.now (TopicDeny arm.filter) c.args.pending arm.kept c.args.input moved.field-0 c.with_forwarded-in-TopicDeny-Forwarded.result
    arm.is-0 arm.is-1 (record { first = λ kept request inputs h. h; back = λ kept request inputs h. h }) moved.ensures c.with_forwarded-in-TopicDeny-Forwarded.ensures

pub returns-in_ok-resume-in-ApiBlock-Forwarded : goal.returns-in_ok-resume-in-ApiBlock-Forwarded
returns-in_ok-resume-in-ApiBlock-Forwarded c =
    let arm = c.in-ApiBlock-Forwarded in
    let moved = c.in_ok-resume-in-ApiBlock-Forwarded in
    resumed Forwarded c.args.self.now (ApiBlock arm.filter) c.args.pending arm.kept c.args.input moved.field-0 c.with_forwarded-in-ApiBlock-Forwarded.result
    arm.is-0 arm.is-1 (record { first = λ kept request inputs h. h; back = λ kept request inputs h. h }) moved.ensures c.with_forwarded-in-ApiBlock-Forwarded.ensures

pub returns-in_ok-resume-in-Addresses-Addressing : goal.returns-in_ok-resume-in-Addresses-Addressing
returns-in_ok-resume-in-Addresses-Addressing c =
    let arm = c.in-Addresses-Addressing in
    let moved = c.in_ok-resume-in-Addresses-Addressing in
    resumed Addressing c.args.self.now (Addresses arm.filter) c.args.pending arm.kept c.args.input moved.field-0 c.with_addressing.result
    arm.is-0 arm.is-1 (record { first = λ kept request inputs h. h; back = λ kept request inputs h. h }) moved.ensures c.with_addressing.ensures
