use Rattle.std.proofs.Common.{◌≡◌, ◌∙◌, ap, FitsSigned, w16, rules}
use Rattle.std.specs.Prelude.{slice_range}
use Rattle.std.proofs.lemmas.Int.{to_z-of_z}
use Rattle.kp_schema.specs.declared.dir.Dir.TheVariants as dir
use Rattle.tree_spelling.specs.Shape.{message_shape}
use Rattle.tree_spelling.specs.Decoded.{decoded}
use Rattle.framing.specs.Heads.{request_body}
use Rattle.conn_core.specs.Requests.{body_cause}
use Rattle.conn_core.proofs.Heads.{body_place, not_told, cause_of_body, body_read}
use Rattle.conn_core.proofs.opening.open.Goals as goal

pub returns-in_ok-envelope-in-Ok : goal.returns-in_ok-envelope-in-Ok
returns-in_ok-envelope-in-Ok c =
    let h = c.requires.head in
    let key : FitsSigned w16 c.args.key = search rules in
    let version : FitsSigned w16 c.args.version = search rules in
    let body : c.in_ok-body.body ≡ request_body c.args.frame.now = c.in_ok-body.ensures.ok ∙ ap (slice_range c.args.frame.now c.args.body_at) c.len.ensures.value ∙ body_place c.args.frame.now c.args.body_at h.place in
    let items = simp to_z-of_z at c.in-Ok.ensures.decoded in
    let read = simp to_z-of_z at c.in-Ok.ensures.ok in
    let request = body_read c.args.frame.now c.args.key c.args.version c.args.body_at h c.in_ok-body.body body c.in-Ok.request read.of.key_is read.of.version_is read.of.dir_is items in (
      not_told c.args.frame.now c.args.key c.args.version c.args.body_at h,
      cause_of_body c.args.frame.now c.args.key c.args.version c.args.body_at h c.in_ok-body.body body ∙ ap (body_cause c.args.key c.args.version) items,
      c.in_ok-envelope-in-Ok.ensures h.place request,
      request,
    )

pub returns-in_ok-cause_of_fault-in-Err : goal.returns-in_ok-cause_of_fault-in-Err
returns-in_ok-cause_of_fault-in-Err c =
    let h = c.requires.head in
    let key : FitsSigned w16 c.args.key = search rules in
    let version : FitsSigned w16 c.args.version = search rules in
    let body : c.in_ok-body.body ≡ request_body c.args.frame.now = c.in_ok-body.ensures.ok ∙ ap (slice_range c.args.frame.now c.args.body_at) c.len.ensures.value ∙ body_place c.args.frame.now c.args.body_at h.place in
    let fault = simp to_z-of_z at c.in-Err.ensures.decoded in
    let cause = simp to_z-of_z at c.in_ok-cause_of_fault-in-Err.ensures in
    cause_of_body c.args.frame.now c.args.key c.args.version c.args.body_at h c.in_ok-body.body body ∙ cause (decoded (message_shape c.args.key c.args.version dir.Request) c.in_ok-body.body) fault
