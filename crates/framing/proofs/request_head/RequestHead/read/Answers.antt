use Rattle.std.proofs.Common.{rules, ◌≡◌, ℤ, ◌≤◌, ◌+◌, ◌∙◌, ◌++◌, length, drop, Some, refl, w16, w32, FitsSigned}
use Rattle.std.specs.Option.{option_copied}
use Rattle.std.proofs.lemmas.Int.{to_z-of_z}
use Rattle.std.proofs.lemmas.List.{take_rest}
use Rattle.wire_types.specs.Strings.{string}
use Rattle.framing.specs.declared.request_head.RequestHead.{RequestHead}
use Rattle.framing.specs.Heads.{IsRequest}
use Rattle.framing.proofs.Heads.{ReadsText, is_request, ends_at, stood_at, same_body, same_numbers}
use Rattle.framing.proofs.request_head.RequestHead.read.Goals as goal

pub part_before-requires : goal.part_before-requires
part_before-requires c =
    let r : ReadsText c.args.frame.now c.new-reader.result c.string.new.self (option_copied c.in-Ok.text) =
    record { bytes = search rules; at = c.new-reader.ensures.at; reads = c.in-Ok.ensures.ok } in
    let long : 8 ≤ length c.args.frame.now = search rules in
    rw c.at-end.ensures.at (ends_at c.args.frame.now c.new-reader.result c.string.new.self (option_copied c.in-Ok.text) long r)

pub returns-clause-ok : goal.returns-clause-ok
returns-clause-ok c =
    let r : ReadsText c.args.frame.now c.new-reader.result c.string.new.self (option_copied c.in-Ok.text) =
    record { bytes = search rules; at = c.new-reader.ensures.at; reads = c.in-Ok.ensures.ok } in
    let key : FitsSigned w16 c.in-Some.key = search rules in
    let version : FitsSigned w16 c.in-Some.version = search rules in
    let id : FitsSigned w32 c.in-Some.correlation_id = search rules in
    let body : c.in_ok-body.body ≡ drop (8 + c.string.new.self.at) c.args.frame.now =
    c.in_ok-body.ensures.ok ∙ rw (c.len.ensures.value, c.at-end.ensures.at) (take_rest c.args.frame.now (8 + c.string.new.self.at)) in
    let start = rw c.as_slice.ensures at c.in-Some.ensures.some in
    let head : RequestHead = record { key = c.in-Some.key; version = c.in-Some.version; correlation_id = c.in-Some.correlation_id; client_id = option_copied c.in-Ok.text } in
    let found : IsRequest c.args.frame.now head c.in_ok-body.body = is_request c.args.frame.now c.in_ok-body.body head c.new-reader.result c.string.new.self start r c.in-Ok.ensures.fits body in
    rw (to_z-of_z w16 c.in-Some.key key, to_z-of_z w16 c.in-Some.version version, to_z-of_z w32 c.in-Some.correlation_id id, c.in_ok-client_id.ensures) found

pub returns-clause-spelled_is_read : goal.returns-clause-spelled_is_read
returns-clause-spelled_is_read c =
    λ head body q.
    let r : ReadsText c.args.frame.now c.new-reader.result c.string.new.self (option_copied c.in-Ok.text) =
    record { bytes = search rules; at = c.new-reader.ensures.at; reads = c.in-Ok.ensures.ok } in
    let q' : IsRequest c.as_slice.result.now head body = rw c.as_slice.ensures q in
    let read : ℤ × ℤ × ℤ = (c.in-Some.key, c.in-Some.version, c.in-Some.correlation_id) in
    let there : ℤ × ℤ × ℤ = (head.key, head.version, head.correlation_id) in
    let numbers : Some read ≡ Some there = c.in-Some.ensures.spelled_is_read head.key head.version head.correlation_id (string head.client_id ++ body) q'.starts in
    let same = same_numbers read there numbers in
    let text : option_copied c.in-Ok.text ≡ head.client_id = c.in-Ok.ensures.spelled_is_read head.client_id body q.is_string (stood_at c.args.frame.now c.new-reader.result c.string.new.self (option_copied c.in-Ok.text) head body r q) in
    let rest = same_body c.args.frame.now c.new-reader.result c.string.new.self (option_copied c.in-Ok.text) head body r q text in
    let found : c.in_ok-body.body ≡ drop (8 + c.string.new.self.at) c.args.frame.now =
    c.in_ok-body.ensures.ok ∙ rw (c.len.ensures.value, c.at-end.ensures.at) (take_rest c.args.frame.now (8 + c.string.new.self.at)) in
    let client : c.in_ok-client_id.client_id ≡ head.client_id = c.in_ok-client_id.ensures ∙ text in
    rw (same.0, same.1, same.2, to_z-of_z w16 head.key q.starts.key_fits, to_z-of_z w16 head.version q.starts.version_fits, to_z-of_z w32 head.correlation_id q.starts.id_fits, client) (refl, found ∙ rest)
