-- Who is told the versions of ApiVersions is no Produce.
use Rattle.std.proofs.Common.{◌≡◌, ℕ, ℤ, pos, Bool, true, false, ◌&&◌, not, if◌then◌else◌, List, Some, None, refl, ap}
use Rattle.std.specs.Ordering.{int_eq}
use Rattle.std.proofs.lemmas.Bool.Decides.{Decides-int_eq}
use Rattle.kp_edge.specs.declared.end.End.TheVariants as end
use Rattle.kp_schema.specs.Messages.{is_supported}
use Rattle.framing.specs.Heads.{has_client_id}
use Rattle.framing.specs.RequestStarts.{request_key, request_version}
use Rattle.api_versions.specs.Refusal.{api_versions_key}
use Rattle.filter_core.specs.Acks.{is_zero, acks_in}
use Rattle.conn_core.specs.Requests.{request_of, request_decoded, is_silent, is_told_versions, body_cause, frame_cause}

first_holds : (a b : Bool) → (a && b) ≡ true → a ≡ true
first_holds true b e = refl
first_holds false b e = absurd cc

not_both : (key : ℤ) (b : Bool) → key ≡ api_versions_key → (int_eq key (pos 0) && b) ≡ false
not_both key b e = ap (λ k. int_eq k (pos 0) && b) e

pub told_is_loud : (frame : List ℕ) → is_told_versions frame ≡ true → is_silent frame ≡ false
told_is_loud frame t =
    not_both (request_key frame) (is_zero (acks_in (request_of frame).items)) ((Decides-int_eq (request_key frame) api_versions_key).0 (first_holds (int_eq (request_key frame) api_versions_key) (not (is_supported (request_key frame) (request_version frame))) t))

-- who is told the versions made a request
pub told_is_request : (frame : List ℕ) → is_told_versions frame ≡ true → frame_cause frame ≡ None
told_is_request frame t =
    ap (λ b. if b then None else if not (is_supported (request_key frame) (request_version frame)) then Some (λ k. end.UnsupportedApi k (request_key frame) (request_version frame)) else if not (has_client_id frame) then Some (λ k. end.BadHead k) else body_cause (request_key frame) (request_version frame) (request_decoded frame)) t
