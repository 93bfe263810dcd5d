-- A frame with a good head is what its body is.
use Rattle.std.proofs.Common.{◌≡◌, ℕ, ◌+◌, ◌-◌, ℤ, Bool, true, false, ◌&&◌, not, if◌then◌else◌, List, length, take, drop, Option, Some, None, refl, sym, ap, ◌∙◌, arith}
use Rattle.std.specs.Prelude.{slice_range}
use Rattle.std.specs.Ordering.{int_eq}
use Rattle.std.proofs.lemmas.List.{length-drop, drop-drop}
use Rattle.std.proofs.Math.Seq.{take-length}
use Rattle.kp_edge.specs.declared.end.End.{End}
use Rattle.kp_edge.specs.declared.end.End.TheVariants as end
use Rattle.kp_schema.specs.declared.dir.Dir.TheVariants as dir
use Rattle.kp_schema.specs.Messages.{is_supported}
use Rattle.tree_spelling.specs.Shape.{message_shape}
use Rattle.tree_spelling.specs.Decoded.{decoded, AllItems}
use Rattle.tree_spelling.specs.Body.{Contents}
use Rattle.framing.specs.Heads.{has_client_id, client_id_length, request_body}
use Rattle.framing.specs.RequestStarts.{request_key, request_version}
use Rattle.api_versions.specs.Refusal.{api_versions_key}
use Rattle.conn_core.specs.Requests.{is_told_versions, request_decoded, body_cause, frame_cause, request_of, items_read}
use Rattle.conn_core.specs.Kinds.{HasHead}

unless : (a b : Bool) → b ≡ true → (a && not b) ≡ false
unless true true h = refl
unless false true h = refl
unless a false h = absurd cc

-- ---- where the parts of a frame stand

pub body_place : (frame : List ℕ) (body_at : ℕ) → body_at ≡ 8 + client_id_length frame → slice_range frame body_at (length frame) ≡ request_body frame
body_place frame body_at e =
    ap (λ k. take k (drop body_at frame)) (sym (length-drop body_at frame)) ∙ take-length (drop body_at frame) ∙ ap (λ k. drop k frame) e ∙ sym (drop-drop (client_id_length frame) 8 frame)

-- ---- what a frame is

module _ (frame : List ℕ) (key version : ℤ) (body_at : ℕ) (h : HasHead frame key version body_at) where
  supported_here : is_supported (request_key frame) (request_version frame) ≡ true
  supported_here = sym (ap (λ x. is_supported x version) h.key_is ∙ ap (is_supported (request_key frame)) h.version_is) ∙ h.supported

  -- who asks in a version that is supported isn't told the versions
  pub not_told : is_told_versions frame ≡ false
  not_told = unless (int_eq (request_key frame) api_versions_key) (is_supported (request_key frame) (request_version frame)) supported_here

  by_body : (told served client : Bool) (cause : Option (ℕ → End)) → told ≡ false → served ≡ true → client ≡ true
      → (if told then None else if not served then Some (λ k. end.UnsupportedApi k (request_key frame) (request_version frame)) else if not client then Some (λ k. end.BadHead k) else cause) ≡ cause
  by_body true served client cause t s c = absurd cc
  by_body false false client cause t s c = absurd cc
  by_body false true false cause t s c = absurd cc
  by_body false true true cause t s c = refl

  module _ (body : List ℕ) (is_body : body ≡ request_body frame) where
    -- the body is read by the numbers in the frame's own head
    decoded_alike : decoded (message_shape key version dir.Request) body ≡ request_decoded frame
    decoded_alike =
        ap (λ x. decoded (message_shape x version dir.Request) body) h.key_is ∙ ap (λ x. decoded (message_shape (request_key frame) x dir.Request) body) h.version_is ∙ ap (λ x. decoded (message_shape (request_key frame) (request_version frame) dir.Request) x) is_body

    pub cause_of_body : frame_cause frame ≡ body_cause key version (decoded (message_shape key version dir.Request) body)
    cause_of_body =
        by_body (is_told_versions frame) (is_supported (request_key frame) (request_version frame)) (has_client_id frame) (body_cause (request_key frame) (request_version frame) (request_decoded frame)) not_told supported_here h.client_id
        ∙ sym (ap (λ x. body_cause x version (decoded (message_shape key version dir.Request) body)) h.key_is ∙ ap (λ x. body_cause (request_key frame) x (decoded (message_shape key version dir.Request) body)) h.version_is ∙ ap (body_cause (request_key frame) (request_version frame)) decoded_alike)

    -- a body that is read is the request's
    pub body_read : (b : Contents) → b.key ≡ key → b.version ≡ version → b.dir ≡ dir.Request → decoded (message_shape key version dir.Request) body ≡ AllItems b.items → b ≡ request_of frame
    body_read b k v d e =
        ap (λ x. record { key = x; version = b.version; dir = b.dir; items = b.items }) (k ∙ h.key_is)
        ∙ ap (λ x. record { key = request_key frame; version = x; dir = b.dir; items = b.items }) (v ∙ h.version_is)
        ∙ ap (λ x. record { key = request_key frame; version = request_version frame; dir = x; items = b.items }) d
        ∙ ap (λ x. record { key = request_key frame; version = request_version frame; dir = dir.Request; items = x }) (sym (ap items_read e) ∙ ap items_read decoded_alike)
