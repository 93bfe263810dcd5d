-- What a client's frame is by its head, as the code tells it.
use Rattle.std.specs.Prelude.{◌≡◌, ◌+◌, ◌≤◌, List, ℕ, ℤ, length, true, false, Some, None}
use Rattle.framing.specs.RequestStarts.{request_key, request_version, request_number}
use Rattle.framing.specs.Heads.{has_client_id, client_id_length}
use Rattle.kp_schema.specs.Messages.{is_supported}
use Rattle.serving.specs.Causes.{why_of}
use Rattle.conn_core.specs.declared.kinds.FrameKind.{FrameKind}
use Rattle.conn_core.specs.declared.kinds.FrameKind.TheVariants as kind
use Rattle.conn_core.specs.declared.opening.Opened.{Opened}
use Rattle.conn_core.specs.declared.opening.Opened.TheVariants as opened
use Rattle.conn_core.specs.Requests.{is_told_versions, request_of, frame_cause}
use Rattle.conn_core.specs.Underway.{IsEnvelopeOf}

-- the frame has a good head, with this key and this version, and its body begins at this place
pub record HasHead (frame : List ℕ) (key version : ℤ) (body_at : ℕ) : Type 0 where
  pub supported : is_supported key version ≡ true
  pub client_id : has_client_id frame ≡ true
  pub key_is : key ≡ request_key frame
  pub version_is : version ≡ request_version frame
  pub place : body_at ≡ 8 + client_id_length frame
  pub inside : body_at ≤ length frame

abbrev pub IsKind : List ℕ → FrameKind → Type 0
IsKind frame (kind.Headed key version body_at) = HasHead frame key version body_at
IsKind frame (kind.ToldVersions id) = (is_told_versions frame ≡ true) × (id ≡ request_number frame)
IsKind frame (kind.Unsupported key version) = (is_supported key version ≡ false) × (is_told_versions frame ≡ false) × (key ≡ request_key frame) × (version ≡ request_version frame)
IsKind frame kind.BadHead = (is_supported (request_key frame) (request_version frame) ≡ true) × (has_client_id frame ≡ false)

-- what a frame with a good head is: a request, in its envelope, or none
abbrev pub Opens : List ℕ → Opened → Type 0
Opens frame (opened.Request envelope body) = (is_told_versions frame ≡ false) × (frame_cause frame ≡ None) × IsEnvelopeOf envelope frame × (body ≡ request_of frame)
Opens frame (opened.NoRequest cause) = frame_cause frame ≡ Some (why_of cause)
