-- What a request means. The machine of a connection is the same for every meaning, and so is its law of order.
use Rattle.std.specs.Prelude.{◌≡◌, ℕ, Bool, true, false, List, [], ◌++◌, Option}
use Rattle.framing.specs.Frames.{sized}
use Rattle.framing.specs.CorrelationIds.{request_id}
use Rattle.kp_edge.specs.declared.end.End.{End}
use Rattle.conn_rules.specs.State.{Outside}

-- What a request waits for.
pub data Ask : Type 0 where
  -- an answer to a send: what stands before and behind the four bytes of the send's correlation id, whether it is the
  -- main send, which is the request itself, or one that a filter asks aside, and whether it gets a response
  ToBroker : (before behind : List ℕ) (main responds : Bool) → Ask
  -- a verdict on this key
  Hold : (key : List ℕ) → Ask

-- How a request stands, with what it was given so far.
pub data Status : Type 0 where
  Waits : (ask : Ask) → Status
  -- its whole response with its size, or no bytes where the client gets none
  Done : (response : List ℕ) → Status
  -- the cause that ends the connection at this request, which waits for the request's number
  Fails : (why : ℕ → End) → Status

pub record Meaning : Type 0 where
  -- whether a frame of this size has room, with so many requests in flight that hold so many bytes
  pub room : (count held size : ℕ) → Bool
  -- why a client frame is no request; it waits for the number that the request would have
  pub no_request : (frame : List ℕ) → Option (ℕ → End)
  -- whether a request gets no response
  pub silent : (frame : List ℕ) → Bool
  pub status : (frame : List ℕ) (given : List Outside) → Status
  -- how many steps a request takes in all, from its frame on, with what it was given so far
  pub work : (frame : List ℕ) (given : List Outside) → ℕ
  -- why the body of a response can't be read, by what stands before the correlation id of its request
  pub unreadable : (before body : List ℕ) → Option (ℕ → End)

-- A response carries the correlation id of its request: it is one frame on the wire, whose first four bytes are that id.
abbrev pub CarriesId : (request response : List ℕ) → Type 0
CarriesId request response = (body : List ℕ) × (response ≡ sized (request_id request ++ body))

-- What the law of order asks of a meaning: a response stays as it is, whatever more is given. A silent request has
-- none, and each other response carries its request's own correlation id.
pub record Lasting (M : Meaning) : Type 0 where
  pub stays : (frame : List ℕ) (given more : List Outside) (response : List ℕ) → M.status frame given ≡ Done response → M.status frame (given ++ more) ≡ Done response
  pub silence : (frame : List ℕ) (given : List Outside) (response : List ℕ) → M.silent frame ≡ true → M.status frame given ≡ Done response → response ≡ []
  pub own_id : (frame : List ℕ) (given : List Outside) (response : List ℕ) → M.silent frame ≡ false → M.status frame given ≡ Done response → CarriesId frame response
