-- What a connection gives its requests: what each waits for, and nothing else.
use Rattle.std.specs.Prelude.{◌≡◌, ◌<◌, true, false, ℕ, List, [], ◌∷◌, ◌++◌, length, Some, None, All, slice_get}
use Rattle.tree_spelling.specs.Laws.{AreBytes}
use Rattle.conn_rules.specs.Meaning.{Meaning, ToBroker, Hold, Status, Waits, Done, Fails}
use Rattle.conn_rules.specs.State.{Outside, Body, NoResponse, Verdict, Request, ListedSend, State}
use Rattle.conn_rules.specs.History.{Entry, client_frames, broker_frames}

-- A request that waits for an answer gets a body that can be read, or none where its message gets no response. One that is held
-- gets a verdict.
abbrev pub IsAwaited : Meaning → Status → Outside → Type 0
IsAwaited M (Waits (ToBroker before behind main responds)) (Body bytes) = (responds ≡ true) × AreBytes bytes × (M.unreadable before bytes ≡ None)
IsAwaited M (Waits (ToBroker before behind main responds)) NoResponse = responds ≡ false
IsAwaited M (Waits (ToBroker before behind main responds)) (Verdict bytes) = ⊥
IsAwaited M (Waits (Hold key)) (Body bytes) = ⊥
IsAwaited M (Waits (Hold key)) NoResponse = ⊥
IsAwaited M (Waits (Hold key)) (Verdict bytes) = Unit {0}
IsAwaited M (Done response) x = ⊥
IsAwaited M (Fails why) x = ⊥

-- each of these, which came behind `before`, is what the request in this frame waited for with those before it
abbrev pub AwaitedBehind : Meaning → List ℕ → List Outside → List Outside → Type 0
AwaitedBehind M frame before [] = Unit {0}
AwaitedBehind M frame before (x ∷ xs) = IsAwaited M (M.status frame before) x × AwaitedBehind M frame (before ++ x ∷ []) xs

-- all that a request in this frame was given
abbrev pub AreAwaited : Meaning → List ℕ → List Outside → Type 0
AreAwaited M frame given = AwaitedBehind M frame [] given

-- the frame is a request, and was given what it waited for
pub record IsGivenAsAwaited (M : Meaning) (r : Request) : Type 0 where
  pub bytes : AreBytes r.frame
  pub is_request : M.no_request r.frame ≡ None
  pub awaited : AreAwaited M r.frame r.given

-- The request in this frame, which was given so much, waited for what this send gets: a response, or that there is none.
pub record IsAwaitedSend (M : Meaning) (frame : List ℕ) (given : List Outside) (d : ListedSend) : Type 0 where
  pub request : IsGivenAsAwaited M (record { frame = frame; given = given })
  pub waits : M.status frame given ≡ Waits (ToBroker d.before d.behind d.main d.responds)
  pub ask_is : d.ask ≡ length given

-- it is one of its own request's, by what that was given when the send was listed
pub record IsOwnSend (M : Meaning) (s : State) (d : ListedSend) : Type 0 where
  pub request : Request
  pub there : slice_get s.requests d.request ≡ Some request
  pub given : List Outside
  pub since : List Outside
  pub front : request.given ≡ given ++ since
  pub send : IsAwaitedSend M request.frame given d

-- no ask of a request is sent twice
abbrev pub AreAskedOnce : State → Type 0
AreAskedOnce s =
    (n m : ℕ) (d f : ListedSend) → n < m → slice_get s.sends n ≡ Some d → slice_get s.sends m ≡ Some f → d.request ≡ f.request → d.ask ≡ f.ask → ⊥

-- the frames that were handed on for good, the client's and the broker's, are bytes
abbrev pub FramesAreBytes : List Entry → Type 0
FramesAreBytes hs = All AreBytes (client_frames hs) × All AreBytes (broker_frames hs)
