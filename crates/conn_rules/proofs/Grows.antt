-- What no event takes back: the requests keep their frames and what they were given, and others join behind them.
use Rattle.std.proofs.Common.{◌≡◌, ◌∙◌, ap, ℕ, zero, suc, List, [], ◌∷◌, ◌++◌, map, refl, sym, append_assoc, Option, Some, None, slice_get}
use Rattle.std.proofs.lemmas.List.{append-nil}
use Rattle.conn_rules.specs.State.{Outside, Request, given_more}

-- a request as it may stand later
pub record Later (r t : Request) : Type 0 where
  pub frame : t.frame ≡ r.frame
  pub more : List Outside
  pub given : t.given ≡ r.given ++ more

later_same : (r : Request) → Later r r
later_same r = record { frame = refl; more = []; given = sym (append-nil r.given) }

later_given : (x : Outside) (r : Request) → Later r (record r { given = r.given ++ x ∷ [] })
later_given x r = record { frame = refl; more = x ∷ []; given = refl }

later_later : (r t u : Request) → Later r t → Later t u → Later r u
later_later r t u h k =
    record { frame = k.frame ∙ h.frame; more = h.more ++ k.more; given = k.given ∙ (ap (λ g. g ++ k.more) h.given ∙ append_assoc r.given h.more k.more) }

-- the requests as they may stand later
abbrev pub Grows : List Request → List Request → Type 0
Grows [] ts = Unit {0}
Grows (r ∷ rs) [] = ⊥
Grows (r ∷ rs) (t ∷ ts) = Later r t × Grows rs ts

pub grows_same : (rs : List Request) → Grows rs rs
grows_same [] = tt
grows_same (r ∷ rs) = (later_same r, grows_same rs)

pub grows_grows : (rs ts us : List Request) → Grows rs ts → Grows ts us → Grows rs us
grows_grows [] ts us h k = tt
grows_grows (r ∷ rs) [] us h k = absurd h
grows_grows (r ∷ rs) (t ∷ ts) [] h k = absurd k
grows_grows (r ∷ rs) (t ∷ ts) (u ∷ us) h k = (later_later r t u h.0 k.0, grows_grows rs ts us h.1 k.1)

pub grows_behind : (rs xs : List Request) → Grows rs (rs ++ xs)
grows_behind [] xs = tt
grows_behind (r ∷ rs) xs = (later_same r, grows_behind rs xs)

given_further : (x : Outside) (found : Option Request) (r : Request) (rs : List Request) (k : ℕ) → given_more x found (r ∷ rs) (suc k) ≡ r ∷ given_more x found rs k
given_further x None r rs k = refl
given_further x (Some t) r rs k = refl

pub grows_given : (x : Outside) (rs : List Request) (k : ℕ) → Grows rs (given_more x (slice_get rs k) rs k)
grows_given x [] k = tt
grows_given x (r ∷ rs) zero = (later_given x r, grows_same rs)
grows_given x (r ∷ rs) (suc k) = rw given_further (later_same r, grows_given x rs k)

-- the frames of the requests stay, too
pub frames_given : (x : Outside) (found : Option Request) (rs : List Request) (k : ℕ) → slice_get rs k ≡ found → map (λ r. r.frame) (given_more x found rs k) ≡ map (λ r. r.frame) rs
frames_given x None rs k is = refl
frames_given x (Some t) [] k is = refl
frames_given x (Some t) (r ∷ rs) zero is = let e : r ≡ t = cc in rw e
frames_given x (Some t) (r ∷ rs) (suc k) is = ap (λ fs. r.frame ∷ fs) (frames_given x (Some t) rs k is)
