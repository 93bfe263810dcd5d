-- What printing has appended so far.
use Rattle.std.proofs.Common.{◌≡◌, ℕ, List, [], ◌∷◌, ◌++◌, Bool, false, refl, sym, ◌∙◌, ap, append_assoc, append-nil, Option, Some, None, Result, Ok, Err, take, drop}
use Rattle.std.specs.Prelude.{OnOk, OnErr, IfSome, is_err}
use Rattle.std.specs.Fmt.{WritesText}
use Rattle.std.proofs.lemmas.Fmt.{contents_after_writes}
use Rattle.std.proofs.lemmas.List.{take-append-drop}
use Rattle.hex.specs.Hex.{encode_with, encode_lower, lower_digits}
use Rattle.transcript.specs.Answers.{HasFrontAppended}

encode_with-append : (t a b : List ℕ) → encode_with t (a ++ b) ≡ encode_with t a ++ encode_with t b
unfolding encode_with
encode_with-append t [] b = refl
encode_with-append t (x ∷ a) b = rw (encode_with-append t a b) refl

-- the digits of a front of the bytes were put behind what stood there
pub record PutSoFar (bytes rest old out : List ℕ) : Type 0 where
  pub front : List ℕ
  pub splits : bytes ≡ front ++ rest
  pub put : out ≡ old ++ encode_lower front

pub put_none : (bytes old : List ℕ) → PutSoFar bytes bytes old old
unfolding encode_with
put_none bytes old = record { front = []; splits = refl; put = sym (append-nil old) }

pub put_more : (bytes rest old out : List ℕ) (n : ℕ) (new : List ℕ) → PutSoFar bytes rest old out → new ≡ out ++ encode_lower (take n rest) → PutSoFar bytes (drop n rest) old new
put_more bytes rest old out n new so_far more =
    record {
      front = so_far.front ++ take n rest;
      splits = so_far.splits ∙ ap (λ s. so_far.front ++ s) (sym (take-append-drop n rest)) ∙ sym (append_assoc so_far.front (take n rest) (drop n rest));
      put =
          more ∙ ap (λ s. s ++ encode_lower (take n rest)) so_far.put ∙ append_assoc old (encode_lower so_far.front) (encode_lower (take n rest))
          ∙ ap (λ s. old ++ s) (sym (encode_with-append lower_digits so_far.front (take n rest)));
    }

pub put_front : (bytes rest old out : List ℕ) → PutSoFar bytes rest old out → HasFrontAppended old out (encode_lower bytes)
put_front bytes rest old out so_far =
    record {
      front = encode_lower so_far.front;
      rest = encode_lower rest;
      splits = ap encode_lower so_far.splits ∙ encode_with-append lower_digits so_far.front rest;
      appended = so_far.put;
    }

pub put_all : (bytes rest old out : List ℕ) → PutSoFar bytes rest old out → rest ≡ [] → out ≡ old ++ encode_lower bytes
put_all bytes rest old out so_far done =
    so_far.put ∙ ap (λ s. old ++ encode_lower s) (sym (so_far.splits ∙ ap (λ s. so_far.front ++ s) done ∙ append-nil so_far.front))

pub on_err : {T E P : Type 0} (r : Result T E) → P → OnErr r P
on_err (Ok x) p = tt
on_err (Err e) p = p

pub on_err_map : {T E P Q : Type 0} (r : Result T E) → (P → Q) → OnErr r P → OnErr r Q
on_err_map (Ok x) f p = tt
on_err_map (Err e) f p = f p

-- words that a value wrote without an error are its text
pub words_put : {E F : Type 0} (w : Result (Unit {0}) F) (failed : Bool) (r : Result (Unit {0}) E) (o : Option (List ℕ)) (start after text old new : List ℕ)
    → failed ≡ is_err w → failed ≡ false → start ≡ [] → text ≡ after → OnOk w (WritesText (λ before words behind. behind ≡ before ++ words) start o after)
    → OnOk r (new ≡ old ++ text) → OnOk r (IfSome o (λ words. new ≡ old ++ words))
words_put (Err f) failed r o start after text old new known none begins same writes put = cc
words_put (Ok v) failed (Err e) o start after text old new known none begins same writes put = tt
words_put (Ok v) failed (Ok u) None start after text old new known none begins same writes put = tt
words_put (Ok v) failed (Ok u) (Some words) start after text old new known none begins same writes put =
    let whole = contents_after_writes (λ before piece behind. behind ≡ before ++ piece) (λ w. w) (λ w piece behind e. e) start words after writes in
    put ∙ ap (λ s. old ++ s) (same ∙ whole ∙ ap (λ s. s ++ words) begins)

-- a front is appended behind a front
pub front_behind : (old mid new head text : List ℕ) → mid ≡ old ++ head → HasFrontAppended mid new text → HasFrontAppended old new (head ++ text)
front_behind old mid new head text first then_front =
    record {
      front = head ++ then_front.front;
      rest = then_front.rest;
      splits = ap (λ s. head ++ s) then_front.splits ∙ sym (append_assoc head then_front.front then_front.rest);
      appended = then_front.appended ∙ ap (λ s. s ++ then_front.front) first ∙ append_assoc old head then_front.front;
    }

-- where nothing was appended the front is empty
pub no_front : (old new text : List ℕ) → new ≡ old → HasFrontAppended old new text
no_front old new text same = record { front = []; rest = text; splits = refl; appended = same ∙ sym (append-nil old) }

pub ruleset printing = (put_none, put_more, put_front, put_all, words_put, front_behind, no_front)
