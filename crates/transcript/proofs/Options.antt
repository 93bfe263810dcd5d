-- What it says that a step of reading gave a value.
use Rattle.std.proofs.Common.{◌≡◌, ℕ, ◌⊎◌, inl, inr, Bool, true, false, cond, refl, Option, Some, None, Result, Ok, Err, List, ◌++◌, length, take, drop, sym, ◌∙◌, ap}
use Rattle.std.specs.Option.{option_map}
use Rattle.std.specs.Result.{result_ok}
use Rattle.std.specs.Str.{bytes_eq}
use Rattle.std.proofs.lemmas.List.{take-append-drop}
use Rattle.std.proofs.lemmas.Slice.Eq.{bytes_eq-Decides}
use Rattle.transcript.specs.Reading.{rest_after, ◌>>=◌, read_or}

-- which side of a test was taken
pub chosen : {X : Type 0} (b : Bool) (x y z : X) → cond b x y ≡ z → ((b ≡ true) × (x ≡ z)) ⊎ ((b ≡ false) × (y ≡ z))
chosen true x y z e = inl (refl, e)
chosen false x y z e = inr (refl, e)

pub option_map-Some : {X Y : Type 0} (f : X → Y) (o : Option X) (y : Y) → option_map f o ≡ Some y → (x : X) × (o ≡ Some x) × (f x ≡ y)
option_map-Some f None y e = cc
option_map-Some f (Some x) y e = (x, refl, cc)

pub bind_Some : {X Y : Type 0} (o : Option X) (f : X → Option Y) (y : Y) → (o >>= f) ≡ Some y → (x : X) × (o ≡ Some x) × (f x ≡ Some y)
bind_Some None f y e = cc
bind_Some (Some x) f y e = (x, refl, e)

pub read_or-Some : {X Y : Type 0} (o : Option X) (f : X → Option Y) (other : Option Y) (y : Y) → read_or o f other ≡ Some y
    → ((x : X) × (o ≡ Some x) × (f x ≡ Some y)) ⊎ (other ≡ Some y)
read_or-Some None f other y e = inr e
read_or-Some (Some x) f other y e = inl (x, refl, e)

pub result_ok-Some : {X E : Type 0} (r : Result X E) (x : X) → result_ok r ≡ Some x → r ≡ Ok x
result_ok-Some (Ok y) x e = cc
result_ok-Some (Err f) x e = cc

pub rest_after-Some : (front text rest : List ℕ) → rest_after front text ≡ Some rest → text ≡ front ++ rest
rest_after-Some front text rest e =
    elim (chosen (bytes_eq (take (length front) text) front) (Some (drop (length front) text)) None (Some rest) e) [
      | inl h ↦
          let same : take (length front) text ≡ front = (bytes_eq-Decides (take (length front) text) front).0 h.0 in
          let behind_it : drop (length front) text ≡ rest = cc h.1 in
          sym (take-append-drop (length front) text) ∙ ap (λ s. s ++ drop (length front) text) same ∙ ap (λ s. front ++ s) behind_it
      | inr h ↦ cc h.1
    ]
