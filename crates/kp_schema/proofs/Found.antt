-- Where keys rise, a look-up by key finds fields exactly where the list of versions has key and version.
use Rattle.std.proofs.Common.{◌≡◌, ℕ, ◌<◌, Bool, true, false, cond, ◌&&◌, ◌||◌, List, [], ◌∷◌, map, is_some, ℤ, pos, nat_lt, option_and_then, arith, refl, sym, ◌∙◌, Some, None, Option, option_copied, Bor, ap}
use Rattle.std.specs.List.{list_all}
use Rattle.std.specs.Ordering.{int_eq}
use Rattle.std.proofs.lemmas.Bool.{and_parts, cond_both, ltb-true, false_from_ne_true}
use Rattle.std.proofs.lemmas.Bool.Decides.{Decides-int_eq}
use Rattle.kp_schema.specs.declared.dir.Dir.{Dir}
use Rattle.kp_schema.specs.declared.field.Field.{Field}
use Rattle.kp_schema.specs.Laws.{are_rising}
use Rattle.kp_schema.specs.Message.{Message, is_read, fields_at}
use Rattle.kp_schema.specs.Messages.{messages, supported_versions, fields_among, fields_of, is_one_of, is_supported, versions_of}

-- another key is not this one
later_key : (k n : ℕ) (key : ℤ) → k < n → int_eq (pos k) key ≡ true → int_eq (pos n) key ≡ false
later_key k n key h e = false_from_ne_true _ (λ f. apart ((Decides-int_eq (pos k) key).0 e) ((Decides-int_eq (pos n) key).0 f))
  where
    apart : pos k ≡ key → pos n ≡ key → ⊥
    apart p q = let same : k ≡ n = cc in omega arith

fails_both : (b w r : Bool) → b ≡ false → r ≡ false → (b && w || r) ≡ false
fails_both true w r e f = cc
fails_both false w r e f = f

none_later : (k : ℕ) (key version : ℤ) (ms : List Message) → list_all (λ n. nat_lt k n.key) ms ≡ true → int_eq (pos k) key ≡ true → is_one_of (map versions_of ms) key version ≡ false
none_later k key version [] h e = refl
none_later k key version (m ∷ ms) h e =
    let parts = and_parts (nat_lt k m.key) _ h in
    fails_both _ _ _ (later_key k m.key key (ltb-true _ _ parts.0) e) (none_later k key version ms parts.1 e)

is_some-cond : {A : Type 0} (w : Bool) (x : A) → is_some (cond w (Some x) None) ≡ w
is_some-cond true x = refl
is_some-cond false x = refl

at_first : (b w r : Bool) → b ≡ true → r ≡ false → w ≡ (b && w || r)
at_first true true r e f = refl
at_first true false r e f = sym f
at_first false w r e f = cc

past_first : (b w r : Bool) → b ≡ false → r ≡ (b && w || r)
past_first true w r e = cc
past_first false w r e = refl

is_some-fields_among : (ms : List Message) → are_rising ms ≡ true → (key version : ℤ) (dir : Dir) → is_some (fields_among ms key version dir) ≡ is_one_of (map versions_of ms) key version
is_some-fields_among [] h key version dir = refl
is_some-fields_among (m ∷ ms) h key version dir =
    cond_both (int_eq (pos m.key) key) _ _
    (λ o. is_some (option_and_then (λ n. fields_at n dir version) o) ≡ is_one_of (map versions_of (m ∷ ms)) key version)
    (λ e. is_some-cond (is_read m version) _ ∙ at_first _ _ _ e (none_later m.key key version ms rising.0 e))
    (λ e. is_some-fields_among ms rising.1 key version dir ∙ past_first _ (is_read m version) _ e)
  where
    rising : (list_all (λ n. nat_lt m.key n.key) ms ≡ true) × (are_rising ms ≡ true)
    rising = and_parts (list_all (λ n. nat_lt m.key n.key) ms) (are_rising ms) h

pub is_some-fields_of : (key version : ℤ) (dir : Dir) → is_some (fields_of key version dir) ≡ is_supported key version
unfolding messages fields_of is_supported supported_versions
is_some-fields_of key version dir = is_some-fields_among messages refl key version dir

is_some-copied : {T : Type 0} (o : Option (Bor T)) → is_some o ≡ is_some (option_copied o)
is_some-copied None = refl
is_some-copied (Some x) = refl

-- a reference to the fields is there exactly where they are
pub is_some-found : (o : Option (Bor (List Field))) (key version : ℤ) (dir : Dir) → option_copied o ≡ fields_of key version dir → is_some o ≡ is_supported key version
is_some-found o key version dir e = is_some-copied o ∙ ap is_some e ∙ is_some-fields_of key version dir
