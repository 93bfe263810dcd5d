-- A test that the tables pass in each of their versions is passed by all that `fields_of` gives.
use Rattle.std.proofs.Common.{◌≡◌, ℕ, ◌+◌, ◌≤◌, ◌⊎◌, Bool, true, ◌&&◌, ◌||◌, List, [], ◌∷◌, filter, IfSome, IsTrue, ℤ, pos, negsuc, nat_lt, nat_le, option_and_then, arith, inl, inr, rules}
use Rattle.std.specs.List.{list_all}
use Rattle.std.specs.Ordering.{int_eq}
use Rattle.std.proofs.lemmas.Bool.{agree_below, agree_below_at, and_parts, or_cases, cond_both, leb-true, ltb-true}
use Rattle.kp_schema.specs.declared.dir.Dir.{Dir}
use Rattle.kp_schema.specs.declared.dir.Dir.TheVariants.{Request, Response}
use Rattle.kp_schema.specs.declared.field.Field.{Field}
use Rattle.kp_schema.specs.Field.{is_in_version}
use Rattle.kp_schema.specs.Message.{Message, rows, is_read, fields_at}
use Rattle.kp_schema.specs.Messages.{fields_among}

-- both directions' fields pass in this version, unless it lies before those that are read
abbrev pub pass_at : (List Field → Bool) → Message → ℕ → Bool
pass_at test m v =
    nat_lt v m.least || (test (filter (is_in_version (pos v)) m.request) && test (filter (is_in_version (pos v)) m.response))

abbrev pub pass : (List Field → Bool) → Message → Bool
pass test m = agree_below (pass_at test m) (λ _. true) (m.greatest + 1)

direction : (test : List Field → Bool) (m : Message) (version : ℤ) (dir : Dir) → (test (filter (is_in_version version) m.request) && test (filter (is_in_version version) m.response)) ≡ true → test (filter (is_in_version version) (rows m dir)) ≡ true
direction test m version Request h = (and_parts _ _ h).0
direction test m version Response h = (and_parts _ _ h).1

in_version : (test : List Field → Bool) (m : Message) → pass test m ≡ true → (v : ℕ) (dir : Dir) → is_read m (pos v) ≡ true → test (filter (is_in_version (pos v)) (rows m dir)) ≡ true
in_version test m h v dir read = direction test m (pos v) dir (here (or_cases (nat_lt v m.least) _ passed))
  where
    least : m.least ≤ v
    least = leb-true m.least v (and_parts (nat_le m.least v) (nat_le v m.greatest) read).0

    greatest : v ≤ m.greatest
    greatest = leb-true v m.greatest (and_parts (nat_le m.least v) (nat_le v m.greatest) read).1

    passed : pass_at test m v ≡ true
    passed = agree_below_at (pass_at test m) (λ _. true) (m.greatest + 1) v h (omega (arith, greatest))

    here : {P : Type 0} → (nat_lt v m.least ≡ true) ⊎ P → P
    here (inl early) = absurd (omega (arith, least, ltb-true v m.least early))
    here (inr p) = p

pub pass_fields_at : (test : List Field → Bool) (m : Message) → pass test m ≡ true → (dir : Dir) (version : ℤ) → IfSome (fields_at m dir version) (λ fs. IsTrue (test fs))
pass_fields_at test m h dir (negsuc n) = search rules
pass_fields_at test m h dir (pos v) =
    cond_both (is_read m (pos v)) _ _ (λ o. IfSome o (λ fs. IsTrue (test fs))) (in_version test m h v dir) (λ _. search rules)

pub pass_fields_among : (test : List Field → Bool) (key version : ℤ) (dir : Dir) (ms : List Message) → list_all (pass test) ms ≡ true → IfSome (fields_among ms key version dir) (λ fs. IsTrue (test fs))
pass_fields_among test key version dir [] h = search rules
pass_fields_among test key version dir (m ∷ ms) h =
    cond_both (int_eq (pos m.key) key) _ _ (λ o. IfSome (option_and_then (λ n. fields_at n dir version) o) (λ fs. IsTrue (test fs)))
    (λ _. pass_fields_at test m (and_parts _ _ h).0 dir version)
    (λ _. pass_fields_among test key version dir ms (and_parts _ _ h).1)
