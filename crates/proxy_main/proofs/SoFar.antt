-- How far a script was read.
use Rattle.std.proofs.Common.{◌≡◌, ℕ, ◌+◌, ◌-◌, ◌≤◌, List, [], ◌++◌, length, take, drop, Option, Some, Result, Ok, refl, sym, ◌∙◌, ap, subst, arith, append_assoc, length-append}
use Rattle.std.specs.Prelude.{IfOk, IfSome}
use Rattle.std.proofs.lemmas.List.{take-append-drop, length-take}
use Rattle.kp_edge.specs.Source.{ComesNext}
use Rattle.proxy_main.specs.Scripts.{ReadSoFar, script_limit}
use Rattle.proxy_main.specs.Written.{ReadsOnce}
use Rattle.proxy_main.specs.declared.stop.Stop.{Stop}

pub none_read : (most : ℕ) (before : Option (List ℕ)) (r : Result ℕ Stop) → IfOk r (λ count. count ≡ 0) → ReadsOnce most before before r
none_read most before r told coming is = record { taken = 0; within = omega arith; short = omega arith; unread_is = is; told = told }

pub some_read : (most n : ℕ) (before left : Option (List ℕ)) (buffer : List ℕ) (r : Result ℕ Stop) → IfSome before (λ xs. ComesNext n xs left buffer) → n ≤ most → IfOk r (λ count. count ≡ n) → ReadsOnce most before left r
some_read most n before left buffer r next short told coming is =
    let comes : ComesNext n coming left buffer = subst (λ o. IfSome o (λ xs. ComesNext n xs left buffer)) is next in
    record { taken = n; within = comes.within; short = short; unread_is = comes.rest_is; told = told }

-- so much of the script was read, and so many bytes may still come
pub record Consumed (script : List ℕ) (left : Option (List ℕ)) (allowed : ℕ) : Type 0 where
  pub read : List ℕ
  pub rest : List ℕ
  pub parts : script ≡ read ++ rest
  pub unread_is : left ≡ Some rest
  pub allowed_is : length read + allowed ≡ script_limit

-- nothing was read
pub none_consumed : (script : List ℕ) (left : Option (List ℕ)) → left ≡ Some script → Consumed script left script_limit
none_consumed script left is = record { read = []; rest = script; parts = refl; unread_is = is; allowed_is = refl }

rest_parts : (script read rest : List ℕ) (n : ℕ) → script ≡ read ++ rest → script ≡ read ++ (take n rest ++ drop n rest)
rest_parts script read rest n parts = parts ∙ ap (λ xs. read ++ xs) (sym (take-append-drop n rest))

pub so_far_of : (most : ℕ) (script : List ℕ) (before left : Option (List ℕ)) (allowed : ℕ) (r : Result ℕ Stop) → Consumed script before allowed → ReadsOnce most before left r → ReadSoFar most script left
so_far_of most script before left allowed r c once =
    let o = once c.rest c.unread_is in
    record {
      before = c.read;
      piece = take o.taken c.rest;
      rest = drop o.taken c.rest;
      parts = rest_parts script c.read c.rest o.taken c.parts;
      unread_is = o.unread_is;
      within = omega (arith, c.allowed_is);
      short = omega (arith, length-take o.taken c.rest, o.short);
    }

pub consumed_more : (most : ℕ) (script : List ℕ) (before left : Option (List ℕ)) (allowed count : ℕ) → Consumed script before allowed → ReadsOnce most before left (Ok count) → count ≤ allowed → Consumed script left (allowed - count)
consumed_more most script before left allowed count c once le =
    let o = once c.rest c.unread_is in
    let told : count ≡ o.taken = o.told in
    record {
      read = c.read ++ take o.taken c.rest;
      rest = drop o.taken c.rest;
      parts = rest_parts script c.read c.rest o.taken c.parts ∙ sym (append_assoc c.read (take o.taken c.rest) (drop o.taken c.rest));
      unread_is = o.unread_is;
      allowed_is = omega (arith, c.allowed_is, told, le, o.within, length-append c.read (take o.taken c.rest), length-take o.taken c.rest);
    }

-- before the first read
pub unread : (most : ℕ) (script : List ℕ) (left : Option (List ℕ)) → left ≡ Some script → ReadSoFar most script left
unread most script left is = record { before = []; piece = []; rest = script; parts = refl; unread_is = is; within = omega arith; short = omega arith }
