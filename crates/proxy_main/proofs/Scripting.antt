-- What was read of a script says which lines it begins with.
use Rattle.std.proofs.Common.{◌≡◌, ℕ, zero, suc, ◌+◌, ◌-◌, ◌<◌, ◌≤◌, ◌==◌, Bool, true, false, ◌||◌, List, [], ◌∷◌, ◌++◌, length, take, sym, ◌∙◌, ap, subst, refl, arith, append_assoc, nat_lt, if◌then◌else◌}
use Rattle.std.specs.List.{list_any}
use Rattle.std.proofs.lemmas.Grind.{flat_map-append}
use Rattle.std.proofs.lemmas.List.Elements.{All-append, All-cons, All-nil, All-head, All-tail}
use Rattle.std.proofs.lemmas.Bool.{eqb-true, le-ltb, lt-ltb}
use Rattle.std.proofs.Math.Seq.{take-append-add}
use Rattle.proxy_main.specs.Scripts.{HasNoBreak, Lines, Script, with_last, script_limit}
use Rattle.proxy_main.specs.Progress.{Begins}
use Rattle.proxy_main.proofs.Lists.{append_nil}
use Rattle.proxy_main.proofs.LineCuts.{joined, begins_longer}

-- each text is some lines and a last part
pub record Cut (text : List ℕ) : Type 0 where
  pub ended : List (List ℕ)
  pub last : List ℕ
  pub cut : Lines text ended last

cut_more : (b : ℕ) (bs : List ℕ) (is_break : Bool) → (b == 10) ≡ is_break → Cut bs → Cut (b ∷ bs)
cut_more b bs true e c =
    let is : b ≡ 10 = eqb-true b 10 e in
    record {
      ended = [] ∷ c.ended;
      last = c.last;
      cut = record { whole = ap (λ x. x ∷ bs) is ∙ ap (λ xs. 10 ∷ xs) c.cut.whole; each = All-cons HasNoBreak [] c.ended refl c.cut.each; last_part = c.cut.last_part };
    }
cut_more b bs false e c = longer c.ended c.last c.cut
  where
    or_of : (p q : Bool) → p ≡ false → q ≡ false → (p || q) ≡ false
    or_of true q p' q' = cc
    or_of false q p' q' = q'

    quiet : (l : List ℕ) → HasNoBreak l → HasNoBreak (b ∷ l)
    quiet l h = or_of (b == 10) (list_any (λ x. x == 10) l) e h

    longer : (ended : List (List ℕ)) (last : List ℕ) → Lines bs ended last → Cut (b ∷ bs)
    longer [] last cut = record { ended = []; last = b ∷ last; cut = record { whole = ap (λ xs. b ∷ xs) cut.whole; each = All-nil HasNoBreak; last_part = quiet last cut.last_part } }
    longer (l ∷ ls) last cut =
        record {
          ended = (b ∷ l) ∷ ls;
          last = last;
          cut = record { whole = ap (λ xs. b ∷ xs) cut.whole; each = All-cons HasNoBreak (b ∷ l) ls (quiet l (All-head HasNoBreak l ls cut.each)) (All-tail HasNoBreak l ls cut.each); last_part = cut.last_part };
        }

pub cut_text : (text : List ℕ) → Cut text
cut_text [] = record { ended = []; last = []; cut = record { whole = refl; each = All-nil HasNoBreak; last_part = refl } }
cut_text (b ∷ bs) = cut_more b bs (b == 10) refl (cut_text bs)

with_last_append : (a e : List (List ℕ)) (l : List ℕ) → with_last (a ++ e) l ≡ a ++ with_last e l
with_last_append a e [] = refl
with_last_append a e (x ∷ xs) = append_assoc a e ((x ∷ xs) ∷ [])

lines_behind : (a e : List (List ℕ)) (l : List ℕ) (long : Bool) → (if long then a ++ e else with_last (a ++ e) l) ≡ a ++ (if long then e else with_last e l)
lines_behind a e l true = refl
lines_behind a e l false = with_last_append a e l

-- the lines of a front are the first of the script
pub record FirstLines (script : List ℕ) (lines : List (List ℕ)) : Type 0 where
  pub others : List (List ℕ)
  pub script_is : Script script (lines ++ others)

pub front_taken : (read rest : List ℕ) → length read ≤ script_limit → take script_limit (read ++ rest) ≡ read ++ take (script_limit - length read) rest
front_taken read rest le =
    let e : length read + (script_limit - length read) ≡ script_limit = omega arith in
    ap (λ n. take n (read ++ rest)) (sym e) ∙ take-append-add read rest (script_limit - length read)

pub first_lines : (script read rest : List ℕ) (lines : List (List ℕ)) → script ≡ read ++ rest → length read ≤ script_limit → Begins read lines → FirstLines script lines
first_lines script read rest lines parts le b =
    let b' = begins_longer read (take (script_limit - length read) rest) lines b in
    let c = cut_text b'.behind in
    let seen : take script_limit script ≡ read ++ take (script_limit - length read) rest = ap (take script_limit) parts ∙ front_taken read rest le in
    let long = nat_lt script_limit (length script) in
    record {
      others = if long then c.ended else with_last c.ended c.last;
      script_is = record {
        ended = lines ++ c.ended;
        last = c.last;
        cut = record {
          whole = seen ∙ b'.whole ∙ ap (λ xs. joined lines ++ xs) c.cut.whole ∙ sym (append_assoc (joined lines) (joined c.ended) c.last) ∙ ap (λ xs. xs ++ c.last) (sym (flat_map-append (λ l. l ++ 10 ∷ []) lines c.ended));
          each = All-append HasNoBreak lines c.ended b'.each c.cut.each;
          last_part = c.cut.last_part;
        };
        lines_are = sym (lines_behind lines c.ended c.last long);
      };
    }

not_longer : (n : ℕ) (xs : List ℕ) → length xs ≤ n → take n xs ≡ xs
not_longer zero [] le = refl
not_longer zero (x ∷ xs) le = absurd (omega arith)
not_longer (suc n) [] le = refl
not_longer (suc n) (x ∷ xs) le = let h : length xs ≤ n = omega arith in ap (λ ys. x ∷ ys) (not_longer n xs h)

-- a script within its limit
pub whole_script : (script : List ℕ) (ended : List (List ℕ)) (last : List ℕ) → length script ≤ script_limit → Lines script ended last → Script script (with_last ended last)
whole_script script ended last le cut =
    record {
      ended = ended;
      last = last;
      cut = subst (λ xs. Lines xs ended last) (sym (not_longer script_limit script le)) cut;
      lines_are = ap (λ b. if b then ended else with_last ended last) (sym (le-ltb _ _ le));
    }

-- a longer one, of which as much was read as it may have
pub long_script : (script read rest : List ℕ) (ended : List (List ℕ)) (last : List ℕ) → script ≡ read ++ rest → length read ≡ script_limit → script_limit < length script → Lines read ended last → Script script ended
long_script script read rest ended last parts is beyond cut =
    let none : take (script_limit - length read) rest ≡ [] = ap (λ n. take n rest) (zero_left is) in
    let seen : take script_limit script ≡ read = ap (take script_limit) parts ∙ front_taken read rest (omega arith) ∙ ap (λ xs. read ++ xs) none ∙ append_nil read in
    record {
      ended = ended;
      last = last;
      cut = subst (λ xs. Lines xs ended last) (sym seen) cut;
      lines_are = ap (λ b. if b then ended else with_last ended last) (sym (lt-ltb _ _ beyond));
    }
  where
    zero_left : length read ≡ script_limit → script_limit - length read ≡ 0
    zero_left e = omega arith
