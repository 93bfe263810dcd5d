-- The texts that are read are those that spell a line, and each spells the line that is read.
use Rattle.std.proofs.Common.{◌≡◌, ◌≢◌, ℕ, ◌+◌, ◌*◌, ◌<◌, ◌≤◌, ◌^◌, inl, inr, Bool, true, false, cond, List, [], ◌∷◌, ◌++◌, length, take, drop, get_or, refl, sym, ◌∙◌, ap, subst, arith, Option, Some, None, Result, Ok, Err, codes}
use Rattle.std.specs.Prelude.{IfOk, IsErrOf, MatchResult, position, not, nat_lt, ◌==◌}
use Rattle.std.specs.Option.{option_map}
use Rattle.std.specs.Result.{result_ok}
use Rattle.std.specs.List.{prefix_len}
use Rattle.std.specs.Str.{bytes_eq}
use Rattle.std.specs.Str.Parse.{AllDigits}
use Rattle.std.proofs.lemmas.Bool.{cases_Bool, eqb-false, eqb-true, ltb-false, lt-ltb, le-ltb}
use Rattle.std.proofs.Common.{append_assoc, add-one, drop-cons, length-append}
use Rattle.std.proofs.Math.Seq.{take-append_seam, drop-append-add}
use Rattle.std.proofs.lemmas.List.{take-append-drop}
use Rattle.std.proofs.lemmas.Str.Parse.{digit_from_value}
use Rattle.std.proofs.lemmas.Bool.Decides.{nat_tests}
use Rattle.std.proofs.lemmas.List.Quantifiers.{position-Some}
use Rattle.std.proofs.lemmas.Slice.Eq.{bytes_eq-Decides}
use Rattle.hex.specs.Hex.{decode_of}
use Rattle.hex.proofs.HexLemmas.{decode_of-ok}
use Rattle.transcript.specs.Hex.{SpellsBytes}
use Rattle.transcript.specs.Lines.{SpellsNumber, SpellsDone, Spells, most_verdict}
use Rattle.transcript.specs.Reading.{IsReadAs, number_of, bytes_of, word_of, rest_after, bare_of, verdict_of, done_of, line_of}
use Rattle.transcript.specs.declared.line.Line.{Line}
use Rattle.transcript.specs.declared.line.Line.TheVariants.{Client, Broker, ClientEnd, BrokerEnd, Send, Emit, Pick, Done, FaultClientRead, FaultClientWrite, FaultBrokerRead, FaultBrokerWrite, FaultAuthority}
use Rattle.transcript.specs.declared.line.LineFault.{LineFault}
use Rattle.transcript.specs.declared.line.LineFault.TheVariants.{BadLine, NoMemory}
use Rattle.transcript.proofs.NumberLemmas.{own, number_of-Some, number_of-digits}
use Rattle.transcript.proofs.Options.{chosen, option_map-Some, bind_Some, read_or-Some, result_ok-Some, rest_after-Some}

-- ---- bytes

bytes_of-Some : (word bytes : List ℕ) → bytes_of word ≡ Some bytes → SpellsBytes bytes word
unfolding bytes_of
bytes_of-Some word bytes read =
    elim (chosen (bytes_eq word (codes "-")) (Some []) (cond (length word == 0) None (result_ok (decode_of word))) (Some bytes) read) [
      | inl h ↦ inl (cc h.1, (bytes_eq-Decides word (codes "-")).0 h.0)
      | inr h ↦ elim (chosen (length word == 0) None (result_ok (decode_of word)) (Some bytes) h.1) [
        | inl k ↦ cc k.1
        | inr k ↦
            let decoded = result_ok-Some (decode_of word) bytes k.1 in
            let len : length word ≡ 2 * length bytes = (decode_of-ok word bytes decoded).2 in
            inr (λ none. eqb-false (length word) 0 k.0 (len ∙ ap (λ (b : List ℕ). 2 * length b) none), decoded)
      ]
    ]

last_of_three : {X : Type 0} (b c : Bool) (x y z : X) → b ≡ false → c ≡ false → cond b x (cond c y z) ≡ z
last_of_three true c x y z e f = cc
last_of_three false true x y z e f = cc
last_of_three false false x y z e f = refl

-- a single digit isn't decoded
dash_is_no_byte : (word bytes : List ℕ) → decode_of word ≡ Ok bytes → bytes_eq word (codes "-") ≡ false
dash_is_no_byte word bytes decoded =
    elim (cases_Bool (bytes_eq word (codes "-"))) [
      | inl dash ↦
          let len : length word ≡ 2 * length bytes = (decode_of-ok word bytes decoded).2 in
          let one : length word ≡ 1 = ap (λ (w : List ℕ). length w) ((bytes_eq-Decides word (codes "-")).0 dash) in
          absurd (omega arith)
      | inr other ↦ other
    ]

bytes_have_digits : (word bytes : List ℕ) → bytes ≢ [] → decode_of word ≡ Ok bytes → (length word == 0) ≡ false
bytes_have_digits word [] some decoded = absurd (some refl)
bytes_have_digits word (byte ∷ bytes) some decoded =
    let len : length word ≡ 2 * length (byte ∷ bytes) = (decode_of-ok word (byte ∷ bytes) decoded).2 in grind (arith, nat_tests)

bytes_of-spelled : (word bytes : List ℕ) → SpellsBytes bytes word → bytes_of word ≡ Some bytes
unfolding bytes_of
bytes_of-spelled word bytes (inl h) = rw h.1 (ap (λ (b : List ℕ). Some b) (sym h.0))
bytes_of-spelled word bytes (inr h) =
    last_of_three (bytes_eq word (codes "-")) (length word == 0) (Some []) None (result_ok (decode_of word)) (dash_is_no_byte word bytes h.1) (bytes_have_digits word bytes h.0 h.1)
    ∙ ap result_ok h.1

-- ---- numbers

number_is : (limit n : ℕ) (word : List ℕ) → number_of limit word ≡ Some n → SpellsNumber limit n word
number_is limit n word read =
    let facts = number_of-Some limit n word read in
    record { digits = (facts.1, own.to word facts.0); few = facts.2; value = facts.4; below = subst (λ m. m < limit) facts.4 facts.3 }

number_again : (limit n : ℕ) (word : List ℕ) → SpellsNumber limit n word → number_of limit word ≡ Some n
number_again limit n word spelled =
    number_of-digits limit word (own.from word spelled.digits.1) spelled.digits.0 spelled.few (subst (λ m. m < limit) (sym spelled.value) spelled.below)
    ∙ ap (λ (m : ℕ). Some m) spelled.value

-- ---- words

word_is : (text first rest : List ℕ) → word_of text ≡ Some (first, rest) → text ≡ first ++ 32 ∷ rest
unfolding word_of
word_is text first rest read =
    let found = option_map-Some (λ (i : ℕ). (take i text, drop (i + 1) text)) (position (λ c. c == 32) text) (first, rest) read in
    let at = position-Some (λ c. c == 32) text found.0 0 found.1 in
    let lt : found.0 < length text = at.0 in
    let space : get_or text found.0 0 ≡ 32 = eqb-true (get_or text found.0 0) 32 at.1 in
    let front : take found.0 text ≡ first = ap (λ (p : List ℕ × List ℕ). p.0) found.2 in
    let back : drop (found.0 + 1) text ≡ rest = ap (λ (p : List ℕ × List ℕ). p.1) found.2 in
    sym (take-append-drop found.0 text) ∙ ap (λ s. take found.0 text ++ s) (drop-cons text found.0 0 lt ∙ ap (λ n. get_or text found.0 0 ∷ drop n text) (sym (add-one found.0)))
    ∙ ap (λ s. s ++ get_or text found.0 0 ∷ drop (found.0 + 1) text) front ∙ ap (λ c. first ++ c ∷ drop (found.0 + 1) text) space ∙ ap (λ s. first ++ 32 ∷ s) back

digits_run : (first rest : List ℕ) → AllDigits 10 first → prefix_len (λ c. not (c == 32)) (first ++ 32 ∷ rest) ≡ length first
digits_run [] rest digits = refl
digits_run (c ∷ cs) rest digits =
    let range = digit_from_value c digits.0 in
    let other : (c == 32) ≡ false = grind (arith, nat_tests) in
    rw other (rw (digits_run cs rest digits.1) (omega arith))

word_again : (first rest : List ℕ) → AllDigits 10 first → word_of (first ++ 32 ∷ rest) ≡ Some (first, rest)
unfolding word_of
word_again first rest digits =
    let run = digits_run first rest digits in
    let lt : length first < length (first ++ 32 ∷ rest) = omega (arith, length-append first (32 ∷ rest)) in
    let found : position (λ c. c == 32) (first ++ 32 ∷ rest) ≡ Some (length first) = rw run (rw (lt-ltb (length first) (length (first ++ 32 ∷ rest)) lt) refl) in
    rw found (cc (take-append_seam first (32 ∷ rest), drop-append-add first (32 ∷ rest) 1))

-- ---- lines without bytes and numbers

no_line : (line : Line) → None ≡ Some line → ⊥
no_line line e = cc

-- a text that is compared with a word is that word, or what the others make of it
word_or : (word text : List ℕ) (named : Line) (others : Option Line) (line : Line) → Spells named word
    → (others ≡ Some line → Spells line text) → cond (bytes_eq text word) (Some named) others ≡ Some line → Spells line text
word_or word text named others line spelled go read =
    elim (chosen (bytes_eq text word) (Some named) others (Some line) read) [
      | inl h ↦
          let same : text ≡ word = (bytes_eq-Decides text word).0 h.0 in
          let is_named : named ≡ line = cc h.1 in
          subst (λ l. Spells l text) is_named (subst (λ t. Spells named t) (sym same) spelled)
      | inr h ↦ go h.1
    ]

bare_of-Some : (text : List ℕ) (line : Line) → bare_of text ≡ Some line → Spells line text
unfolding bare_of
bare_of-Some text line =
    word_or (codes "client-end") text ClientEnd _ line refl (
    word_or (codes "broker-end") text BrokerEnd _ line refl (
    word_or (codes "send") text Send _ line refl (
    word_or (codes "emit") text Emit _ line refl (
    word_or (codes "pick") text Pick _ line refl (
    word_or (codes "fault client-read") text FaultClientRead _ line refl (
    word_or (codes "fault client-write") text FaultClientWrite _ line refl (
    word_or (codes "fault broker-read") text FaultBrokerRead _ line refl (
    word_or (codes "fault broker-write") text FaultBrokerWrite _ line refl (λ e. absurd (no_line line e))))))))))

-- ---- done

verdict_is : (word verdict : List ℕ) → verdict_of word ≡ Some verdict → SpellsBytes verdict word × (length verdict ≤ most_verdict)
unfolding verdict_of
verdict_is word verdict read =
    elim (chosen (nat_lt (2 * most_verdict) (length word)) None (bytes_of word) (Some verdict) read) [
      | inl h ↦ cc h.1
      | inr h ↦
          let spelled = bytes_of-Some word verdict h.1 in
          let few : length word ≤ 2 * most_verdict = ltb-false (2 * most_verdict) (length word) h.0 in (
            spelled,
            elim spelled [
              | inl dash ↦ let none : length verdict ≡ 0 = ap (λ (b : List ℕ). length b) dash.0 in omega arith
              | inr digits ↦ let len : length word ≡ 2 * length verdict = (decode_of-ok word verdict digits.1).2 in omega arith
            ],
          )
    ]

verdict_again : (word verdict : List ℕ) → SpellsBytes verdict word → length verdict ≤ most_verdict → verdict_of word ≡ Some verdict
unfolding verdict_of
verdict_again word verdict spelled few =
    let short : length word ≤ 2 * most_verdict =
    elim spelled [
      | inl dash ↦ let one : length word ≡ 1 = ap (λ (w : List ℕ). length w) dash.1 in omega arith
      | inr digits ↦ let len : length word ≡ 2 * length verdict = (decode_of-ok word verdict digits.1).2 in omega arith
    ] in
    rw (le-ltb (2 * most_verdict) (length word) short) (bytes_of-spelled word verdict spelled)

spaced : (first second third : List ℕ) → first ++ codes " " ++ second ++ codes " " ++ third ≡ first ++ 32 ∷ (second ++ 32 ∷ third)
spaced first second third = simp append_assoc

done_is : (text : List ℕ) (line : Line) → done_of text ≡ Some line
    → (request : ℕ) × (index : ℕ) × (verdict : List ℕ) × (line ≡ Done request index verdict) × SpellsDone request index verdict text
unfolding done_of
done_is text line read =
    let a = bind_Some (word_of text) _ line read in
    let b = bind_Some (word_of a.0.1) _ line a.2 in
    let k = bind_Some (number_of (2 ^ 64) a.0.0) _ line b.2 in
    let i = bind_Some (number_of (2 ^ 32) b.0.0) _ line k.2 in
    let v = bind_Some (verdict_of b.0.1) _ line i.2 in
    let verdict = verdict_is b.0.1 v.0 v.1 in (
      k.0,
      i.0,
      v.0,
      cc v.2,
      record {
        first = a.0.0;
        second = b.0.0;
        third = b.0.1;
        words = word_is text a.0.0 a.0.1 a.1 ∙ ap (λ s. a.0.0 ++ 32 ∷ s) (word_is a.0.1 b.0.0 b.0.1 b.1) ∙ sym (spaced a.0.0 b.0.0 b.0.1);
        request_is = number_is (2 ^ 64) k.0 a.0.0 k.1;
        index_is = number_is (2 ^ 32) i.0 b.0.0 i.1;
        verdict_is = verdict.0;
        within = verdict.1;
      },
    )

done_again : (request index : ℕ) (verdict text : List ℕ) → SpellsDone request index verdict text → done_of text ≡ Some (Done request index verdict)
unfolding done_of
done_again request index verdict text spelled =
    let first = spelled.first in
    let second = spelled.second in
    let third = spelled.third in
    let text_is : text ≡ first ++ 32 ∷ (second ++ 32 ∷ third) = spelled.words ∙ spaced first second third in
    rw text_is (rw (word_again first (second ++ 32 ∷ third) spelled.request_is.digits.1) (rw (word_again second third spelled.index_is.digits.1)
    (rw (number_again (2 ^ 64) request first spelled.request_is) (rw (number_again (2 ^ 32) index second spelled.index_is)
    (rw (verdict_again third verdict spelled.verdict_is spelled.within) refl)))))

-- ---- all lines

line_is : (text : List ℕ) (line : Line) → line_of text ≡ Some line → Spells line text
unfolding line_of
line_is text line read =
    elim (read_or-Some (bare_of text) _ _ line read) [
      | inl h ↦ let e : h.0 ≡ line = cc h.2 in subst (λ l. Spells l text) e (bare_of-Some text h.0 h.1)
      | inr client ↦ elim (read_or-Some (rest_after (codes "client ") text) _ _ line client) [
        | inl h ↦
            let b = option_map-Some Client (bytes_of h.0) line h.2 in
            subst (λ l. Spells l text) b.2 (h.0, rest_after-Some (codes "client ") text h.0 h.1, bytes_of-Some h.0 b.0 b.1)
        | inr broker ↦ elim (read_or-Some (rest_after (codes "broker ") text) _ _ line broker) [
          | inl h ↦
              let b = option_map-Some Broker (bytes_of h.0) line h.2 in
              subst (λ l. Spells l text) b.2 (h.0, rest_after-Some (codes "broker ") text h.0 h.1, bytes_of-Some h.0 b.0 b.1)
          | inr done ↦ elim (read_or-Some (rest_after (codes "done ") text) _ _ line done) [
            | inl h ↦
                let d = done_is h.0 line h.2 in
                subst (λ l. Spells l text) (sym d.3) (h.0, rest_after-Some (codes "done ") text h.0 h.1, d.4)
            | inr authority ↦ elim (read_or-Some (rest_after (codes "fault authority ") text) _ _ line authority) [
              | inl h ↦
                  let b = option_map-Some FaultAuthority (number_of (2 ^ 64) h.0) line h.2 in
                  subst (λ l. Spells l text) b.2 (h.0, rest_after-Some (codes "fault authority ") text h.0 h.1, number_is (2 ^ 64) b.0 h.0 b.1)
              | inr none ↦ absurd (no_line line none)
            ]
          ]
        ]
      ]
    ]

pub line_again : (line : Line) (text : List ℕ) → Spells line text → line_of text ≡ Some line
unfolding line_of bare_of
line_again (Client bytes) text h = rw h.1 (ap (option_map Client) (bytes_of-spelled h.0 bytes h.2))
line_again (Broker bytes) text h = rw h.1 (ap (option_map Broker) (bytes_of-spelled h.0 bytes h.2))
line_again ClientEnd text h = rw h refl
line_again BrokerEnd text h = rw h refl
line_again Send text h = rw h refl
line_again Emit text h = rw h refl
line_again Pick text h = rw h refl
line_again (Done request index verdict) text h = rw h.1 (done_again request index verdict h.0 h.2)
line_again FaultClientRead text h = rw h refl
line_again FaultClientWrite text h = rw h refl
line_again FaultBrokerRead text h = rw h refl
line_again FaultBrokerWrite text h = rw h refl
line_again (FaultAuthority request) text h = rw h.1 (ap (option_map FaultAuthority) (number_again (2 ^ 64) request h.0 h.2))

pub read_found : (result : Result Line LineFault) (text : List ℕ) → IsReadAs result (line_of text) → IfOk result (λ line. Spells line text)
read_found (Ok line) text read = line_is text line read
read_found (Err fault) text read = tt

pub read_spelled : (result : Result Line LineFault) (text : List ℕ) → IsReadAs result (line_of text) → (spelled : Line) → Spells spelled text
    → MatchResult result (λ found. found ≡ spelled) (λ fault. fault ≡ NoMemory)
read_spelled (Ok line) text read spelled spells = let again = line_again spelled text spells in cc
read_spelled (Err NoMemory) text read spelled spells = refl
read_spelled (Err BadLine) text read spelled spells = cc (line_again spelled text spells)

pub read_bad : (result : Result Line LineFault) (text : List ℕ) → IsReadAs result (line_of text) → IsErrOf result BadLine → (other : Line) → Spells other text → ⊥
read_bad (Ok line) text read bad other spells = cc
read_bad (Err NoMemory) text read bad other spells = cc
read_bad (Err BadLine) text read bad other spells = cc (line_again other text spells)
