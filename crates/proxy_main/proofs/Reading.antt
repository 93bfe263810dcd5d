-- How a replay goes on: a piece without a break, a line that ends, and the last line.
use Rattle.std.proofs.Common.{◌≡◌, ℕ, ◌+◌, ◌≤◌, List, [], ◌∷◌, ◌++◌, length, take, ◌⊎◌, inl, inr, sym, ◌∙◌, ap, subst, arith, append_assoc, length-append}
use Rattle.proxy_main.specs.Scripts.{as_text, HasNoBreak, Lines, IsBad, line_limit}
use Rattle.proxy_main.specs.Progress.{Begins, IsAt, HasAnswered, HasRead, AnswersLine, Advances, EndsLine, EndsBadly, Stumbles, Finishes, FinishesBadly}
use Rattle.proxy_main.specs.declared.replay.Replay.{Replay}
use Rattle.proxy_main.proofs.Lists.{append_nil}
use Rattle.proxy_main.proofs.LineCuts.{lines_longer, lines_ended, begins, begins_longer, kept_whole, bad_kept, nothing_kept, clipped_again, length_clipped, with_last_is}
use Rattle.conn_rules.specs.Meaning.{Meaning}
use Rattle.conn_rules.specs.State.{State}

-- a replay of which only what is kept of a line differs
pub record Alike {C L : Type 0} (old new : Replay C L) : Type 0 where
  pub station : new.station ≡ old.station
  pub answers : new.answers ≡ old.answers
  pub lines : new.lines ≡ old.lines
  pub steps : new.steps ≡ old.steps

-- a line as it came, or as much of it as is kept
abbrev pub IsKept : List ℕ → List ℕ → Type 0
IsKept t whole = (t ≡ whole) ⊎ (t ≡ take (line_limit + 1) whole)

whole_line : (t whole : List ℕ) → IsKept t whole → length t ≤ line_limit → t ≡ whole
whole_line t whole (inl e) le = e
whole_line t whole (inr e) le = e ∙ kept_whole line_limit whole (subst (λ x. length x ≤ line_limit) e le)

bad_line : (t whole : List ℕ) → IsKept t whole → IsBad t → IsBad whole
bad_line t whole (inl e) bad = subst IsBad e bad
bad_line t whole (inr e) bad = bad_kept whole (subst IsBad e bad)

module _ {C L : Type 0} (meaning : C → Meaning) (stands : C → State → Type 0) where
  stands_alike : (M : Meaning) (begun : ℕ) (old new : Replay C L) (lines : List (List ℕ)) (text : List ℕ) → Alike old new → HasAnswered meaning stands M begun old lines text → HasAnswered meaning stands M begun new lines text
  stands_alike M begun old new lines text alike st =
      record { lasting = st.lasting; answered = st.answered; is_at = subst (λ x. IsAt meaning stands M x st.answered.last) (sym alike.station) st.is_at; count = alike.lines ∙ st.count; counted = alike.steps ∙ st.counted }

  -- what the line is that ends with a piece
  abbrev pub TellsLine : Replay C L → List ℕ → List ℕ → Type 0
  TellsLine old t piece = (M : Meaning) (begun : ℕ) (read text : List ℕ) (r : HasRead meaning stands M begun old read text) → IsKept t (r.last ++ piece)

  pub ends : (old between new : Replay C L) (t piece : List ℕ) → Alike old between → TellsLine old t piece → AnswersLine meaning stands between t new → length t ≤ line_limit → new.partial.items ≡ [] → EndsLine meaning stands old piece new
  ends old between new t piece alike tells answers le empty quiet M begun read text r =
      let a = answers M begun r.ended text (stands_alike M begun old between r.ended text alike r.answered) in
      let is : t ≡ r.last ++ piece = whole_line t (r.last ++ piece) (tells M begun read text r) le in (
        a.0,
        record {
          ended = r.ended ++ (r.last ++ piece) ∷ [];
          last = [];
          cut = lines_ended read r.ended r.last piece r.cut quiet;
          answered = subst (λ l. HasAnswered meaning stands M begun new (r.ended ++ l ∷ []) (text ++ a.0)) is a.1;
          partial = empty;
        },
        a.2 ∙ ap (λ xs. xs ++ a.0) alike.answers,
      )

  pub ends_badly : (old between new : Replay C L) (t piece : List ℕ) → Alike old between → TellsLine old t piece → new ≡ between → IsBad t → EndsBadly meaning stands old piece new
  ends_badly old between new t piece alike tells same bad quiet M begun read text r =
      record {
        lines = r.ended;
        bad = r.last ++ piece;
        not_ended = omega (arith, ap length r.cut.whole, length-append (as_text r.ended) r.last, length-append r.last piece);
        begins = begins _ _ _ (lines_ended read r.ended r.last piece r.cut quiet);
        is_bad = bad_line t (r.last ++ piece) (tells M begun read text r) bad;
        answered = subst (λ x. HasAnswered meaning stands M begun x r.ended text) (sym same) (stands_alike M begun old between r.ended text alike r.answered);
      }

  -- nothing was kept, so that the line is the piece
  pub tells_new : (old : Replay C L) (piece : List ℕ) → old.partial.items ≡ [] → TellsLine old piece piece
  tells_new old piece empty M begun read text r =
      let none : r.last ≡ [] = nothing_kept (line_limit + 1) r.last (omega arith) (sym r.partial ∙ empty) in
      inl (ap (λ xs. xs ++ piece) (sym none))

  -- the piece was put behind what was kept
  pub tells_kept : (old : Replay C L) (t piece kept : List ℕ) → (length old.partial.items ≤ line_limit + 1 → kept ≡ take (line_limit + 1) (old.partial.items ++ piece)) → t ≡ kept → TellsLine old t piece
  tells_kept old t piece kept keeps is M begun read text r =
      let le : length old.partial.items ≤ line_limit + 1 = subst (λ xs. length xs ≤ line_limit + 1) (sym r.partial) (length_clipped (line_limit + 1) r.last) in
      inr (is ∙ keeps le ∙ ap (λ xs. take (line_limit + 1) (xs ++ piece)) r.partial ∙ clipped_again (line_limit + 1) r.last piece)

  -- a piece without a break
  pub goes_on : (old new : Replay C L) (piece kept : List ℕ) → Alike old new → new.partial.items ≡ kept → (length old.partial.items ≤ line_limit + 1 → kept ≡ take (line_limit + 1) (old.partial.items ++ piece)) → HasNoBreak piece → Advances meaning stands old piece new
  goes_on old new piece kept alike is keeps quiet M begun read text r =
      let le : length old.partial.items ≤ line_limit + 1 = subst (λ xs. length xs ≤ line_limit + 1) (sym r.partial) (length_clipped (line_limit + 1) r.last) in (
        [],
        record {
          ended = r.ended;
          last = r.last ++ piece;
          cut = lines_longer read r.ended r.last piece r.cut quiet;
          answered = subst (λ xs. HasAnswered meaning stands M begun new r.ended xs) (sym (append_nil text)) (stands_alike M begun old new r.ended text alike r.answered);
          partial = is ∙ keeps le ∙ ap (λ xs. take (line_limit + 1) (xs ++ piece)) r.partial ∙ clipped_again (line_limit + 1) r.last piece;
        },
        alike.answers ∙ sym (append_nil old.answers),
      )

  -- the last line
  pub finishes_empty : (old : Replay C L) → old.partial.items ≡ [] → Finishes meaning stands old old
  finishes_empty old empty M begun read text r =
      let none : r.last ≡ [] = nothing_kept (line_limit + 1) r.last (omega arith) (sym r.partial ∙ empty) in
      record {
        ended = r.ended;
        last = [];
        cut = subst (λ l. Lines read r.ended l) none r.cut;
        more = [];
        answered = subst (λ xs. HasAnswered meaning stands M begun old r.ended xs) (sym (append_nil text)) r.answered;
        pending = sym (append_nil old.answers);
      }

  not_empty : (M : Meaning) (begun : ℕ) (old : Replay C L) (read text : List ℕ) (r : HasRead meaning stands M begun old read text) → (old.partial.items ≡ [] → ⊥) → r.last ≡ [] → ⊥
  not_empty M begun old read text r full none = full (r.partial ∙ ap (take (line_limit + 1)) none)

  pub finishes : (old between new : Replay C L) (t : List ℕ) → Alike old between → t ≡ old.partial.items → (old.partial.items ≡ [] → ⊥) → AnswersLine meaning stands between t new → length t ≤ line_limit → Finishes meaning stands old new
  finishes old between new t alike is full answers le M begun read text r =
      let a = answers M begun r.ended text (stands_alike M begun old between r.ended text alike r.answered) in
      let whole : t ≡ r.last = whole_line t r.last (inr (is ∙ r.partial)) le in
      record {
        ended = r.ended;
        last = r.last;
        cut = r.cut;
        more = a.0;
        answered = subst (λ ls. HasAnswered meaning stands M begun new ls (text ++ a.0)) (sym (with_last_is r.ended r.last (not_empty M begun old read text r full))) (subst (λ l. HasAnswered meaning stands M begun new (r.ended ++ l ∷ []) (text ++ a.0)) whole a.1);
        pending = a.2 ∙ ap (λ xs. xs ++ a.0) alike.answers;
      }

  pub finishes_badly : (old between new : Replay C L) (t : List ℕ) → Alike old between → t ≡ old.partial.items → (old.partial.items ≡ [] → ⊥) → new ≡ between → IsBad t → FinishesBadly meaning stands old new
  finishes_badly old between new t alike is full same bad M begun read text r =
      record {
        ended = r.ended;
        last = r.last;
        cut = r.cut;
        bad = with_last_is r.ended r.last (not_empty M begun old read text r full);
        is_bad = bad_line t r.last (inr (is ∙ r.partial)) bad;
        answered = subst (λ x. HasAnswered meaning stands M begun x r.ended text) (sym same) (stands_alike M begun old between r.ended text alike r.answered);
      }

  -- a line that is no line ends in a longer piece
  pub stumbles_at : (old new : Replay C L) (piece behind : List ℕ) → EndsBadly meaning stands old piece new → HasNoBreak piece → Stumbles meaning stands old ((piece ++ 10 ∷ []) ++ behind) new
  stumbles_at old new piece behind bad quiet M begun read text r =
      let s = bad quiet M begun read text r in
      record {
        lines = s.lines;
        bad = s.bad;
        not_ended = s.not_ended;
        begins = subst (λ xs. Begins xs (s.lines ++ s.bad ∷ [])) (append_assoc read (piece ++ 10 ∷ []) behind) (begins_longer (read ++ (piece ++ 10 ∷ [])) behind (s.lines ++ s.bad ∷ []) s.begins);
        is_bad = s.is_bad;
        answered = s.answered;
      }
