-- What is written in the end, by the status.
use Rattle.std.proofs.Common.{◌≡◌, ℕ, ◌+◌, List, [], ◌∷◌, ◌++◌, Option, Result, Ok, Err, inl, inr, sym, ◌∙◌, ap, subst, refl, append_assoc}
use Rattle.proxy_main.specs.Output.{Appends, AppendsFront}
use Rattle.proxy_main.specs.Scripts.{Script, piece_limit, bad_line_text, too_long_text}
use Rattle.proxy_main.specs.Replayed.{Whole, Front, BadLine, TooLong, IsTextOf, Replays}
use Rattle.proxy_main.specs.Written.{Waiting, EndsWhole, EndsAtLine, EndsTooLong, EndsEarly, Refuses, WritesOut, Concluded, Concludes}
use Rattle.proxy_main.specs.declared.replay.Replay.{Replay}
use Rattle.proxy_main.specs.declared.stop.Stop.{Stop}
use Rattle.proxy_main.specs.declared.stop.Stop.TheVariants as stop
use Rattle.proxy_main.specs.declared.status.Status.{Status}
use Rattle.proxy_main.specs.declared.status.Status.TheVariants as status
use Rattle.proxy_main.proofs.Lists.{append_nil}
use Rattle.proxy_main.proofs.Going.{appends_then}
use Rattle.conn_rules.specs.Meaning.{Meaning}

-- all that waited, and more behind it, was written
all_written : (M : Meaning) (lines : List (List ℕ)) (waits more put : List ℕ) (first now after : Option (List ℕ)) (w : Waiting M lines waits first now) → put ≡ waits ++ more → Appends now put after → Appends first (w.text ++ more) after
all_written M lines waits more put first now after w is appends =
    let whole : w.written ++ put ≡ w.text ++ more = ap (λ xs. w.written ++ xs) is ∙ sym (append_assoc w.written waits more) ∙ ap (λ xs. xs ++ more) (sym w.parts) in
    subst (λ xs. Appends first xs after) whole (appends_then first now after w.written put w.appends appends)

-- a front of it was
pub record Partly (text : List ℕ) (first after : Option (List ℕ)) : Type 0 where
  pub written : List ℕ
  pub missing : List ℕ
  pub front : text ≡ written ++ missing
  pub appends : Appends first written after

partly_written : (M : Meaning) (lines : List (List ℕ)) (waits more put : List ℕ) (first now after : Option (List ℕ)) (w : Waiting M lines waits first now) → put ≡ waits ++ more → AppendsFront now put after → Partly (w.text ++ more) first after
partly_written M lines waits more put first now after w is f =
    record {
      written = w.written ++ f.front;
      missing = f.missing;
      front = ap (λ xs. xs ++ more) w.parts ∙ append_assoc w.written waits more ∙ ap (λ xs. w.written ++ xs) (sym is ∙ f.parts) ∙ sym (append_assoc w.written f.front f.missing);
      appends = appends_then first now after w.written f.front w.appends f.appends;
    }

-- the text is written with its status, or a front of it with that of a write that failed
concluded : (M : Meaning) (begun count : ℕ) (script text : List ℕ) (lines : List (List ℕ)) (waits more put : List ℕ) (left first now after : Option (List ℕ)) (s result : Status) (w : Waiting M lines waits first now) → put ≡ waits ++ more → w.text ++ more ≡ text → Replays M script left text begun count s → IsTextOf M script left text begun count → WritesOut put s now after result → Concluded M script left first after begun count result
concluded M begun count script text lines waits more put left first now after s result w is text_is replays text_of (inl done) =
    record {
      written = text;
      appends = subst (λ xs. Appends first xs after) text_is (all_written M lines waits more put first now after w is done.1);
      replays = subst (Replays M script left text begun count) (sym done.0) replays;
    }
concluded M begun count script text lines waits more put left first now after s result w is text_is replays text_of (inr failed) =
    let p = partly_written M lines waits more put first now after w is failed.1 in
    record {
      written = p.written;
      appends = p.appends;
      replays = subst (Replays M script left p.written begun count) (sym failed.0) (record { text = text; missing = p.missing; text_of = text_of; front = sym text_is ∙ p.front });
    }

nothing_more : (xs : List ℕ) → xs ≡ xs ++ []
nothing_more xs = sym (append_nil xs)

whole_of : {C L : Type 0} (M : Meaning) (begun : ℕ) (script : List ℕ) (x : Replay C L) (left first now : Option (List ℕ)) (e : EndsWhole M begun script x left first now) → Whole M script e.waiting.text begun x.steps
whole_of M begun script x left first now e = record { lines = e.lines; script_is = e.script_is; within = e.within; answered = e.waiting.answered; counted = e.counted }

-- a script that was answered whole is a front of itself
front_of_whole : {C L : Type 0} (M : Meaning) (begun : ℕ) (script : List ℕ) (x : Replay C L) (left first now : Option (List ℕ)) (e : EndsWhole M begun script x left first now) → Front M script e.waiting.text
front_of_whole M begun script x left first now e = record { lines = e.lines; others = []; script_is = subst (Script script) (no_lines_more e.lines) e.script_is; answered = e.waiting.answered }
  where
    no_lines_more : (xs : List (List ℕ)) → xs ≡ xs ++ []
    no_lines_more [] = refl
    no_lines_more (x ∷ xs) = ap (λ ys. x ∷ ys) (no_lines_more xs)

pub concludes_whole : {C L : Type 0} (x : Replay C L) (before after : Option (List ℕ)) (result : Status) → WritesOut x.answers status.Done before after result → Concludes x (Ok tt) before after result
concludes_whole x before after result wrote M begun script left first e =
    concluded M begun x.steps script e.waiting.text e.lines x.answers [] x.answers left first before after status.Done result e.waiting (nothing_more x.answers) (append_nil e.waiting.text) (whole_of M begun script x left first before e) (inl (front_of_whole M begun script x left first before e)) wrote

abbrev front_of_early : (M : Meaning) (script waits : List ℕ) (first now : Option (List ℕ)) (e : EndsEarly M script waits first now) → Front M script e.waiting.text
front_of_early M script waits first now e = record { lines = e.lines; others = e.others; script_is = e.script_is; answered = e.waiting.answered }

pub concludes_memory : {C L : Type 0} (x : Replay C L) (before after : Option (List ℕ)) (result : Status) → WritesOut x.answers status.NoMemory before after result → Concludes x (Err stop.NoMemory) before after result
concludes_memory x before after result wrote M begun script left first e =
    concluded M begun x.steps script e.waiting.text e.lines x.answers [] x.answers left first before after status.NoMemory result e.waiting (nothing_more x.answers) (append_nil e.waiting.text) (front_of_early M script x.answers first before e) (inl (front_of_early M script x.answers first before e)) wrote

pub concludes_input : {C L : Type 0} (x : Replay C L) (before : Option (List ℕ)) → Concludes x (Err stop.Input) before before status.InputFault
concludes_input x before M begun script left first e =
    let early = e.early in
    record {
      written = early.waiting.text;
      appends = subst (λ xs. Appends first xs before) (sym (early.waiting.parts ∙ append_nil early.waiting.written)) early.waiting.appends;
      replays = record { front = front_of_early M script [] first before early; counted = e.counted };
    }

pub concludes_output : {C L : Type 0} (x : Replay C L) (before : Option (List ℕ)) → Concludes x (Err stop.Output) before before status.OutputFault
concludes_output x before M begun script left first e =
    let early = e.1 in
    record {
      written = early.waiting.written;
      appends = early.waiting.appends;
      replays = record { text = early.waiting.text; missing = e.0; text_of = inl (front_of_early M script e.0 first before early); front = early.waiting.parts };
    }

-- a line that says nothing
bad_line_of : {C L : Type 0} (M : Meaning) (begun : ℕ) (script : List ℕ) (x : Replay C L) (left first now : Option (List ℕ)) (e : EndsAtLine M begun piece_limit script x left first now) → BadLine M script left (e.waiting.text ++ bad_line_text (x.lines + 1)) begun x.steps
bad_line_of M begun script x left first now e =
    record {
      lines = e.lines;
      bad = e.bad;
      others = e.others;
      script_is = e.script_is;
      is_bad = e.is_bad;
      so_far = e.so_far;
      not_ended = e.not_ended;
      answers = e.waiting.text;
      answered = e.waiting.answered;
      counted = e.counted;
      text_is = ap (λ n. e.waiting.text ++ bad_line_text (n + 1)) e.count;
    }

front_at_line : {C L : Type 0} (M : Meaning) (begun : ℕ) (script : List ℕ) (x : Replay C L) (left first now : Option (List ℕ)) (e : EndsAtLine M begun piece_limit script x left first now) → Front M script e.waiting.text
front_at_line M begun script x left first now e = record { lines = e.lines; others = e.bad ∷ e.others; script_is = e.script_is; answered = e.waiting.answered }

pub concludes_line : {C L : Type 0} (x : Replay C L) (put : List ℕ) (before after : Option (List ℕ)) (s result : Status) → Refuses x.answers (bad_line_text (x.lines + 1)) put s → WritesOut put s before after result → Concludes x (Err stop.BadLine) before after result
concludes_line x put before after s result (inl refused) wrote M begun script left first e =
    let b = bad_line_of M begun script x left first before e in
    concluded M begun x.steps script (e.waiting.text ++ bad_line_text (x.lines + 1)) e.lines x.answers (bad_line_text (x.lines + 1)) put left first before after status.Refused result e.waiting refused.1 refl (inl b) (inr (inl b)) (subst (λ t. WritesOut put t before after result) refused.0 wrote)
concludes_line x put before after s result (inr memory) wrote M begun script left first e =
    let f = front_at_line M begun script x left first before e in
    concluded M begun x.steps script e.waiting.text e.lines x.answers [] put left first before after status.NoMemory result e.waiting (memory.1 ∙ nothing_more x.answers) (append_nil e.waiting.text) f (inl f) (subst (λ t. WritesOut put t before after result) memory.0 wrote)

-- a script that is too long
too_long_of : {C L : Type 0} (M : Meaning) (begun : ℕ) (script : List ℕ) (x : Replay C L) (first now : Option (List ℕ)) (e : EndsTooLong M begun script x first now) → TooLong M script (e.waiting.text ++ too_long_text) begun x.steps
too_long_of M begun script x first now e = record { lines = e.lines; script_is = e.script_is; beyond = e.beyond; answers = e.waiting.text; answered = e.waiting.answered; counted = e.counted; text_is = refl }

front_too_long : {C L : Type 0} (M : Meaning) (begun : ℕ) (script : List ℕ) (x : Replay C L) (first now : Option (List ℕ)) (e : EndsTooLong M begun script x first now) → Front M script e.waiting.text
front_too_long M begun script x first now e = record { lines = e.lines; others = []; script_is = subst (Script script) (no_lines_more e.lines) e.script_is; answered = e.waiting.answered }
  where
    no_lines_more : (xs : List (List ℕ)) → xs ≡ xs ++ []
    no_lines_more [] = refl
    no_lines_more (x ∷ xs) = ap (λ ys. x ∷ ys) (no_lines_more xs)

pub concludes_too_long : {C L : Type 0} (x : Replay C L) (put : List ℕ) (before after : Option (List ℕ)) (s result : Status) → Refuses x.answers too_long_text put s → WritesOut put s before after result → Concludes x (Err stop.TooLong) before after result
concludes_too_long x put before after s result (inl refused) wrote M begun script left first e =
    let b = too_long_of M begun script x first before e in
    concluded M begun x.steps script (e.waiting.text ++ too_long_text) e.lines x.answers too_long_text put left first before after status.Refused result e.waiting refused.1 refl (inr b) (inr (inr b)) (subst (λ t. WritesOut put t before after result) refused.0 wrote)
concludes_too_long x put before after s result (inr memory) wrote M begun script left first e =
    let f = front_too_long M begun script x first before e in
    concluded M begun x.steps script e.waiting.text e.lines x.answers [] put left first before after status.NoMemory result e.waiting (memory.1 ∙ nothing_more x.answers) (append_nil e.waiting.text) f (inl f) (subst (λ t. WritesOut put t before after result) memory.0 wrote)

-- it is the same where what was read is known by name
pub concludes_of : {C L : Type 0} (x : Replay C L) (read made : Result (Unit {0}) Stop) (before after : Option (List ℕ)) (result : Status) → read ≡ made → Concludes x made before after result → Concludes x read before after result
concludes_of x read made before after result is concludes = subst (λ r. Concludes x r before after result) (sym is) concludes
