-- How a replay goes on while its answers are written, and how it stops.
use Rattle.std.proofs.Common.{◌≡◌, ℕ, zero, suc, ◌+◌, ◌-◌, ◌<◌, ◌≤◌, List, [], ◌∷◌, ◌++◌, length, take, drop, Option, Some, Err, sym, ◌∙◌, ap, subst, refl, arith, append_assoc, length-append}
use Rattle.std.proofs.lemmas.List.{take-append-drop, length-take}
use Rattle.kp_edge.specs.Source.{ComesNext}
use Rattle.proxy_main.specs.Scripts.{Lines, Script, ReadSoFar, as_text, with_last, script_limit}
use Rattle.proxy_main.proofs.Scripting.{first_lines, long_script, whole_script}
use Rattle.proxy_main.specs.Output.{Appends, AppendsFront}
use Rattle.proxy_main.specs.Progress.{Begins, IsAt, HasRead, Advances, Stumbles, Finishes, FinishesBadly}
use Rattle.proxy_main.specs.Written.{Waiting, HasWritten, Flushes, WaitsOrWritten, TakesAll, TakeStops, StopsReading, Coming, ReadEnds, EndsWhole}
use Rattle.proxy_main.specs.Stops.{stop_of}
use Rattle.proxy_main.specs.declared.replay.Replay.{Replay}
use Rattle.proxy_main.specs.declared.stop.LineStop.{LineStop}
use Rattle.proxy_main.specs.declared.stop.LineStop.TheVariants as line_stop
use Rattle.proxy_main.specs.declared.stop.Stop.{Stop}
use Rattle.proxy_main.specs.declared.stop.Stop.TheVariants as stop
use Rattle.proxy_main.proofs.Lists.{append_nil}
use Rattle.proxy_main.proofs.LineCuts.{begins, begins_longer}
use Rattle.conn_rules.specs.Meaning.{Meaning}
use Rattle.conn_rules.specs.State.{State}

pub appends_then : (a b c : Option (List ℕ)) (x y : List ℕ) → Appends a x b → Appends b y c → Appends a (x ++ y) c
appends_then a b c x y f g taken e = g (taken ++ x) (f taken e) ∙ ap Some (append_assoc taken x y)

module _ {C L : Type 0} (meaning : C → Meaning) (stands : C → State → Type 0) where
  reading_alike : (M : Meaning) (begun : ℕ) (old new : Replay C L) (read text : List ℕ) → new.station ≡ old.station → new.partial.items ≡ old.partial.items → new.lines ≡ old.lines → new.steps ≡ old.steps → HasRead meaning stands M begun old read text → HasRead meaning stands M begun new read text
  reading_alike M begun old new read text station partial lines steps r =
      record {
        ended = r.ended;
        last = r.last;
        cut = r.cut;
        answered = record { lasting = r.answered.lasting; answered = r.answered.answered; is_at = subst (λ x. IsAt meaning stands M x r.answered.answered.last) (sym station) r.answered.is_at; count = lines ∙ r.answered.count; counted = steps ∙ r.answered.counted };
        partial = partial ∙ r.partial;
      }

  pub flush_goes : (old new : Replay C L) (now after : Option (List ℕ)) → Flushes old now new after → WaitsOrWritten meaning stands old now new after
  flush_goes old new now after f M begun first read r =
      record {
        text = r.text;
        written = r.written ++ old.answers;
        reading = reading_alike M begun old new read r.text f.station f.partial f.lines f.steps r.reading;
        parts = r.parts ∙ sym (append_nil (r.written ++ old.answers)) ∙ ap (λ xs. (r.written ++ old.answers) ++ xs) (sym f.none_waits);
        appends = appends_then first now after r.written old.answers r.appends f.appends;
      }

  advance_running : (M : Meaning) (begun : ℕ) (old new : Replay C L) (piece : List ℕ) (first now : Option (List ℕ)) (read : List ℕ) → Advances meaning stands old piece new → HasWritten meaning stands M begun old first now read → HasWritten meaning stands M begun new first now (read ++ piece)
  advance_running M begun old new piece first now read advances r =
      let a = advances M begun read r.text r.reading in
      record {
        text = r.text ++ a.0;
        written = r.written;
        reading = a.1;
        parts = ap (λ xs. xs ++ a.0) r.parts ∙ append_assoc r.written old.answers a.0 ∙ ap (λ xs. r.written ++ xs) (sym a.2);
        appends = r.appends;
      }

  -- one step more
  pub takes_more : (old between stepped new : Replay C L) (t0 t1 t2 : Option (List ℕ)) (front piece : List ℕ) → TakesAll meaning stands old t0 front between t1 → Advances meaning stands between piece stepped → WaitsOrWritten meaning stands stepped t1 new t2 → TakesAll meaning stands old t0 (front ++ piece) new t2
  takes_more old between stepped new t0 t1 t2 front piece takes advances goes M begun first read r =
      subst (HasWritten meaning stands M begun new first t2) (append_assoc read front piece)
      (goes M begun first ((read ++ front) ++ piece) (advance_running M begun between stepped piece first t1 (read ++ front) advances (takes M begun first read r)))

  -- what is known where it stops
  abbrev waiting : (M : Meaning) (begun : ℕ) (x : Replay C L) (first now : Option (List ℕ)) (read : List ℕ) (r : HasWritten meaning stands M begun x first now read) → Waiting M r.reading.ended x.answers first now
  waiting M begun x first now read r = record { text = r.text; written = r.written; answered = r.reading.answered.answered; parts = r.parts; appends = r.appends }

  abbrev waiting_for : (M : Meaning) (begun : ℕ) (x : Replay C L) (first now : Option (List ℕ)) (read waits : List ℕ) (r : HasWritten meaning stands M begun x first now read) → waits ≡ x.answers → Waiting M r.reading.ended waits first now
  waiting_for M begun x first now read waits r is = record { text = r.text; written = r.written; answered = r.reading.answered.answered; parts = r.parts ∙ ap (λ xs. r.written ++ xs) (sym is); appends = r.appends }

  -- it stops in a line
  pub stops_at : (old between new : Replay C L) (t0 t1 : Option (List ℕ)) (front rest : List ℕ) (why : LineStop) → TakesAll meaning stands old t0 front between t1 → (why ≡ line_stop.BadLine → Stumbles meaning stands between rest new) → new.answers ≡ between.answers → TakeStops meaning stands old t0 (front ++ rest) new t1 (stop_of why)
  stops_at old between new t0 t1 front rest line_stop.BadLine takes bad same M begun first read r0 =
      let r = takes M begun first read r0 in
      let s = bad refl M begun (read ++ front) r.text r.reading in
      record {
        lines = s.lines;
        bad = s.bad;
        not_ended = omega (arith, length-append read front, s.not_ended);
        begins = subst (λ xs. Begins xs (s.lines ++ s.bad ∷ [])) (append_assoc read front rest) s.begins;
        is_bad = s.is_bad;
        count = s.answered.count;
        waiting = record { text = r.text; written = r.written; answered = s.answered.answered; parts = r.parts ∙ ap (λ xs. r.written ++ xs) (sym same); appends = r.appends };
        counted = s.answered.counted;
      }
  stops_at old between new t0 t1 front rest line_stop.NoMemory takes bad same M begun first read r0 =
      let r = takes M begun first read r0 in
      record {
        lines = r.reading.ended;
        begins = subst (λ xs. Begins xs r.reading.ended) (append_assoc read front rest) (begins_longer (read ++ front) rest r.reading.ended (begins _ _ _ r.reading.cut));
        waiting = waiting_for M begun between first t1 (read ++ front) new.answers r same;
      }

  -- it stops at a write
  pub stops_writing : (old between stepped new : Replay C L) (t0 t1 t2 : Option (List ℕ)) (front piece rest : List ℕ) → TakesAll meaning stands old t0 front between t1 → Advances meaning stands between piece stepped → AppendsFront t1 stepped.answers t2 → TakeStops meaning stands old t0 (front ++ (piece ++ rest)) new t2 stop.Output
  stops_writing old between stepped new t0 t1 t2 front piece rest takes advances wrote M begun first read r0 =
      let r = advance_running M begun between stepped piece first t1 (read ++ front) advances (takes M begun first read r0) in
      record {
        lines = r.reading.ended;
        missing = wrote.missing;
        begins = subst (λ xs. Begins xs r.reading.ended) (append_assoc (read ++ front) piece rest ∙ append_assoc read front (piece ++ rest)) (begins_longer ((read ++ front) ++ piece) rest r.reading.ended (begins _ _ _ r.reading.cut));
        waiting = record {
          text = r.text;
          written = r.written ++ wrote.front;
          answered = r.reading.answered.answered;
          parts = r.parts ∙ ap (λ xs. r.written ++ xs) wrote.parts ∙ sym (append_assoc r.written wrote.front wrote.missing);
          appends = appends_then first t1 t2 r.written wrote.front r.appends wrote.appends;
        };
      }

drop_nil : (n : ℕ) (xs : List ℕ) → xs ≡ [] → drop n xs ≡ []
drop_nil zero xs e = e
drop_nil (suc n) [] e = refl
drop_nil (suc n) (x ∷ xs) e = cc

length_taken : (n : ℕ) (xs : List ℕ) → n ≤ length xs → length (take n xs) ≡ n
length_taken n xs le = omega (arith, length-take n xs)

taken_length : (n : ℕ) (xs : List ℕ) → length (take n xs) ≤ n
taken_length n xs = omega (arith, length-take n xs)

-- what agrees in its first n bytes agrees in fewer
taken_alike : (m n : ℕ) (xs ys : List ℕ) → m ≤ n → take n xs ≡ take n ys → take m xs ≡ take m ys
taken_alike m n xs ys le e = sym (take_take m n xs le) ∙ ap (take m) e ∙ take_take m n ys le
  where
    take_take : (m n : ℕ) (xs : List ℕ) → m ≤ n → take m (take n xs) ≡ take m xs
    take_take zero n xs le = refl
    take_take (suc m) zero xs le = absurd (omega arith)
    take_take (suc m) (suc n) [] le = refl
    take_take (suc m) (suc n) (x ∷ xs) le = let h : m ≤ n = omega arith in ap (λ ys. x ∷ ys) (take_take m n xs h)

-- a stop within what may come is how the reading of the script ends
pub stops_end : {C L : Type 0} (M : Meaning) (begun : ℕ) (most : ℕ) (script seen more : List ℕ) (x : Replay C L) (left first after : Option (List ℕ)) (why : Stop) (so_far : ReadSoFar most script left) → script ≡ seen ++ more → length seen ≤ script_limit → StopsReading M begun so_far.before seen x first after why → ReadEnds M begun most script x left first after (Err why)
stops_end M begun most script seen more x left first after stop.BadLine so_far parts le s =
    let f = first_lines script seen more (s.lines ++ s.bad ∷ []) parts le s.begins in
    record { lines = s.lines; bad = s.bad; others = f.others; so_far = so_far; not_ended = s.not_ended; script_is = subst (Script script) (append_assoc s.lines (s.bad ∷ []) f.others) f.script_is; is_bad = s.is_bad; count = s.count; waiting = s.waiting; counted = s.counted }
stops_end M begun most script seen more x left first after stop.TooLong so_far parts le s = absurd s
stops_end M begun most script seen more x left first after stop.Input so_far parts le s = absurd s
stops_end M begun most script seen more x left first after stop.Output so_far parts le s =
    let f = first_lines script seen more s.lines parts le s.begins in
    (s.missing, record { lines = s.lines; others = f.others; script_is = f.script_is; waiting = s.waiting })
stops_end M begun most script seen more x left first after stop.NoMemory so_far parts le s =
    let f = first_lines script seen more s.lines parts le s.begins in
    record { lines = s.lines; others = f.others; script_is = f.script_is; waiting = s.waiting }

-- one read: what is known before it, by how it goes
module _ {C L : Type 0} (meaning : C → Meaning) (stands : C → State → Type 0) (M : Meaning) (begun : ℕ) (most : ℕ) (script : List ℕ) (old flushed : Replay C L) (coming first before written : Option (List ℕ)) (allowed : ℕ) (k : Coming meaning stands M begun old script coming first before allowed) where
  read_within : length k.read ≤ script_limit
  read_within = let e : length k.read + allowed ≡ script_limit = k.allowed_is in omega arith

  -- the answers could not be written
  pub turn_output : AppendsFront before old.answers written → (x : Replay C L) (left : Option (List ℕ)) → ReadEnds M begun most script x left first written (Err stop.Output)
  turn_output wrote x left =
      let r = k.running in
      let f = first_lines script k.read k.rest r.reading.ended k.parts read_within (begins _ _ _ r.reading.cut) in (
        wrote.missing,
        record {
          lines = r.reading.ended;
          others = f.others;
          script_is = f.script_is;
          waiting = record {
            text = r.text;
            written = r.written ++ wrote.front;
            answered = r.reading.answered.answered;
            parts = r.parts ∙ ap (λ xs. r.written ++ xs) wrote.parts ∙ sym (append_assoc r.written wrote.front wrote.missing);
            appends = appends_then first before written r.written wrote.front r.appends wrote.appends;
          };
        },
      )

  -- the read failed
  pub turn_input : Flushes old before flushed written → (left : Option (List ℕ)) → ReadEnds M begun most script flushed left first written (Err stop.Input)
  turn_input f left =
      let r = flush_goes meaning stands old flushed before written f M begun first k.read k.running in
      let l = first_lines script k.read k.rest r.reading.ended k.parts read_within (begins _ _ _ r.reading.cut) in
      record {
        early = record { lines = r.reading.ended; others = l.others; script_is = l.script_is; waiting = waiting_for meaning stands M begun flushed first written k.read [] r (sym f.none_waits) };
        counted = r.reading.answered.counted;
      }

  -- the bytes of the read were taken
  pub turn_taken : Flushes old before flushed written → (new : Replay C L) (count : ℕ) (buffer piece : List ℕ) (left after : Option (List ℕ)) → ComesNext count k.rest left buffer → piece ≡ take count buffer → count ≤ allowed → TakesAll meaning stands flushed written piece new after → (next : Coming meaning stands M begun new script left first after (allowed - count)) × (count ≡ 0 → next.rest ≡ [])
  turn_taken f new count buffer piece left after gives is le takes =
      let same : piece ≡ take count k.rest = is ∙ gives.bytes in
      let n : length (take count k.rest) ≡ count = length_taken count k.rest gives.within in
      let e : length k.read + allowed ≡ script_limit = k.allowed_is in (
        record {
          read = k.read ++ take count k.rest;
          rest = drop count k.rest;
          parts = k.parts ∙ ap (λ xs. k.read ++ xs) (sym (take-append-drop count k.rest)) ∙ sym (append_assoc k.read (take count k.rest) (drop count k.rest));
          unread_is = gives.rest_is;
          allowed_is = omega (arith, length-append k.read (take count k.rest), n, e, le);
          running = subst (λ xs. HasWritten meaning stands M begun new first after (k.read ++ xs)) same (takes M begun first k.read (flush_goes meaning stands old flushed before written f M begun first k.read k.running));
        },
        λ none. drop_nil count k.rest (gives.at_end none),
      )

  -- it stopped within them
  pub turn_stopped : Flushes old before flushed written → (new : Replay C L) (count : ℕ) (buffer piece : List ℕ) (left after : Option (List ℕ)) (why : Stop) → ComesNext count k.rest left buffer → count ≤ most → piece ≡ take count buffer → (m : ℕ) → m ≤ allowed → m ≤ count → TakeStops meaning stands flushed written (take m buffer) new after why → ReadEnds M begun most script new left first after (Err why)
  turn_stopped f new count buffer piece left after why gives short is m le fits stops =
      let same : take m buffer ≡ take m k.rest = taken_alike m count buffer k.rest fits gives.bytes in
      let e : length k.read + allowed ≡ script_limit = k.allowed_is in
      let n : length (take m k.rest) ≤ m = taken_length m k.rest in
      stops_end M begun most script (k.read ++ take m k.rest) (drop m k.rest) new left first after why
      (record { before = k.read; piece = take count k.rest; rest = drop count k.rest; parts = k.parts ∙ ap (λ xs. k.read ++ xs) (sym (take-append-drop count k.rest)); unread_is = gives.rest_is; within = read_within; short = omega (arith, taken_length count k.rest, short) })
      (k.parts ∙ ap (λ xs. k.read ++ xs) (sym (take-append-drop m k.rest)) ∙ sym (append_assoc k.read (take m k.rest) (drop m k.rest)))
      (omega (arith, length-append k.read (take m k.rest), n, e, le))
      (subst (λ xs. StopsReading M begun k.read (k.read ++ xs) new first after why) same (stops M begun first k.read (flush_goes meaning stands old flushed before written f M begun first k.read k.running)))

  -- there were more bytes than may come
  pub turn_too_long : Flushes old before flushed written → (new : Replay C L) (count : ℕ) (buffer : List ℕ) (left ahead after : Option (List ℕ)) → ComesNext count k.rest ahead buffer → allowed < count → TakesAll meaning stands flushed written (take allowed buffer) new after → ReadEnds M begun most script new left first after (Err stop.TooLong)
  turn_too_long f new count buffer left ahead after gives more takes =
      let same : take allowed buffer ≡ take allowed k.rest = taken_alike allowed count buffer k.rest (omega arith) gives.bytes in
      let n : length (take allowed k.rest) ≡ allowed = length_taken allowed k.rest (omega (arith, gives.within)) in
      let e : length k.read + allowed ≡ script_limit = k.allowed_is in
      let r = takes M begun first k.read (flush_goes meaning stands old flushed before written f M begun first k.read k.running) in
      let seen : length (k.read ++ take allowed k.rest) ≡ script_limit = omega (arith, length-append k.read (take allowed k.rest), n, e) in
      record {
        lines = r.reading.ended;
        script_is = long_script script (k.read ++ take allowed k.rest) (drop allowed k.rest) r.reading.ended r.reading.last
            (k.parts ∙ ap (λ xs. k.read ++ xs) (sym (take-append-drop allowed k.rest)) ∙ sym (append_assoc k.read (take allowed k.rest) (drop allowed k.rest)))
            seen
            (omega (arith, ap length k.parts, length-append k.read k.rest, e, gives.within))
            (subst (λ xs. Lines (k.read ++ xs) r.reading.ended r.reading.last) same r.reading.cut);
        beyond = omega (arith, ap length k.parts, length-append k.read k.rest, e, gives.within);
        waiting = waiting meaning stands M begun new first after (k.read ++ take allowed buffer) r;
        counted = r.reading.answered.counted;
      }

-- the end of the script
module _ {C L : Type 0} (meaning : C → Meaning) (stands : C → State → Type 0) (M : Meaning) (begun : ℕ) (most : ℕ) (script : List ℕ) (old new : Replay C L) (left first after : Option (List ℕ)) (allowed : ℕ) (k : Coming meaning stands M begun old script left first after allowed) (none : k.rest ≡ []) where
  all_read : script ≡ k.read
  all_read = k.parts ∙ ap (λ xs. k.read ++ xs) none ∙ append_nil k.read

  script_within : length script ≤ script_limit
  script_within = let e : length k.read + allowed ≡ script_limit = k.allowed_is in omega (arith, ap length all_read, e)

  pub finish_whole : Finishes meaning stands old new → EndsWhole M begun script new left first after
  finish_whole finishes =
      let r = k.running in
      let f = finishes M begun k.read r.text r.reading in
      record {
        lines = with_last f.ended f.last;
        script_is = whole_script script f.ended f.last script_within (subst (λ xs. Lines xs f.ended f.last) (sym all_read) f.cut);
        within = script_within;
        all = k.unread_is ∙ ap Some none;
        waiting = record {
          text = r.text ++ f.more;
          written = r.written;
          answered = f.answered.answered;
          parts = ap (λ xs. xs ++ f.more) r.parts ∙ append_assoc r.written old.answers f.more ∙ ap (λ xs. r.written ++ xs) (sym f.pending);
          appends = r.appends;
        };
        counted = f.answered.counted;
      }

  pub finish_stops : (why : LineStop) → (why ≡ line_stop.BadLine → FinishesBadly meaning stands old new) → new.answers ≡ old.answers → ReadEnds M begun most script new left first after (Err (stop_of why))
  finish_stops line_stop.BadLine bad same =
      let r = k.running in
      let f = bad refl M begun k.read r.text r.reading in
      record {
        lines = f.ended;
        bad = f.last;
        others = [];
        so_far = record { before = script; piece = []; rest = []; parts = sym (append_nil script); unread_is = k.unread_is ∙ ap Some none; within = script_within; short = omega arith };
        not_ended = omega (arith, ap length all_read, ap length f.cut.whole, length-append (as_text f.ended) f.last);
        script_is = subst (Script script) f.bad (whole_script script f.ended f.last script_within (subst (λ xs. Lines xs f.ended f.last) (sym all_read) f.cut));
        is_bad = f.is_bad;
        count = f.answered.count;
        waiting = record { text = r.text; written = r.written; answered = f.answered.answered; parts = r.parts ∙ ap (λ xs. r.written ++ xs) (sym same); appends = r.appends };
        counted = f.answered.counted;
      }
  finish_stops line_stop.NoMemory bad same =
      let r = k.running in
      let e : length k.read + allowed ≡ script_limit = k.allowed_is in
      let f = first_lines script k.read k.rest r.reading.ended k.parts (omega (arith, e)) (begins _ _ _ r.reading.cut) in
      record { lines = r.reading.ended; others = f.others; script_is = f.script_is; waiting = waiting_for meaning stands M begun old first after k.read new.answers r same }
