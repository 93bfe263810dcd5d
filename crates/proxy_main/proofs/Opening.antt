-- Before anything was read.
use Rattle.std.proofs.Common.{◌≡◌, ℕ, List, [], ◌++◌, Option, Some, refl, sym, ◌∙◌, ap, subst, arith}
use Rattle.std.proofs.lemmas.List.Elements.{All-nil}
use Rattle.proxy_main.specs.Played.{opening_play}
use Rattle.proxy_main.specs.Scripts.{HasNoBreak}
use Rattle.proxy_main.specs.Replayed.{Answered, Front}
use Rattle.proxy_main.specs.Progress.{IsAt, HasRead}
use Rattle.proxy_main.specs.Written.{HasWritten}
use Rattle.proxy_main.specs.declared.replay.Replay.{Replay}
use Rattle.proxy_main.proofs.Lists.{append_nil}
use Rattle.proxy_main.proofs.Scripting.{first_lines}
use Rattle.conn_rules.specs.Meaning.{Meaning}
use Rattle.conn_rules.specs.State.{State, opening}
use Rattle.session.specs.Calls.{Link}
use Rattle.session.specs.Streams.{fresh_stream}
use Rattle.conn_rules.specs.History.{IsAnswered}
use Rattle.session.specs.declared.peer.Peer.TheVariants as peer
use Rattle.session.proofs.Streaming.{stream_fresh}

abbrev pub answered_none : (M : Meaning) → Answered M [] []
answered_none M =
    record {
      script = [];
      answers = [];
      history = [];
      last = opening_play;
      texts = tt;
      played = (refl, refl);
      text_is = refl;
      is_history = refl;
      client = stream_fresh peer.Client;
      broker = stream_fresh peer.Broker;
      shown = refl;
      shown_sends = refl;
      told = λ why over. cc;
      in_order = record { sent_is = refl; passed_there = omega arith; answered = All-nil (IsAnswered M) };
      own_requests = λ frames tail cut. (frames, refl);
    }

-- nothing was written
pub appends_none : (first : Option (List ℕ)) (taken : List ℕ) → first ≡ Some taken → first ≡ Some (taken ++ [])
appends_none first taken is = is ∙ ap Some (sym (append_nil taken))

pub opened : {C L : Type 0} (meaning : C → Meaning) (stands : C → State → Type 0) (M : Meaning) (begun : ℕ) (x : Replay C L) (first : Option (List ℕ)) → HasRead meaning stands M begun x [] [] → x.answers ≡ [] → HasWritten meaning stands M begun x first first []
opened meaning stands M begun x first reading none = record { text = []; written = []; reading = reading; parts = sym none; appends = appends_none first }

-- no line of the script was answered
pub front_of_none : (M : Meaning) (script : List ℕ) → Front M script []
front_of_none M script =
    let f = first_lines script [] script [] refl (omega arith) (record { behind = []; whole = refl; each = All-nil HasNoBreak }) in
    record { lines = []; others = f.others; script_is = f.script_is; answered = answered_none M }

-- a station to which nothing came yet
pub opened_station : {C : Type 0} (meaning : C → Meaning) (stands : C → State → Type 0) (M : Meaning) (connection : C) (station : Link C) → meaning connection ≡ M → stands connection opening
    → station ≡ record { connection = connection; client = fresh_stream peer.Client; broker = fresh_stream peer.Broker } → IsAt meaning stands M station opening_play
opened_station meaning stands M connection station same opens is =
    subst (λ s. IsAt meaning stands M s opening_play) (sym is) (record { meaning_is = same; stands_for = opens; client = refl; broker = refl })
