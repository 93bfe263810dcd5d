use Rattle.std.proofs.Common.{refl, [], arith}
use Rattle.std.proofs.lemmas.List.Elements.{All-nil}
use Rattle.proxy_main.specs.Scripts.{HasNoBreak}
use Rattle.proxy_main.proofs.Opening.{answered_none, opened_station}
use Rattle.proxy_main.proofs.replay.Replay.new.Goals as goal

pub returns-clause-start : goal.returns-clause-start
returns-clause-start g c M lasting same opens =
    record {
      ended = [];
      last = [];
      cut = record { whole = refl; each = All-nil HasNoBreak; last_part = refl };
      answered = record {
        lasting = lasting;
        answered = answered_none M;
        is_at = opened_station g.C.Connection.meaning g.C.Connection.stands M c.args.connection c.new.result same opens c.new.ensures;
        count = refl;
        counted = omega arith;
      };
      partial = c.new-3.ensures.items;
    }
