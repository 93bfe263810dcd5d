use Rattle.std.proofs.Common.{[], ◌≡◌, ◌∙◌, length, subst, sym}
use Rattle.proxy_main.specs.Scripts.{ReadSoFar, piece_limit}
use Rattle.proxy_main.specs.Replayed.{Replays}
use Rattle.proxy_main.specs.Written.{ReadEnds}
use Rattle.proxy_main.proofs.Opening.{opened, appends_none, front_of_none}
use Rattle.proxy_main.proofs.Counting.{both_counted}
use Rattle.proxy_main.proofs.SoFar.{unread}
use Rattle.proxy_main.proofs.script.replay.Goals as goal

pub returns-in-Err-clause-text : goal.returns-in-Err-clause-text
returns-in-Err-clause-text g c M lasting same opens script is = ([], appends_none (g.O.Sink.taken c.args.out.now), front_of_none M script)

pub returns-in-Err-clause-so_far : goal.returns-in-Err-clause-so_far
returns-in-Err-clause-so_far g c script is = unread piece_limit script (g.I.Source.coming c.args.input.now) is

pub returns-clause-text : goal.returns-clause-text
returns-clause-text g c M lasting same opens script is =
    let first = g.O.Sink.taken c.args.out.now in
    let room : length c.as_mut_slice.result.now ≡ piece_limit = c.as_mut_slice.ensures.len ∙ c.in-Ok.ensures.len in
    let ends = c.read_all-read.ensures.read M c.replace-counted.result script is (opened g.C.Connection.meaning g.C.Connection.stands M c.replace-counted.result c.new-replay.result first (c.new-replay.ensures.start M lasting same opens) c.new-replay.ensures.pending) in
    let done = c.conclude-status.ensures.concludes M c.replace-counted.result script (g.I.Source.coming c.read_all-read.new.input) first
    (subst (λ most. ReadEnds M c.replace-counted.result most script c.read_all-read.new.self (g.I.Source.coming c.read_all-read.new.input) first (g.O.Sink.taken c.read_all-read.new.out) c.read_all-read.result) room ends) in
    let from : c.replace-counted.result ≡ c.args.steps.now = c.replace-counted.ensures.value in
    let to : c.read_all-read.new.self.steps ≡ c.swap.new.x = sym c.conclude-status.ensures.steps ∙ sym c.swap.ensures.x_after in
    let left = g.I.Source.coming c.read_all-read.new.input in
    (done.written, done.appends, subst (λ n. Replays M script left done.written n c.swap.new.x c.conclude-status.result) from (subst (λ m. Replays M script left done.written c.replace-counted.result m c.conclude-status.result) to done.replays))

pub returns-clause-so_far : goal.returns-clause-so_far
returns-clause-so_far g c script is =
    let room : length c.as_mut_slice.result.now ≡ piece_limit = c.as_mut_slice.ensures.len ∙ c.in-Ok.ensures.len in
    subst (λ most. ReadSoFar most script (g.I.Source.coming c.read_all-read.new.input)) room (c.read_all-read.ensures.so_far script is)

pub returns-clause-read : goal.returns-clause-read
returns-clause-read g c M lasting same opens done script is =
    let first = g.O.Sink.taken c.args.out.now in
    let ends = c.read_all-read.ensures.read M c.replace-counted.result script is (opened g.C.Connection.meaning g.C.Connection.stands M c.replace-counted.result c.new-replay.result first (c.new-replay.ensures.start M lasting same opens) c.new-replay.ensures.pending) in
    (subst (λ r. ReadEnds M c.replace-counted.result (length c.as_mut_slice.result.now) script c.read_all-read.new.self (g.I.Source.coming c.read_all-read.new.input) first (g.O.Sink.taken c.read_all-read.new.out) r) (c.conclude-status.ensures.done done) ends).all

pub returns-clause-faults : goal.returns-clause-faults
returns-clause-faults g c =
    both_counted c.read_all-read.result c.conclude-status.result (g.I.Source.faults c.args.input.now) (g.I.Source.faults c.read_all-read.new.input) (g.O.Sink.faults c.args.out.now) (g.O.Sink.faults c.read_all-read.new.out) (g.O.Sink.faults c.conclude-status.new.out)
    c.read_all-read.ensures.faults c.conclude-status.ensures.input_fault c.conclude-status.ensures.only_input c.conclude-status.ensures.output_fault c.conclude-status.ensures.faults
