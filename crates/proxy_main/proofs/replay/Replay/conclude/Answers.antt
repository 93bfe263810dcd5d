use Rattle.std.proofs.Common.{Ok, Err, rules}
use Rattle.proxy_main.specs.declared.stop.Stop.TheVariants as stop
use Rattle.proxy_main.specs.declared.status.Status.TheVariants as status
use Rattle.proxy_main.proofs.Concluding.{concludes_whole, concludes_line, concludes_too_long, concludes_input, concludes_output, concludes_memory, concludes_of}
use Rattle.proxy_main.proofs.replay.Replay.conclude.Goals as goal

pub returns-in-Ok-clause-concludes : goal.returns-in-Ok-clause-concludes
returns-in-Ok-clause-concludes g c =
    concludes_of c.args.self.now c.args.read (Ok tt) (g.O.Sink.taken c.args.out.now) (g.O.Sink.taken c.write_out.new.out) c.write_out.result c.in-Ok.is
    (concludes_whole c.args.self.now (g.O.Sink.taken c.args.out.now) (g.O.Sink.taken c.write_out.new.out) c.write_out.result c.write_out.ensures.written)

pub returns-in-Err-BadLine-clause-concludes : goal.returns-in-Err-BadLine-clause-concludes
returns-in-Err-BadLine-clause-concludes g c =
    concludes_of c.args.self.now c.args.read (Err stop.BadLine) (g.O.Sink.taken c.args.out.now) (g.O.Sink.taken c.write_out-in-Err-BadLine.new.out) c.write_out-in-Err-BadLine.result (search (rules, c.in-Err-BadLine.is, c.in-Err-BadLine.field-0-is))
    (concludes_line c.args.self.now c.refuse_line-status.new.self.answers (g.O.Sink.taken c.args.out.now) (g.O.Sink.taken c.write_out-in-Err-BadLine.new.out) c.refuse_line-status.result c.write_out-in-Err-BadLine.result c.refuse_line-status.ensures.refused c.write_out-in-Err-BadLine.ensures.written)

pub returns-in-Err-TooLong-clause-concludes : goal.returns-in-Err-TooLong-clause-concludes
returns-in-Err-TooLong-clause-concludes g c =
    concludes_of c.args.self.now c.args.read (Err stop.TooLong) (g.O.Sink.taken c.args.out.now) (g.O.Sink.taken c.write_out-in-Err-TooLong.new.out) c.write_out-in-Err-TooLong.result (search (rules, c.in-Err-TooLong.is, c.in-Err-TooLong.field-0-is))
    (concludes_too_long c.args.self.now c.refuse_script-status.new.self.answers (g.O.Sink.taken c.args.out.now) (g.O.Sink.taken c.write_out-in-Err-TooLong.new.out) c.refuse_script-status.result c.write_out-in-Err-TooLong.result c.refuse_script-status.ensures.refused c.write_out-in-Err-TooLong.ensures.written)

pub returns-in-Err-Input-clause-concludes : goal.returns-in-Err-Input-clause-concludes
returns-in-Err-Input-clause-concludes g c =
    concludes_of c.args.self.now c.args.read (Err stop.Input) (g.O.Sink.taken c.args.out.now) (g.O.Sink.taken c.args.out.now) status.InputFault (search (rules, c.in-Err-Input.is, c.in-Err-Input.field-0-is))
    (concludes_input c.args.self.now (g.O.Sink.taken c.args.out.now))

pub returns-in-Err-Output-clause-concludes : goal.returns-in-Err-Output-clause-concludes
returns-in-Err-Output-clause-concludes g c =
    concludes_of c.args.self.now c.args.read (Err stop.Output) (g.O.Sink.taken c.args.out.now) (g.O.Sink.taken c.args.out.now) status.OutputFault (search (rules, c.in-Err-Output.is, c.in-Err-Output.field-0-is))
    (concludes_output c.args.self.now (g.O.Sink.taken c.args.out.now))

pub returns-in-Err-NoMemory-clause-concludes : goal.returns-in-Err-NoMemory-clause-concludes
returns-in-Err-NoMemory-clause-concludes g c =
    concludes_of c.args.self.now c.args.read (Err stop.NoMemory) (g.O.Sink.taken c.args.out.now) (g.O.Sink.taken c.write_out-in-Err-NoMemory.new.out) c.write_out-in-Err-NoMemory.result (search (rules, c.in-Err-NoMemory.is, c.in-Err-NoMemory.field-0-is))
    (concludes_memory c.args.self.now (g.O.Sink.taken c.args.out.now) (g.O.Sink.taken c.write_out-in-Err-NoMemory.new.out) c.write_out-in-Err-NoMemory.result c.write_out-in-Err-NoMemory.ensures.written)
