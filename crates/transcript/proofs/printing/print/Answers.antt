use Rattle.std.proofs.Common.{◌++◌, codes, subst, List, ℕ}
use Rattle.std.specs.Fmt.{decimal}
use Rattle.transcript.specs.Hex.{hex_text}
use Rattle.transcript.specs.Answers.{HasFrontAppended}
use Rattle.transcript.proofs.Printed.{on_err_map, front_behind}
use Rattle.transcript.proofs.printing.print.Goals as goal

pub returns-in_ok-put_ticket-in-Ticket-clause-err : goal.returns-in_ok-put_ticket-in-Ticket-clause-err
returns-in_ok-put_ticket-in-Ticket-clause-err c =
    let head : List ℕ = codes "ticket " ++ decimal c.in-Ticket.request ++ codes " " ++ decimal c.in-Ticket.index ++ codes " " in
    let bytes : List ℕ = c.as_slice-in-Ticket.result.now in
    let out : List ℕ = c.args.out.now in
    let end : List ℕ = c.put_bytes-in-Ticket.new.out in
    rw c.in-Ticket.is (on_err_map c.put_bytes-in-Ticket.result
    (λ then_front. subst (λ (key : List ℕ). HasFrontAppended out end (head ++ hex_text key)) c.as_slice-in-Ticket.ensures
    (front_behind out c.put_ticket.new.out end head (hex_text bytes) c.in_ok-put_ticket-in-Ticket.ensures.ok then_front))
    c.put_bytes-in-Ticket.ensures.err)
