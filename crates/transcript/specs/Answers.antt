use Rattle.std.specs.Prelude.{◌≡◌, ℕ, List, ◌++◌, codes}
use Rattle.std.specs.Fmt.{decimal}
use Rattle.kp_edge.specs.End.{end_text}
use Rattle.transcript.specs.Hex.{hex_text}
use Rattle.transcript.specs.declared.answer.Answer.{Answer}
use Rattle.transcript.specs.declared.answer.Answer.TheVariants.{Fine, Full, Closed, NotWaiting, ToBroker, ToClient, Nothing, Later, Over, Ticket}

-- how an answer is written
abbrev pub answer_text : Answer → List ℕ
answer_text Fine = codes "ok"
answer_text Full = codes "full"
answer_text Closed = codes "closed"
answer_text NotWaiting = codes "not-waiting"
answer_text (ToBroker frame) = codes "to-broker " ++ hex_text frame
answer_text (ToClient frame) = codes "to-client " ++ hex_text frame
answer_text Nothing = codes "none"
answer_text Later = codes "later"
answer_text (Over end) = codes "over " ++ end_text end
answer_text (Ticket request index key) = codes "ticket " ++ decimal request ++ codes " " ++ decimal index ++ codes " " ++ hex_text key

-- new is old with a front of the text at its end
pub record HasFrontAppended (old new text : List ℕ) : Type 0 where
  pub front : List ℕ
  pub rest : List ℕ
  pub splits : text ≡ front ++ rest
  pub appended : new ≡ old ++ front
