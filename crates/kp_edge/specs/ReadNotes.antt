-- What a read came to, as it is noted.
use Rattle.kp_edge.specs.Source.{ReadOutcome, Bytes, AtEnd, Failure}
use Rattle.kp_edge.specs.declared.read_log.ReadNote.{ReadNote}
use Rattle.kp_edge.specs.declared.read_log.ReadNote.TheVariants as note

abbrev pub outcome_of : ReadNote → ReadOutcome
outcome_of (note.Bytes bytes) = Bytes bytes.now
outcome_of note.AtEnd = AtEnd
outcome_of note.Failure = Failure
