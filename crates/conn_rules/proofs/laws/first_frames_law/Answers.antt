use Rattle.conn_rules.proofs.Requests.{first_frames}
use Rattle.conn_rules.proofs.laws.first_frames_law.Goals as goal

pub returns : goal.returns
returns c = first_frames
