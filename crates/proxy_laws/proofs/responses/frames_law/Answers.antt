use Rattle.proxy_laws.proofs.Bytes.{frames_are_bytes}
use Rattle.proxy_laws.proofs.responses.frames_law.Goals as goal

pub returns : goal.returns
returns c = frames_are_bytes
