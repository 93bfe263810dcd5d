use Rattle.proxy_main.proofs.FileAnswering.{found_in_whole}
use Rattle.proxy_main.proofs.cluster_replay.cluster_in.Goals as goal

pub returns-clause-found : goal.returns-clause-found
returns-clause-found g c = found_in_whole c.args.cluster.now _ c.in_ok-bytes.bytes c.as_slice.result.now _ c.front_law.ensures.cluster c.in_ok-bytes.ensures.bytes c.as_slice.ensures c.in_ok-cluster_answer.ensures.found
