-- Before a script is read.
use Rattle.std.proofs.Common.{◌≡◌, ℕ, List, [], Option, Some, refl}
use Rattle.virtual_cluster.specs.Limits.{IsValid, broken_limit, is_label, is_host, are_nodes, are_denied}
use Rattle.conn_rules.specs.Meaning.{Meaning}
use Rattle.proxy_main.specs.DefaultPlan.{default_plan}
use Rattle.proxy_main.specs.Scripts.{piece_limit}
use Rattle.proxy_main.specs.Replayed.{ReplaysInput}
use Rattle.proxy_main.specs.declared.status.Status.TheVariants as status
use Rattle.proxy_main.proofs.Opening.{appends_none, front_of_none}
use Rattle.proxy_main.proofs.SoFar.{unread}

pub default_valid : IsValid default_plan
unfolding broken_limit is_label is_host are_nodes are_denied
default_valid = record { within_limits = refl; has_its_ports = refl }

-- memory ran out before anything was read
pub leaves_to_come : (M : Meaning) (coming taken : Option (List ℕ)) (n m : ℕ) → ReplaysInput M coming coming taken taken n m status.NoMemory
leaves_to_come M coming taken n m =
    record {
      text = λ script is. ([], appends_none taken, front_of_none M script);
      status_is = tt;
      so_far = λ script is. unread piece_limit script coming is;
      all_read = λ done. cc;
    }
