use Rattle.std.proofs.Common.{◌≡◌}
use Rattle.toml.specs.View.{members_view}
use Rattle.proxy_config.specs.Meant.{first_unknown, keys_of}
use Rattle.proxy_config.proofs.keys.only_known.Given as goal

-- the keys so far are known
abbrev pub invariant-loop-key : goal.invariant-loop-key
invariant-loop-key l =
    goal.iterator-loop-key.can_next l.key-iterator ×
    goal.iterator-loop-key.is_finite l.key-iterator ×
    (first_unknown (keys_of l.cluster) (members_view l.key-iterator) ≡ first_unknown (keys_of l.cluster) (members_view l.table.entries))
