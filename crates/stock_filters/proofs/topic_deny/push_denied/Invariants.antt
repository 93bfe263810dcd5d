use Rattle.std.proofs.Common.{◌≡◌, drop}
use Rattle.std.specs.List.{flat_map}
use Rattle.tree_codec.specs.Copying.{followed_by}
use Rattle.stock_filters.specs.TopicDeny.{denied_item}
use Rattle.stock_filters.proofs.topic_deny.push_denied.Given as goal

abbrev pub invariant-loop-asked : goal.invariant-loop-asked
invariant-loop-asked l =
    followed_by l.out (flat_map (denied_item l.log_start l.errors) (drop l.asked-index l.items)) ≡ followed_by l.fn.out (flat_map (denied_item l.log_start l.errors) l.items)
