-- One type over all filters: each value means what the filter in it means.
use Rattle.std.specs.Prelude.{◌≡◌, pos, List, []}
use Rattle.tree_spelling.specs.Body.{Contents}
use Rattle.filter_core.specs.declared.input.Input.{Input}
use Rattle.filter_core.specs.declared.moves.Move.{Move}
use Rattle.filter_core.specs.declared.moves.Move.TheVariants as move
use Rattle.filter_core.specs.Decision.{Turn}
use Rattle.stock_filters.specs.Narrow.{narrow}
use Rattle.stock_filters.specs.ProduceAll.{produce_all}
use Rattle.stock_filters.specs.TopicDeny.{topic_deny}
use Rattle.stock_filters.specs.ApiBlock.{api_block}
use Rattle.stock_filters.specs.CreateTopics.{creates_topics, IsScreening}
use Rattle.stock_filters.specs.TopicPolicy.{policy_question, policy_flags, topic_policy}
use Rattle.stock_filters.specs.TopicExists.{creates_named, exists_question, exists_flags, topic_exists}
use Rattle.stock_filters.specs.declared.create_topics.Screened.{Screened}
use Rattle.stock_filters.specs.declared.group_live.Listing.{Listing}
use Rattle.stock_filters.specs.GroupLive.{group_live, IsWaitingForGroups}
use Rattle.address_rewrite.specs.PlanFilter.{addresses_turn}
use Rattle.any_filter.specs.declared.any_filter.AnyFilter.{AnyFilter}
use Rattle.any_filter.specs.declared.any_filter.AnyFilter.TheVariants.{Narrow, ProduceAll, TopicDeny, ApiBlock, TopicPolicy, TopicExists, GroupLive, Addresses}
use Rattle.any_filter.specs.declared.any_pending.AnyPending.{AnyPending}
use Rattle.any_filter.specs.declared.any_pending.AnyPending.TheVariants as pending

-- the turn of the filter inside
abbrev pub any_turn : AnyFilter → Turn
any_turn (Narrow filter) = narrow
any_turn (ProduceAll filter) = produce_all
any_turn (TopicDeny filter) = topic_deny filter.topics.items
any_turn (ApiBlock filter) = api_block filter.keys.items
any_turn (TopicPolicy filter) = topic_policy
any_turn (TopicExists filter) = topic_exists
any_turn (GroupLive filter) = group_live
any_turn (Addresses filter) = addresses_turn filter

-- What the filter inside keeps stands for what it stands for there. A value that another filter keeps stands for nothing.
abbrev pub any_stands : AnyFilter → AnyPending → Contents → List Input → Type 0
any_stands (Narrow filter) (pending.Forwarded kept) request inputs = inputs ≡ []
any_stands (ProduceAll filter) (pending.Forwarded kept) request inputs = inputs ≡ []
any_stands (TopicDeny filter) (pending.Forwarded kept) request inputs = inputs ≡ []
any_stands (ApiBlock filter) (pending.Forwarded kept) request inputs = inputs ≡ []
any_stands (TopicPolicy filter) (pending.Screened kept) request inputs =
    IsScreening creates_topics policy_question policy_flags (pos 29) kept.value.request kept.value.refuses kept.value.refused.items request inputs
any_stands (TopicExists filter) (pending.Screened kept) request inputs =
    IsScreening creates_named exists_question exists_flags (pos 36) kept.value.request kept.value.refuses kept.value.refused.items request inputs
any_stands (GroupLive filter) (pending.Listing kept) request inputs = IsWaitingForGroups kept.value.lists kept.value.listing request inputs
any_stands (Addresses filter) (pending.Addressing kept) request inputs = inputs ≡ []
any_stands filter kept request inputs = ⊥

-- the same move with what is kept under another type
abbrev pub move_with : {P Q : Type 0} → (P → Q) → Move P → Move Q
move_with wrap (move.Forward message kept) = move.Forward message (wrap kept)
move_with wrap (move.Side message kept) = move.Side message (wrap kept)
move_with wrap (move.Hold key kept) = move.Hold key (wrap kept)
move_with wrap (move.Return response) = move.Return response
move_with wrap (move.Shut reason) = move.Shut reason

-- The other move is the same, with what is kept under another type.
abbrev pub IsMoveWith : {P Q : Type 0} → (P → Q → Type 0) → Move P → Move Q → Type 0
IsMoveWith is_kept (move.Forward message kept) (move.Forward same other) = (same ≡ message) × is_kept kept other
IsMoveWith is_kept (move.Side message kept) (move.Side same other) = (same ≡ message) × is_kept kept other
IsMoveWith is_kept (move.Hold key kept) (move.Hold same other) = (same ≡ key) × is_kept kept other
IsMoveWith is_kept (move.Return response) (move.Return same) = same ≡ response
IsMoveWith is_kept (move.Shut reason) (move.Shut same) = same ≡ reason
IsMoveWith is_kept made other = ⊥

-- what a filter of topics keeps, in a box
abbrev pub IsBoxedScreened : Screened → AnyPending → Type 0
IsBoxedScreened kept (pending.Screened boxed) = boxed.value ≡ kept
IsBoxedScreened kept other = ⊥

-- what `group-live` keeps, in a box
abbrev pub IsBoxedListing : Listing → AnyPending → Type 0
IsBoxedListing kept (pending.Listing boxed) = boxed.value ≡ kept
IsBoxedListing kept other = ⊥
