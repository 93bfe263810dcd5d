use Rattle.any_filter.specs.Chains.{cluster_chain}
use Rattle.proxy_main.specs.DefaultPlan.{cluster_meaning}
use Rattle.proxy_main.proofs.LawfulPlans.{chain_lawful}
use Rattle.proxy_main.proofs.Plans.{default_valid}
use Rattle.proxy_main.proofs.OwnReplies.{handed_bytes, replay_responses, replay_sends}
use Rattle.proxy_main.proofs.laws.replay_laws.Goals as goal

pub returns-clause-default_valid : goal.returns-clause-default_valid
returns-clause-default_valid c = default_valid

pub returns-clause-frames_are_bytes : goal.returns-clause-frames_are_bytes
returns-clause-frames_are_bytes c = handed_bytes

pub returns-clause-own_responses : goal.returns-clause-own_responses
returns-clause-own_responses c plan valid = replay_responses plan (chain_lawful plan (c.addresses_law.ensures.lawful plan valid))

pub returns-clause-message_sends : goal.returns-clause-message_sends
returns-clause-message_sends c plan valid = replay_sends plan (chain_lawful plan (c.addresses_law.ensures.lawful plan valid))

pub returns-clause-all_passed : goal.returns-clause-all_passed
returns-clause-all_passed c plan lines text a why over is =
    c.told_law.ensures.all_passed (cluster_meaning plan) a.history a.last.state why (c.own_ends_law.ensures (cluster_chain plan) plan.in_flight) a.is_history over is
