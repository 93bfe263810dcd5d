use Rattle.stock_filters.proofs.KeptTopics.{kept_topics}
use Rattle.stock_filters.proofs.create_topics.with_topics.Goals as goal

pub returns-in-Ok : goal.returns-in-Ok
returns-in-Ok c = kept_topics c.args.request c.retain.new.self c.args.flags.now c.is_tree.ensures c.in-Ok.ensures.ok
