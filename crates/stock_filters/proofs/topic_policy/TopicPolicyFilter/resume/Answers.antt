use Rattle.std.proofs.Common.{pos, Option, subst}
use Rattle.std.proofs.lemmas.Result.{IfOk-weaker}
use Rattle.tree_spelling.specs.Body.{Contents}
use Rattle.stock_filters.specs.CreateTopics.{creates_topics, IsScreening}
use Rattle.stock_filters.specs.TopicPolicy.{policy_question, policy_flags}
use Rattle.stock_filters.proofs.Screening.{held_resumes}
use Rattle.stock_filters.proofs.topic_policy.TopicPolicyFilter.resume.Goals as goal

pub returns : goal.returns
returns c =
    IfOk-weaker c.judge.result _ _
    (λ made m. λ request inputs h. held_resumes creates_topics policy_question policy_flags (pos 29) c.in-Some.request request inputs c.args.input c.args.pending.refuses c.args.pending.refused.items made
    (subst (λ (o : Option Contents). IsScreening creates_topics policy_question policy_flags (pos 29) o c.args.pending.refuses c.args.pending.refused.items request inputs) c.in-Some.is h) m)
    c.judge.ensures
