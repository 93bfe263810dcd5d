-- The worked chain, computed.
use Rattle.std.proofs.Common.{◌≡◌, refl, true, false, [], ◌∷◌, pos, replicate, Some, None, rules}
use Rattle.std.specs.List.{All}
use Rattle.std.proofs.lemmas.List.Elements.{All-nil, All-cons}
use Rattle.kp_schema.specs.Messages.{fields_of, messages}
use Rattle.kp_schema.specs.Heartbeat as Heartbeat
use Rattle.kp_schema.specs.Metadata as Metadata
use Rattle.tree_spelling.specs.Body.{IsTree}
use Rattle.filter_core.specs.Inputs.{IsResponseTo}
use Rattle.filter_core.specs.Laws.{IsLawful}
use Rattle.side_requests.specs.declared.ask.Ask.TheVariants as ask
use Rattle.filter_chain.specs.Chain.{turns_on}
use Rattle.filter_chain.specs.Outcomes.{Needs, Completed, NeverEnds, run, turns}
use Rattle.filter_probes.specs.declared.habit.Habit.{Habit}
use Rattle.filter_probes.specs.declared.habit.Habit.TheVariants.{Asking, TwoTurns}
use Rattle.filter_probes.specs.Probes.{probe_heartbeat, metadata, heartbeat_error}
use Rattle.filter_probes.specs.ProbeTurns.{probe_turn, probe_forwards_once, probe_ends, probe_forwards_same, probe_answered, probe_returns}
use Rattle.proxy_laws.specs.Coming.{MayHaveCome}
use Rattle.proxy_laws.specs.WorkedChain.{worked_filters, restless, empty_cluster, metadata_came, heartbeat_came}

probe_is_lawful : (habit : Habit) → IsLawful (probe_turn habit)
probe_is_lawful habit =
    record {
      forwards_once = probe_forwards_once habit;
      ends_after_six = probe_ends habit;
      forwards_the_same = probe_forwards_same habit;
      questions_are_answered = probe_answered habit;
      returns_an_answer = probe_returns habit;
    }

pub lawful : All IsLawful worked_filters
lawful =
    All-cons IsLawful (probe_turn (Asking 1 1)) (probe_turn (TwoTurns 0) ∷ []) (probe_is_lawful (Asking 1 1))
    (All-cons IsLawful (probe_turn (TwoTurns 0)) [] (probe_is_lawful (TwoTurns 0)) (All-nil IsLawful))

pub asks_aside : run worked_filters probe_heartbeat [] ≡ Needs (ask.Broker metadata false)
unfolding turns_on
asks_aside = refl

pub sends_itself : run worked_filters probe_heartbeat (metadata_came ∷ []) ≡ Needs (ask.Broker probe_heartbeat true)
unfolding turns_on
sends_itself = refl

pub completes : run worked_filters probe_heartbeat (metadata_came ∷ heartbeat_came ∷ []) ≡ Completed (Some (heartbeat_error (pos 77)))
unfolding turns_on
completes = refl

pub seven_turns : turns worked_filters probe_heartbeat (metadata_came ∷ heartbeat_came ∷ []) ≡ 7
unfolding turns_on
seven_turns = refl

cluster_tree : IsTree empty_cluster
unfolding fields_of messages Metadata.response
cluster_tree = record { value = (pos 0, (Some [], (None, (pos 0, (Some [], tt))))); is = refl; in_range = search rules }

heartbeat_tree : IsTree (heartbeat_error (pos 0))
unfolding fields_of messages Heartbeat.response
heartbeat_tree = record { value = (pos 0, tt); is = refl; in_range = search rules }

cluster_answers : IsResponseTo metadata empty_cluster
cluster_answers = record { tree = cluster_tree; of = record { key_is = refl; version_is = refl; dir_is = refl } }

heartbeat_answers : IsResponseTo probe_heartbeat (heartbeat_error (pos 0))
heartbeat_answers = record { tree = heartbeat_tree; of = record { key_is = refl; version_is = refl; dir_is = refl } }

pub may_come : MayHaveCome worked_filters probe_heartbeat (metadata_came ∷ heartbeat_came ∷ [])
unfolding turns_on
may_come = (cluster_answers, (heartbeat_answers, tt))

other_key : IsResponseTo metadata (heartbeat_error (pos 0)) → ⊥
other_key h = let z : pos 12 ≡ pos 3 = h.of.key_is in cc

pub in_no_other_order : MayHaveCome worked_filters probe_heartbeat (heartbeat_came ∷ metadata_came ∷ []) → ⊥
unfolding turns_on
in_no_other_order h = other_key h.0

pub foreign : run worked_filters probe_heartbeat (heartbeat_came ∷ metadata_came ∷ []) ≡ Completed (Some empty_cluster)
unfolding turns_on
foreign = refl

pub without_an_end : run (restless ∷ []) probe_heartbeat (replicate 7 metadata_came) ≡ NeverEnds 0
unfolding turns_on
without_an_end = refl
