-- A chain of two probes, worked through by hand on a Heartbeat. The first asks Metadata aside, and then forwards the request. The
-- second changes the response to a Heartbeat.
use Rattle.std.specs.Prelude.{List, [], ◌∷◌, pos, Some, None}
use Rattle.kp_schema.specs.declared.dir.Dir.TheVariants as dir
use Rattle.tree_spelling.specs.declared.primitive.Primitive.TheVariants.{Int32, Text, Count}
use Rattle.tree_spelling.specs.Body.{Contents}
use Rattle.filter_core.specs.Decision.{Side, Turn}
use Rattle.filter_chain.specs.declared.outside.Outside.{Outside}
use Rattle.filter_chain.specs.declared.outside.Outside.TheVariants as outside
use Rattle.filter_probes.specs.declared.habit.Habit.TheVariants as habit
use Rattle.filter_probes.specs.Probes.{metadata, heartbeat_error}
use Rattle.filter_probes.specs.ProbeTurns.{probe_turn}

abbrev pub worked_filters : List Turn
worked_filters = probe_turn (habit.Asking 1 1) ∷ (probe_turn (habit.TwoTurns 0) ∷ [])

-- a filter that breaks a law: it asks Metadata aside, whatever it was given
abbrev pub restless : Turn
restless request inputs = Side metadata

-- a response to Metadata of version 4: no brokers and no topics
abbrev pub empty_cluster : Contents
empty_cluster = record { key = pos 3; version = pos 4; dir = dir.Response; items = Int32 (pos 0) ∷ (Count (Some 0) ∷ (Text None ∷ (Int32 (pos 0) ∷ (Count (Some 0) ∷ [])))) }

-- what comes for the two messages, one after the other
abbrev pub metadata_came : Outside
metadata_came = outside.Answer empty_cluster

abbrev pub heartbeat_came : Outside
heartbeat_came = outside.Answer (heartbeat_error (pos 0))
