use Rattle.framing.proofs.FramerHistory.{place, so_far, each, all}
use Rattle.framing.proofs.laws.frames_of_a_run.Goals as goal

pub returns-clause-place : goal.returns-clause-place
returns-clause-place c = place

pub returns-clause-so_far : goal.returns-clause-so_far
returns-clause-so_far c = so_far

pub returns-clause-all : goal.returns-clause-all
returns-clause-all c = all

pub returns-clause-each : goal.returns-clause-each
returns-clause-each c = each
