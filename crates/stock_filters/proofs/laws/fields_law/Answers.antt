use Rattle.stock_filters.proofs.FieldsOfCreateTopics.{finds_topic_names, keeps_flagged, answers_refused}
use Rattle.stock_filters.proofs.FieldsOfProduce.{changes_acks, finds_listed, denies_each}
use Rattle.stock_filters.proofs.FieldsOfMetadata.{finds_known}
use Rattle.stock_filters.proofs.FieldsOfGroups.{finds_ids, leaves_groups_out, finds_dead}
use Rattle.stock_filters.proofs.laws.fields_law.Goals as goal

pub returns-clause-new_topics : goal.returns-clause-new_topics
returns-clause-new_topics c = finds_topic_names

pub returns-clause-allowed : goal.returns-clause-allowed
returns-clause-allowed c = keeps_flagged

pub returns-clause-refused : goal.returns-clause-refused
returns-clause-refused c = answers_refused

pub returns-clause-acks : goal.returns-clause-acks
returns-clause-acks c = changes_acks

pub returns-clause-listed : goal.returns-clause-listed
returns-clause-listed c = finds_listed

pub returns-clause-denied : goal.returns-clause-denied
returns-clause-denied c = denies_each

pub returns-clause-known : goal.returns-clause-known
returns-clause-known c = finds_known

pub returns-clause-ids : goal.returns-clause-ids
returns-clause-ids c = finds_ids

pub returns-clause-live : goal.returns-clause-live
returns-clause-live c = leaves_groups_out

pub returns-clause-dead : goal.returns-clause-dead
returns-clause-dead c = finds_dead
