use Rattle.address_rewrite.proofs.FieldsOfNodes.{of_brokers, of_coordinator}
use Rattle.address_rewrite.proofs.laws.nodes_law.Goals as goal

pub returns-clause-metadata : goal.returns-clause-metadata
returns-clause-metadata c = of_brokers

pub returns-clause-find_coordinator : goal.returns-clause-find_coordinator
returns-clause-find_coordinator c = of_coordinator
