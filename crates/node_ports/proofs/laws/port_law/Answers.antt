use Rattle.node_ports.proofs.PortLaws.{role_from_port, port_from_role}
use Rattle.node_ports.proofs.laws.port_law.Goals as goal

pub returns-clause-of_port : goal.returns-clause-of_port
returns-clause-of_port c = role_from_port

pub returns-clause-of_role : goal.returns-clause-of_role
returns-clause-of_role c = port_from_role
