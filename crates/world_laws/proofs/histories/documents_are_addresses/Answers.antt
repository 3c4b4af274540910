use Rattle.world_rules.proofs.DocumentAddresses.{documents_are_addresses}
use Rattle.world_laws.proofs.histories.documents_are_addresses.Goals as goal

pub returns : goal.returns
returns c = documents_are_addresses
