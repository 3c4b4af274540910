pub use Rattle.world_rules.specs.Accounts
pub use Rattle.world_rules.specs.Serials
pub use Rattle.world_rules.specs.VOrder
pub use Rattle.world_rules.specs.Laws
pub use Rattle.world_rules.specs.RelationLaws
pub use Rattle.world_rules.specs.Published
pub use Rattle.world_rules.specs.Order
pub use Rattle.world_rules.specs.Isolated
