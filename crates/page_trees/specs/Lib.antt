pub mod Trees
pub mod Laws
pub mod inside
pub use Rattle.page_chains.specs.Chains
pub use Rattle.page_tables.specs.Plain
