pub mod Servings
pub mod Balances
pub mod Standings
