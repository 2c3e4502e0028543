pub mod Elements
pub mod Reaching
pub mod Budgets
pub mod Sorting
pub mod Orders
pub mod Criteria
pub mod Answering
pub mod Meeting
pub mod Parts
pub mod MapLaws
mod Candidates
pub mod CatalogTold
mod Conversions
mod Decimals
pub mod Fitting
pub mod Fronts
pub mod Inherited
pub mod Lengths
pub mod NewChild
pub mod NewClass
pub mod PastFields
pub mod Rules
pub mod SchemaLaws
mod Nodes
mod StateWalks
pub mod Told
mod States
pub mod Spellable
mod Written
