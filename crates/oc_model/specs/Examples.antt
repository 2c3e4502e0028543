-- Worked examples, by computation. Nothing stands on them: each shows a definition against values that were written by hand.
mod Building
mod Candidates
mod ClassLines
mod Conversions
mod FieldLines
mod Lengths
mod Orders
mod Queries
mod SchemaLines
mod SchemaRules
mod Space
mod Spelling
mod StoreRules
mod Walks
