mod Combinators
mod Lists
mod Values
mod Atoms
mod Expressions
mod ReadLines
mod SpelledLines
mod Grammars
