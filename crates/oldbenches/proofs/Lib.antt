pub mod OldConversions
