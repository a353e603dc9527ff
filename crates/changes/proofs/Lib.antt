-- What an accepted format, write, span write, snap and revert leave: stores of whole blocks, the chain, the entries; and that a card that passed still passes.
pub mod WholeLaws
pub mod RevertedChain
pub mod SnappedChain
pub mod WrittenChain
pub mod RevertedRules
pub mod ReopenedRules
pub mod SnappedRules
pub mod WrittenRules
pub mod WriteFacts
pub mod WriteOwn
pub mod WriteNew
pub mod WritePasses
pub mod SpanSteps
