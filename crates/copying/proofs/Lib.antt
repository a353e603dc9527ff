-- Laws of copies, and of the pass that makes a descriptor's block.
pub mod CopyLaws
