-- `is_repeated` meets its contract: where the hash of the name has no flag, no name passed has that hash.
use Rattle.std.proofs.Common.{List, ℕ, not, ap, ◌∙◌, arith}
use Rattle.std.proofs.Math.Seq.{take-length}
use Rattle.chains.specs.Chain.{named, descriptors_at}
use Rattle.links.proofs.ChainLaws.{hash_fresh}
use Rattle.walking.proofs.chain.is_repeated.Goals as goal

pub returns-else-has_flag : goal.returns-else-has_flag
returns-else-has_flag c =
    c.if-has_flag.false
    ∙ hash_fresh _ _ _ _ c.requires.0 (omega arith) _ _ c.hash.ensures.value _ c.has_flag.ensures (ap not c.if-has_flag.false)
    ∙ ap (λ (starts : List ℕ). named (descriptors_at c.args.card.now starts) c.args.name) (take-length c.args.starts.now)
