-- `index_of` meets its contract: the closure may be called at each block of `starts`, and the first that it passes is the index.
use Rattle.std.proofs.Common.{◌≡◌, ℕ, true, false, arith, rules, sym, refl}
use Rattle.std.proofs.lemmas.Grind.{get_or_default_zero}
use Rattle.std.proofs.lemmas.Iterator.{YieldsList-from_slice, IsFirst-from_position, index_from_first}
use Rattle.std.proofs.lemmas.Iterator.Adapters.{serves_from_places}
use Rattle.blocks.specs.Pick.{same}
use Rattle.blocks.specs.Descriptor.{descriptor_at}
use Rattle.chains.specs.Chain.{index_of, descriptors_at}
use Rattle.indexing.proofs.index.index_of.Goals as goal

pub position-requires-clause-callable : goal.position-requires-clause-callable
position-requires-clause-callable c =
    serves_from_places (YieldsList-from_slice c.args.starts.now c.iter.ensures.rest) (λ x q k. search rules)
    (λ x k h e. let room = c.requires k h in let at = get_or_default_zero c.args.starts.now k x.now h in search rules)

pub returns-clause-value : goal.returns-clause-value
unfolding index_of descriptors_at
returns-clause-value c =
    let card = c.args.card.now in
    let has = λ (p : ℕ). same (descriptor_at card p).name c.args.name in
    let first =
    IsFirst-from_position _ _ _ (λ p. has p ≡ true) (λ p. has p ≡ false) c.position.ensures.ran (YieldsList-from_slice c.args.starts.now c.iter.ensures.rest) (λ x q k. search rules) (λ x q k. search rules) in
    sym (index_from_first (λ ps. index_of (descriptors_at card ps) c.args.name) (λ p. has p ≡ true) (λ p. has p ≡ false) refl (λ p ps h. rw h) (λ p ps h. rw h (omega arith)) _ _ first)
