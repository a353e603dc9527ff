-- Which blocks an entry may name, a second time: in 01's own words and numbers.
use Rattle.std.specs.Prelude.{◌≡◌, ◌↔◌, true, List, ℕ, ◌+◌, ◌≤◌, ◌<◌, length, get_or}
use Rattle.blocks.specs.Descriptor.{no_descriptor}
use Rattle.blocks.specs.declared.descriptor.Descriptor.{Descriptor}
use Rattle.chains.specs.Soundness.{IsTableCount}
use Rattle.entries.specs.InPlace.{is_in_place}

-- "An entry is in place if it is nil, or below its descriptor's beta and neither a descriptor of the chain nor a layout 1 table block":
-- "In layout 1 the n blocks after the descriptor are its table Pi"
pub data InPlaceRules (ds : List Descriptor) (d : Descriptor) (p : ℕ) : Type 0 where
  nil : p ≡ 0 → InPlaceRules ds d p
  block : p < d.beta.0
      → ((k : ℕ) → k < length ds → p ≡ (get_or ds k no_descriptor).alpha.0 → ⊥)
      → ((k n : ℕ) → k < length ds → let e = get_or ds k no_descriptor in e.layout ≡ 1 → IsTableCount n e.volume → e.alpha.0 + 1 ≤ p → p ≤ e.alpha.0 + n → ⊥)
      → InPlaceRules ds d p

-- An entry of the descriptor d is in place in the chain ds exactly where it keeps 01's rule.
unfoldable pub InPlaceRulesClaim : Type 0
InPlaceRulesClaim = (ds : List Descriptor) (d : Descriptor) (p : ℕ) → (is_in_place ds d p ≡ true) ↔ InPlaceRules ds d p
