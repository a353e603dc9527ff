-- Which areas are cards, and which names are the same.
use mathlib.Core.Path.{◌≡◌, sym, ◌∙◌}
use mathlib.Core.Bool.{false}
use mathlib.Core.List.{List}
use Prim.Native.Nat.{ℕ, ◌*◌, ◌/◌, ◌≤◌}
use native.Mathlib.Omega.{arith}
use lib.ListN.{length}
use borrow.Author.Tests.{le-ltb}
use Rattle.blocks.specs.Bytes.{block_count}
use Rattle.blocks.proofs.ListLaws.{same_equal, same_self}
use Rattle.calls.specs.Parts.{area_bad}
use Rattle.calls.proofs.CardLaws.{card_even, card_least, card_most}
use Rattle.calls.proofs.StepLaws.{area_large}
use Rattle.claims.specs.Claims.{AreaClaim, NameClaim}

area_good : (c : List ℕ) (n : ℕ) → 2 ≤ n → n ≤ 65536 → length c ≡ 512 * n → area_bad c ≡ false
area_good c n few most e = sym (area_large c (omega arith) (omega arith)) ∙ le-ltb 65536 (length c / 512) (omega arith)

pub area_claim : AreaClaim
unfolding AreaClaim
area_claim c = (
  λ e. (block_count c, card_least c e, card_most c e, card_even c e),
  λ w. area_good c w.0 w.1 w.2 w.3,
)

pub name_claim : NameClaim
unfolding NameClaim
name_claim a b = (same_equal a b, λ e. rw e (same_self b))
