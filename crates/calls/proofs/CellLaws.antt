-- What a read through a descriptor gives: the block that its entry names, or zeros, where the descriptor keeps the rules; and the same on two cards with the same blocks.
use mathlib.Core.Path.{◌≡◌, refl, sym, ap, ◌∙◌, subst}
use mathlib.Core.Bool.{Bool, true, false, ◌||◌}
use mathlib.Core.List.{List}
use Prim.Native.Nat.{ℕ, ◌*◌, ◌-◌, ◌≤◌, ◌<◌}
use native.Mathlib.Omega.{arith}
use lib.ListN.{length, get_or, length-replicate}
use lib.Dec.{eqb}
use borrow.Author.Tests.{eqb-false}
use Rattle.blocks.specs.Pick.{pick}
use Rattle.blocks.specs.Bytes.{block_at, zero_block}
use Rattle.blocks.specs.Descriptor.{no_descriptor}
use Rattle.blocks.proofs.ByteLaws.{length_block_at}
use Rattle.chains.specs.Chain.{chain, active_of}
use Rattle.blocks.specs.declared.numbers.Physical.{Physical}
use Rattle.blocks.specs.declared.descriptor.Descriptor.{Descriptor}
use Rattle.links.proofs.SoundLaws.{form_layout}
use Rattle.links.proofs.SharedLaws.{Below}
use Rattle.links.proofs.LinkedLaws.{active_at}
use Rattle.entries.specs.Entry.{find}
use Rattle.entries.specs.Rules.{entry_of, Rules}
use Rattle.entries.specs.Found.{Found, Misplaced, Entry}
use Rattle.entries.proofs.EntryLaws.{find_placed, placed_below}
use Rattle.entries.proofs.LocalLaws.{Region}
use Rattle.entries.proofs.FoundLaws.{rules_find}
use Rattle.calls.specs.Parts.{descriptors_of, found_through, is_misplaced, block_found}
use Rattle.calls.specs.Check.{Passes}
use Rattle.calls.proofs.CardLaws.{chain_is}
use Rattle.calls.proofs.ActiveLaws.{region_at, chain_some}

-- the block that an entry names, zeros where it is nil
abbrev pub block_named : List ℕ → ℕ → List ℕ
block_named c p = pick (eqb p 0) zero_block (block_at c p)

-- it is the same on two cards that share that block
shared_by : (s t : List ℕ) (q : ℕ) (z : Bool) → eqb q 0 ≡ z → ((q ≡ 0 → ⊥) → block_at t q ≡ block_at s q) → pick z zero_block (block_at t q) ≡ pick z zero_block (block_at s q)
shared_by s t q true e h = refl
shared_by s t q false e h = h (eqb-false q 0 e)

pub named_same : (s t : List ℕ) (q : ℕ) → ((q ≡ 0 → ⊥) → block_at t q ≡ block_at s q) → block_named t q ≡ block_named s q
named_same s t q h = shared_by s t q (eqb q 0) refl h

-- through a descriptor that keeps the rules
module _ (c : List ℕ) (ds : List Descriptor) (d : Descriptor) (layout : (eqb d.layout 1 || eqb d.layout 2) ≡ true) (r : Rules c ds d) (l : ℕ) (h : l < d.volume) where
  pub cell_rules : block_found c (find c ds d l) ≡ block_named c (entry_of c d l)
  unfolding block_found
  cell_rules = ap (block_found c) (rules_find c ds d layout r l h)

  found_rules : is_misplaced (find c ds d l) ≡ false
  unfolding is_misplaced
  found_rules = ap is_misplaced (rules_find c ds d layout r l h)

-- two cards, a descriptor of each: the same entry, and the same block that it names, give the same
pub cell_as : (s t : List ℕ) (ds es : List Descriptor) (d y : Descriptor) → (eqb d.layout 1 || eqb d.layout 2) ≡ true → y.layout ≡ d.layout → y.volume ≡ d.volume → Rules s ds d → Rules t es y
    → (l : ℕ) → l < d.volume → entry_of t y l ≡ entry_of s d l → ((entry_of s d l ≡ 0 → ⊥) → block_at t (entry_of s d l) ≡ block_at s (entry_of s d l))
    → block_found t (find t es y l) ≡ block_found s (find s ds d l)
cell_as s t ds es d y layout same v r q l h entry block =
    cell_rules t es y (ap (λ (x : ℕ). eqb x 1 || eqb x 2) same ∙ layout) q l (omega (arith, h, v))
    ∙ ap (block_named t) entry
    ∙ named_same s t (entry_of s d l) block
    ∙ sym (cell_rules s ds d layout r l h)

-- through a descriptor of a card that passes
module _ (c : List ℕ) (p : Passes c) (k : ℕ) (h : k < length (descriptors_of c)) (l : ℕ) (b : l < (get_or (descriptors_of c) k no_descriptor).volume) where
  layout_at : (eqb (get_or (descriptors_of c) k no_descriptor).layout 1 || eqb (get_or (descriptors_of c) k no_descriptor).layout 2) ≡ true
  layout_at = form_layout c _ (get_or (descriptors_of c) k no_descriptor) (region_at c (descriptors_of c) (chain_is (chain c) p.sound) k h).form

  pub cell_entry : block_found c (found_through c (get_or (descriptors_of c) k no_descriptor) l) ≡ block_named c (entry_of c (get_or (descriptors_of c) k no_descriptor) l)
  cell_entry = cell_rules c (descriptors_of c) (get_or (descriptors_of c) k no_descriptor) layout_at (p.rules k h) l b

  pub passing_found : is_misplaced (found_through c (get_or (descriptors_of c) k no_descriptor) l) ≡ false
  passing_found = found_rules c (descriptors_of c) (get_or (descriptors_of c) k no_descriptor) layout_at (p.rules k h) l b

-- through the active descriptor of a card that passes
pub active_placed : (c : List ℕ) → Passes c → (l : ℕ) → l < (active_of (descriptors_of c)).volume → is_misplaced (found_through c (active_of (descriptors_of c)) l) ≡ false
active_placed c p l h =
    let ds = descriptors_of c in
    let n = chain_some c ds (chain_is (chain c) p.sound) in
    let at = active_at ds n in
    subst (λ (d : Descriptor). is_misplaced (found_through c d l) ≡ false) (sym at) (passing_found c p (length ds - 1) (omega (arith, n)) l (subst (λ (d : Descriptor). l < d.volume) at h))

-- what is read through a descriptor whose region ends on the card is a block
block_long : (c : List ℕ) (b : ℕ) → 512 * b ≤ length c → (f : Found) → ((m p : Physical) → f ≡ Entry m p → (p.0 ≡ 0 → ⊥) → p.0 < b) → length (block_found c f) ≡ 512
unfolding block_found
block_long c b h (Misplaced x) inside = length-replicate {A = ℕ} 512 0
block_long c b h (Entry m p) inside = by (eqb p.0 0) refl
  where
    by : (z : Bool) → eqb p.0 0 ≡ z → length (pick z zero_block (block_at c p.0)) ≡ 512
    by true e = length-replicate {A = ℕ} 512 0
    by false e = length_block_at c p.0 (omega (arith, inside m p refl (eqb-false p.0 0 e)))

pub found_long : (c : List ℕ) (ds : List Descriptor) (d : Descriptor) → 512 * d.beta.0 ≤ length c → (l : ℕ) → length (block_found c (find c ds d l)) ≡ 512
found_long c ds d h l = block_long c d.beta.0 h (find c ds d l) (λ m p e n. placed_below ds d p.0 (find_placed c ds d l m p e) n)

-- the block found through a descriptor whose region lies below b is the same on two cards with the same blocks below b
module _ (s t : List ℕ) (b : ℕ) (below : Below s t b) (d : Descriptor) (region : Region d b) (ds : List Descriptor) where
  block_by : (f : Found) → ((m p : Physical) → f ≡ Entry m p → (p.0 ≡ 0 → ⊥) → p.0 < b) → block_found s f ≡ block_found t f
  unfolding block_found
  block_by (Misplaced h) inside = refl
  block_by (Entry m p) inside = named_same t s p.0 (λ n. below.blocks p.0 (inside m p refl n))

  pub local_block : (l : ℕ) → block_found s (find s ds d l) ≡ block_found t (find s ds d l)
  local_block l = block_by (find s ds d l) (λ m p e n. omega (arith, placed_below ds d p.0 (find_placed s ds d l m p e) n, region.upto))
