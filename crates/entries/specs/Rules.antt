-- What check asks of a descriptor, as a plain conjunction with no order.
use Rattle.std.specs.Prelude.{◌≡◌, true, List, ℕ, ◌*◌, ◌/◌, ◌%◌, ◌<◌, ◌≤◌, eqb}
use Rattle.blocks.specs.Pick.{pick}
use Rattle.blocks.specs.Descriptor.{table_size, phi_size, table_count}
use Rattle.blocks.specs.declared.descriptor.Descriptor.{Descriptor}
use Rattle.entries.specs.InPlace.{is_in_place}
use Rattle.entries.specs.Entry.{entry_at, phi_at, table_of}

-- the entry of logical block l, nil where its table block is nil
unfoldable pub entry_of : List ℕ → Descriptor → ℕ → ℕ
entry_of c d l = pick (eqb (table_of c d (l / table_size)) 0) 0 (entry_at c (table_of c d (l / table_size)) (l % table_size))

-- Phi, which layout 2 alone has: every entry is in place, those past n are nil, and no two name one block
pub record PhiRules (c : List ℕ) (ds : List Descriptor) (d : Descriptor) : Type 0 where
  pub in_place : (i : ℕ) → i < table_count d.volume → is_in_place ds d (phi_at c d i) ≡ true
  pub past_n : (i : ℕ) → table_count d.volume ≤ i → i < phi_size → phi_at c d i ≡ 0
  pub once : (i k : ℕ) → i < table_count d.volume → k < table_count d.volume → phi_at c d i ≡ phi_at c d k → (phi_at c d i ≡ 0 → ⊥) → i ≡ k
  -- Phi and Pi together
  pub tables_and_entries : (i l : ℕ) → i < table_count d.volume → l < d.volume → phi_at c d i ≡ entry_of c d l → phi_at c d i ≡ 0
  -- a data entry at or above alpha has its table block at or above alpha
  pub table_above : (l : ℕ) → l < d.volume → d.alpha.0 ≤ entry_of c d l → (entry_of c d l ≡ 0 → ⊥) → d.alpha.0 ≤ table_of c d (l / table_size)

-- the tables of either layout: every entry is in place, those past L in the last table block are nil, and no two name one block
pub record TableRules (c : List ℕ) (ds : List Descriptor) (d : Descriptor) : Type 0 where
  pub in_place : (l : ℕ) → l < d.volume → is_in_place ds d (entry_of c d l) ≡ true
  pub past_volume : (l : ℕ) → d.volume ≤ l → l < table_size * table_count d.volume → entry_of c d l ≡ 0
  pub once : (l k : ℕ) → l < d.volume → k < d.volume → entry_of c d l ≡ entry_of c d k → (entry_of c d l ≡ 0 → ⊥) → l ≡ k

pub record Rules (c : List ℕ) (ds : List Descriptor) (d : Descriptor) : Type 0 where
  pub phi : d.layout ≡ 2 → PhiRules c ds d
  pub tables : TableRules c ds d
