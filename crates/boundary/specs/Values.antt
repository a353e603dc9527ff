-- Values of the definitions of the exported functions: names and targets as the caller gives them, the padding of a name, a record byte by byte, and the
-- listing of a card with three descriptors.
use Rattle.std.specs.Prelude.{◌≡◌, List, [], ◌∷◌, ◌++◌, ℕ, suc, replicate}
use Rattle.blocks.specs.Name.{no_name, padded}
use Rattle.blocks.specs.Descriptor.{tail_size, physical, descriptor_block}
use Rattle.calls.specs.declared.answer.Record.{Record}
use Rattle.calls.specs.Call.{Active, Snapshot, answer, accepted}
use Rattle.boundary.specs.Exported.{name_in, target_in, padding_of}
use Rattle.boundary.specs.RecordBytes.{record_bytes, record_in, listing_of}

-- Sixteen bytes are taken as they are; fifteen and seventeen are no name.
unfoldable pub NameValues : Type 0
NameValues =
    (name_in (replicate 15 97) ≡ no_name)
    × (name_in (replicate 16 97) ≡ replicate 16 97)
    × (name_in (replicate 17 97) ≡ no_name)

-- 0 is the active store, any other number a snapshot.
unfoldable pub TargetValues : Type 0
TargetValues = (target_in 0 ≡ Active) × ((n : ℕ) → target_in (suc n) ≡ Snapshot)

-- A text of one letter and of sixteen is padded; no text, one of seventeen letters and one with a zero byte are no name.
unfoldable pub PaddedValues : Type 0
PaddedValues =
    (padded (97 ∷ []) ≡ 97 ∷ replicate 15 0)
    × (padded (replicate 16 97) ≡ replicate 16 97)
    × (padded [] ≡ no_name)
    × (padded (replicate 17 97) ≡ no_name)
    × (padded (109 ∷ 111 ∷ 110 ∷ 0 ∷ []) ≡ no_name)

-- The same as the exported function gives it: 0 and the name, or 4 and the lent bytes as they were, also where those are not sixteen.
unfoldable pub PaddingValues : Type 0
PaddingValues =
    (padding_of (97 ∷ []) (replicate 16 9) ≡ record { number = 0; name = 97 ∷ replicate 15 0 })
    × (padding_of [] (replicate 16 9) ≡ record { number = 4; name = replicate 16 9 })
    × (padding_of (109 ∷ 111 ∷ 110 ∷ 0 ∷ []) (replicate 16 9) ≡ record { number = 4; name = replicate 16 9 })
    × (padding_of (97 ∷ []) (replicate 15 9) ≡ record { number = 4; name = replicate 15 9 })
    × (padding_of (97 ∷ []) (replicate 17 9) ≡ record { number = 4; name = replicate 17 9 })

-- a record whose 28 bytes all differ: sixteen letters, then the bytes 1 to 12
abbrev pub lettered : Record
lettered =
    record {
      name = 97 ∷ 98 ∷ 99 ∷ 100 ∷ 101 ∷ 102 ∷ 103 ∷ 104 ∷ 105 ∷ 106 ∷ 107 ∷ 108 ∷ 109 ∷ 110 ∷ 111 ∷ 112 ∷ [];
      alpha = physical 67305985;
      beta = physical 134678021;
      next = physical 202050057;
    }

abbrev pub lettered_bytes : List ℕ
lettered_bytes =
    97 ∷ 98 ∷ 99 ∷ 100 ∷ 101 ∷ 102 ∷ 103 ∷ 104 ∷ 105 ∷ 106 ∷ 107 ∷ 108 ∷ 109 ∷ 110 ∷ 111 ∷ 112
    ∷ 1 ∷ 2 ∷ 3 ∷ 4
    ∷ 5 ∷ 6 ∷ 7 ∷ 8
    ∷ 9 ∷ 10 ∷ 11 ∷ 12
    ∷ []

-- A record is its name, then alpha, beta and next, each lowest byte first.
unfoldable pub RecordValues : Type 0
RecordValues = (record_bytes lettered ≡ lettered_bytes) × (record_in lettered_bytes ≡ lettered)

-- a card of three blocks, layout 2, L 1: a descriptor in each, the snapshots mon and tue and the active store fs
abbrev pub mon : List ℕ
mon = 109 ∷ 111 ∷ 110 ∷ replicate 13 0

abbrev pub tue : List ℕ
tue = 116 ∷ 117 ∷ 101 ∷ replicate 13 0

abbrev pub fs : List ℕ
fs = 102 ∷ 115 ∷ replicate 14 0

abbrev pub opened : ℕ → ℕ → ℕ → List ℕ → List ℕ
opened alpha beta next name =
    descriptor_block (record { layout = 2; volume = 1; alpha = physical alpha; beta = physical beta; next = physical next; name = name }) (replicate tail_size 0)

abbrev pub three_card : List ℕ
three_card = opened 0 1 1 mon ++ opened 1 2 2 tue ++ opened 2 3 0 fs

-- the bytes of its three records
abbrev pub three_records : List ℕ
three_records =
    mon
    ++ (0 ∷ 0 ∷ 0 ∷ 0 ∷ 1 ∷ 0 ∷ 0 ∷ 0 ∷ 1 ∷ 0 ∷ 0 ∷ 0 ∷ [])
    ++ tue
    ++ (1 ∷ 0 ∷ 0 ∷ 0 ∷ 2 ∷ 0 ∷ 0 ∷ 0 ∷ 2 ∷ 0 ∷ 0 ∷ 0 ∷ [])
    ++ fs
    ++ (2 ∷ 0 ∷ 0 ∷ 0 ∷ 3 ∷ 0 ∷ 0 ∷ 0 ∷ 0 ∷ 0 ∷ 0 ∷ 0 ∷ [])

-- Three records are 84 bytes: 83 are refused by 14 and left as they were, of 85 the last stays.
unfoldable pub ListingValues : Type 0
ListingValues =
    (listing_of three_card (replicate 83 9) ≡ record { answer = answer 14 0; bytes = replicate 83 9 })
    × (listing_of three_card (replicate 84 9) ≡ record { answer = accepted; bytes = three_records })
    × (listing_of three_card (replicate 85 9) ≡ record { answer = accepted; bytes = three_records ++ (9 ∷ []) })
