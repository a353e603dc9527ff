-- Check as 01 orders it, and beside it 'passes' as a conjunction with no order.
use Rattle.std.specs.Prelude.{◌≡◌, Bool, true, false, List, [], ◌∷◌, ℕ, ◌<◌, length, get_or}
use Rattle.blocks.specs.Pick.{pick}
use Rattle.blocks.specs.Descriptor.{no_descriptor}
use Rattle.chains.specs.Chain.{chain, chain_sound}
use Rattle.blocks.specs.declared.descriptor.Descriptor.{Descriptor}
use Rattle.entries.specs.Naming.{namings, check_one}
use Rattle.entries.specs.Found.{Verdict, Passed, Fault}
use Rattle.entries.specs.Rules.{Rules}
use Rattle.entries.specs.Marks.{next_turn, next_flags, Taken, taking_all}
use Rattle.calls.specs.Parts.{area_bad, descriptors_of}

-- the first of two verdicts that is a fault
unfoldable pub or_else : Verdict → Verdict → Verdict
or_else Passed later = later
or_else (Fault h) later = Fault h

-- the first fault among some descriptors of the chain ds, in chain order
unfoldable pub check_all : List ℕ → List Descriptor → List Descriptor → Verdict
check_all c ds [] = Passed
check_all c ds (d ∷ rest) = let later = check_all c ds rest in or_else (check_one c ds d) later

-- the verdict of check on a card with a sound chain
unfoldable pub check_card : List ℕ → Verdict
check_card c = check_all c (descriptors_of c) (descriptors_of c)

-- whether it is a fault, and the block that holds the entry at fault
unfoldable pub is_fault : Verdict → Bool
is_fault Passed = false
is_fault (Fault h) = true

unfoldable pub fault_holder : Verdict → ℕ
fault_holder Passed = 0
fault_holder (Fault h) = h.0

-- what the check in code leaves of some descriptors, each walked in the turn after the last: the verdict, and the flags
unfoldable pub taking_chain : List ℕ → List ℕ → ℕ → ℕ → ℕ → List ℕ → List Descriptor → Taken
taking_chain c starts cost count turn seen [] = record { verdict = Passed; flags = seen }
taking_chain c starts cost count turn seen (d ∷ rest) =
    let one = taking_all d (next_turn turn) (next_flags seen starts cost count turn) (namings c d) in
    let later = taking_chain c starts cost count (next_turn turn) one.flags rest in
    pick (is_fault one.verdict) one later

-- a card that passes check: the area is a card, the chain is sound, and each descriptor keeps the rules
pub record Passes (c : List ℕ) : Type 0 where
  pub area : area_bad c ≡ false
  pub sound : chain_sound (chain c) ≡ true
  pub rules : (k : ℕ) → k < length (descriptors_of c) → Rules c (descriptors_of c) (get_or (descriptors_of c) k no_descriptor)
