-- Whole cards after a call: what the definitions compute is what the tables say.
use mathlib.Core.Path.{◌≡◌, refl}
use mathlib.Core.List.{List, map}
use Prim.Native.Nat.{ℕ}
use native.Mathlib.Omega.{arith}
use lib.ListN.{get_or}
use Rattle.calls.specs.Step.{Done}
use Rattle.cards.specs.Cards.{NumberBytes, DescriptorBytes, counting, said, left, writes1, writes2, snaps, reverts, reams, reverts1, stops, during, stopped, WrongCards}
use Rattle.blocks.specs.Bytes.{store_upto}
use Rattle.claims.specs.Claims.{lent_at_entry}
use Rattle.claims.specs.OnePass.{before_pass, during_pass}
use Rattle.claims.proofs.Bench.{apart}
use Rattle.claims.proofs.Running.{running}

pub number_bytes : NumberBytes
unfolding running NumberBytes
number_bytes = (refl, refl)

pub descriptor_bytes : DescriptorBytes
unfolding running DescriptorBytes
descriptor_bytes = refl

pub writes_layout_1 : map left writes1 ≡ map said writes1
unfolding running writes1 counting said left lent_at_entry
writes_layout_1 = refl

pub writes_layout_2 : map left writes2 ≡ map said writes2
unfolding running writes2 counting said left lent_at_entry
writes_layout_2 = refl

pub snaps_leave : map left snaps ≡ map said snaps
unfolding running snaps counting said left lent_at_entry
snaps_leave = refl

pub reverts_leave : map left reverts ≡ map said reverts
unfolding running reverts counting said left lent_at_entry
reverts_leave = refl

pub reams_leave : map left reams ≡ map said reams
unfolding running reams counting said left lent_at_entry
reams_leave = refl

pub reverts_1_leave : map left reverts1 ≡ map said reverts1
unfolding running reverts1 counting said left lent_at_entry
reverts_1_leave = refl

pub stops_leave : map during stops ≡ map stopped stops
unfolding running stops counting during stopped during_pass before_pass store_upto
stops_leave = refl

pub wrong_cards : WrongCards
unfolding running WrongCards counting said left lent_at_entry during stopped during_pass before_pass store_upto
wrong_cards = (
  apart (λ (d : Done). d.outcome.answer.number) 11 0 (λ e. omega arith) _ _ refl refl,
  apart (λ (d : Done). get_or d.card 528 0) 2 3 (λ e. omega arith) _ _ refl refl,
  apart (λ (c : List ℕ). get_or c 1548 0) 3 0 (λ e. omega arith) _ _ refl refl,
  apart (λ (d : Done). get_or d.card 40 0) 1 0 (λ e. omega arith) _ _ refl refl,
  apart (λ (d : Done). get_or d.card 528 0) 2 3 (λ e. omega arith) _ _ refl refl,
)
