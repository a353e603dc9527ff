-- The edges of 01's rules: what the definitions compute is what the table says, group by group and as a whole; the bytes of names; and the largest area.
use mathlib.Core.Path.{◌≡◌, refl}
use mathlib.Core.Bool.{true, false}
use mathlib.Core.List.{List, map}
use Prim.Native.Nat.{ℕ}
use native.Mathlib.Omega.{arith}
use lib.ListN.{length}
use Rattle.blocks.specs.Bytes.{block_count}
use Rattle.calls.specs.Call.{Call, Ream, answer}
use Rattle.calls.specs.Parts.{area_bad}
use Rattle.calls.specs.Ladder.{admission, first_row, ream_rows}
use Rattle.calls.specs.Meaning.{meaning_of, rows_of, answer_of}
use Rattle.calls.proofs.RowLaws.{not_admitted, admission_1}
use Rattle.claims.specs.Bench.{Result, expected, computed, showing, block_of}
use Rattle.claims.proofs.Bench.{apart, beta_in, last_byte_in}
use Rattle.claims.proofs.Running.{running}
use Rattle.edges.specs.Edges.{area_edges, refused_edges, name_edges, form_edges, chain_edges, room_edges, order_edges, revision_edges, edges, allowed, WrongEdges, NameBytes, SizeEdges}
use Rattle.samples.proofs.FastCheck.{running_once}
use Rattle.samples.proofs.AsSaid.{AsSaid, ◌and◌, quickly}
use Rattle.blocks.specs.Descriptor.{as_format}

area_edges_lem : AsSaid area_edges
unfolding running_once area_edges
area_edges_lem = quickly _ refl

refused_edges_lem : AsSaid refused_edges
unfolding running_once refused_edges
refused_edges_lem = quickly _ refl

name_edges_lem : AsSaid name_edges
unfolding running_once name_edges
name_edges_lem = quickly _ refl

form_edges_lem : AsSaid form_edges
unfolding running_once form_edges
form_edges_lem = quickly _ refl

chain_edges_lem : AsSaid chain_edges
unfolding running_once chain_edges
chain_edges_lem = quickly _ refl

room_edges_lem : AsSaid room_edges
unfolding running_once room_edges
room_edges_lem = quickly _ refl

order_edges_lem : AsSaid order_edges
unfolding running_once order_edges
order_edges_lem = quickly _ refl

revision_edges_lem : AsSaid revision_edges
unfolding running_once revision_edges
revision_edges_lem = quickly _ refl

whole : AsSaid edges
unfolding edges
whole =
    area_edges_lem
    and refused_edges_lem
    and name_edges_lem
    and form_edges_lem
    and chain_edges_lem
    and room_edges_lem
    and order_edges_lem
    and revision_edges_lem

pub edge_values : map computed edges ≡ map expected edges
edge_values = whole.as_said

pub wrong_edges : WrongEdges
unfolding running WrongEdges expected computed showing block_of beta_in last_byte_in
wrong_edges = (
  apart (λ (r : Result). r.answer.number) 14 6 (λ e. omega arith) _ _ refl refl,
  apart (λ (r : Result). r.answer.place) 1 0 (λ e. omega arith) _ _ refl refl,
  apart (λ (r : Result). beta_in r.shown) 2 1 (λ e. omega arith) _ _ refl refl,
  apart (λ (r : Result). last_byte_in r.shown) 0 1 (λ e. omega arith) _ _ refl refl,
  apart (λ (r : Result). last_byte_in r.shown) 9 0 (λ e. omega arith) _ _ refl refl,
  apart (λ (r : Result). r.answer.place) 1 0 (λ e. omega arith) _ _ refl refl,
  apart (λ (r : Result). beta_in r.shown) 2 1 (λ e. omega arith) _ _ refl refl,
)

pub name_bytes : NameBytes
unfolding running_once allowed NameBytes
name_bytes = (refl, refl)

-- the first row of every call
area_first : (c : List ℕ) → area_bad c ≡ true → (k : Call) → answer_of k c ≡ answer 1 0
unfolding answer_of rows_of
area_first c bad k = not_admitted c (answer 1 0) (admission_1 c (area_bad c) refl bad) ((meaning_of k).rows c) (λ z. omega arith)

area_most : (c : List ℕ) → length c ≡ 33554432 → area_bad c ≡ false
unfolding area_bad block_count
area_most c e = rw e refl

area_over : (c : List ℕ) → length c ≡ 33554944 → area_bad c ≡ true
unfolding area_bad block_count
area_over c e = rw e refl

layout_first : (c : List ℕ) → area_bad c ≡ false → (volume : ℕ) (name : List ℕ) → answer_of (Ream (as_format 3 volume name)) c ≡ answer 2 0
unfolding answer_of rows_of admission first_row ream_rows
layout_first c good volume name = rw good refl

pub size_edges : SizeEdges
unfolding SizeEdges
size_edges c = (λ e. layout_first c (area_most c e), λ e. area_first c (area_over c e))
