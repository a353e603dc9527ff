-- What a span read gives once its entries were looked at, by the verdict on them.
use mathlib.Core.Path.{◌≡◌, ap, ◌∙◌}
use mathlib.Core.Bool.{false}
use mathlib.Core.List.{List}
use Prim.Native.Nat.{ℕ, ◌+◌, ◌-◌, ◌/◌}
use native.Mathlib.Omega.{arith}
use lib.ListN.{length}
use Rattle.blocks.specs.declared.numbers.Physical.{Physical}
use Rattle.blocks.specs.declared.descriptor.Descriptor.{Descriptor}
use Rattle.pieces.specs.Span.{span_block, touched}
use Rattle.entries.specs.Found.{Verdict, Passed, Fault}
use Rattle.calls.specs.Call.{answer, accepted}
use Rattle.calls.specs.Check.{is_fault, fault_holder}
use Rattle.calls.specs.Spans.{misplaced_from, span_verdict, span_bytes}
use Rattle.spanreading.specs.Fetched.{Fetched, fetched}

module _ (c : List ℕ) (d : Descriptor) (o : ℕ) (bytes : List ℕ) (blocks : ℕ) (counted : blocks ≡ touched o (length bytes)) (v : Verdict) (is : v ≡ misplaced_from c d (o / 512) (o / 512 + blocks - o / 512)) where
  verdict_is : v ≡ span_verdict c d o (length bytes)
  unfolding span_verdict
  verdict_is =
      let e : o / 512 + blocks - o / 512 ≡ touched o (length bytes) = omega (arith, counted) in
      let f : o / 512 ≡ span_block o 0 = omega arith in
      is ∙ ap (misplaced_from c d (o / 512)) e ∙ ap (λ (l : ℕ). misplaced_from c d l (touched o (length bytes))) f

  pub fetched_10 : (h : Physical) → v ≡ Fault h → ◌≡◌ {A = Fetched} (record { answer = answer 10 h.0; bytes = bytes }) (fetched c d o bytes)
  unfolding fetched is_fault fault_holder
  fetched_10 h e = rw (← verdict_is, e)

  pub faultless : v ≡ Passed → is_fault (span_verdict c d o (length bytes)) ≡ false
  unfolding is_fault
  faultless e = rw (← verdict_is, e)

  pub fetched_0 : v ≡ Passed → (out : List ℕ) → out ≡ span_bytes c d o (length bytes) → ◌≡◌ {A = Fetched} (record { answer = accepted; bytes = out }) (fetched c d o bytes)
  unfolding fetched is_fault
  fetched_0 e out q = rw (← verdict_is, e, q)
