-- `walk_chain` meets its contract: the first descriptor ends it, or after k turns k sound descriptors have passed, and the hashes of their names have their flags.
use Rattle.std.proofs.Common.{refl, replicate, sym, ◌∙◌}
use Rattle.links.proofs.ChainLaws.{walk_none, first_wrong, first_end, first_more, first_hashed, walk_wrong, walk_end, walked_more, hashed_more, walked_read, walk_out}
use Rattle.walking.proofs.chain.walk_chain.Goals as goal
use Rattle.walking.proofs.chain.walk_chain.Goals.{then-not-is_next-via-then-not-is_next, then-not-is_next-via-else-not-is_next+then-is_repeated}

pub returns-then-n-eq0 : goal.returns-then-n-eq0
returns-then-n-eq0 c = walk_none _ _ c.requires c.if-n-eq0.true

pub returns-then-not-is_right : goal.returns-then-not-is_right
returns-then-not-is_right c = first_wrong _ _ c.requires c.if-n-eq0.false _ c.read_descriptor-first.ensures _ c.is_right.ensures c.if-not-is_right.true

pub returns-then-is_nil : goal.returns-then-is_nil
returns-then-is_nil c = first_end _ _ c.requires c.if-n-eq0.false _ c.read_descriptor-first.ensures _ c.is_right.ensures c.if-not-is_right.false (sym c.is_nil.ensures ∙ c.if-is_nil.true)

pub loop-k-init : goal.loop-k-init
loop-k-init c = (
  first_more _ _ c.requires c.if-n-eq0.false _ c.read_descriptor-first.ensures _ c.is_right.ensures c.if-not-is_right.false (sym c.is_nil.ensures ∙ c.if-is_nil.false),
  first_hashed _ _ c.requires _ c.read_descriptor-first.ensures (replicate 32 0) refl _ c.hash.ensures.value _ c.set_flag.ensures,
)

pub returns-then-not-is_next : goal.returns-then-not-is_next
returns-then-not-is_next c = elim c.then-not-is_next.branch [
  | then-not-is_next-via-then-not-is_next w ↦
      walk_wrong _ _ _ _ _ c.loop-k.invariant.0 c.loop-k-test.true _ c.read_descriptor-d.ensures _ c.read_descriptor-first.ensures _ c.is_next.ensures _ refl (rw w.if-not-is_next.true)
  | then-not-is_next-via-else-not-is_next+then-is_repeated w ↦
      walk_wrong _ _ _ _ _ c.loop-k.invariant.0 c.loop-k-test.true _ c.read_descriptor-d.ensures _ c.read_descriptor-first.ensures _ c.is_next.ensures _ w.is_repeated.ensures (rw (w.if-not-is_next.false, w.if-is_repeated.true))
]

pub returns-then-is_nil-2 : goal.returns-then-is_nil-2
returns-then-is_nil-2 c =
    walk_end _ _ _ _ _ c.loop-k.invariant.0 c.loop-k-test.true _ c.read_descriptor-d.ensures _ c.read_descriptor-first.ensures _ c.is_next.ensures _ c.is_repeated.ensures (rw (c.if-not-is_next.false, c.if-is_repeated.false)) c.requires.2 (sym c.is_nil-in-loop-k.ensures ∙ c.if-is_nil-2.true)

pub loop-k-preserved : goal.loop-k-preserved
loop-k-preserved c = (
  walked_more _ _ _ _ _ c.loop-k.invariant.0 c.loop-k-test.true _ c.read_descriptor-d.ensures _ c.read_descriptor-first.ensures _ c.is_next.ensures _ c.is_repeated.ensures (rw (c.if-not-is_next.false, c.if-is_repeated.false)) (sym c.is_nil-in-loop-k.ensures ∙ c.if-is_nil-2.false),
  hashed_more _ _ _ _ c.loop-k.invariant.1 _ (walked_read _ _ _ _ _ c.loop-k.invariant.0 _ c.read_descriptor-d.ensures) _ c.hash-in-loop-k.ensures.value _ c.set_flag-in-loop-k.ensures _,
)

pub returns : goal.returns
returns c = walk_out _ _ _ _ _ c.loop-k.invariant.0 c.loop-k-test.false
