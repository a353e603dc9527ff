-- What holds of the answer of every call: a refusal alters nothing, 'no room' comes only if the blocks needed exceed those free, and 6 exactly where
-- a call comes to an unsound chain.
use borrow.Author.Tests.{eqb-true}
use Rattle.calls.specs.Ladder.{first_row}
use Rattle.calls.specs.Meaning.{rows_of, answer_of}
use Rattle.calls.specs.Step.{step}
use Rattle.calls.proofs.RowLaws.{rows_numbered, none, all_passed}
use Rattle.claims.specs.Claims.{RefusalClaim, NoRoomClaim, ChainClaim}
use Rattle.chains.proofs.ChainedLaws.{chain_place_lem, place_chain, chain_chained, chained_chain}
use Rattle.claims.proofs.Owed.{owed}

pub refusal_claim : RefusalClaim
unfolding RefusalClaim step answer_of
refusal_claim k c = (
  λ e. (rw e, rw (e, (owed k).lent)),
  λ e. rw e (all_passed (rows_of k c) (none (rows_of k c) (rows_numbered k c) (eqb-true (first_row (rows_of k c)).number 0 e))),
)

pub no_room_claim : NoRoomClaim
unfolding NoRoomClaim
no_room_claim k c e = (owed k).room c e

pub chain_claim : ChainClaim
unfolding ChainClaim
chain_claim c = (λ ds. (chain_chained c ds, chained_chain c ds), λ q. (chain_place_lem c q, place_chain c q), λ k q. (owed k).unsound c q)
