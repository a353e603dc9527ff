-- What stands between a card and its ledger.
pub mod Placed
pub mod Origins
