-- What a call gives, from what the code of a visit returns.
use Rattle.std.specs.Prelude.{Option, Some, None, List, ℕ}
use Rattle.calls.specs.Call.{Given, NoneGiven, NameGiven}

-- none, or a name: a name of zeros, which no descriptor of a sound chain has, is not none
abbrev pub given_as : Option (List ℕ) → Given
given_as None = NoneGiven
given_as (Some name) = NameGiven name
