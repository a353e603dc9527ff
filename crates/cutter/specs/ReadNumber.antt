-- What the functions that read a number give.
use Rattle.std.specs.Prelude.{◌&&◌, List, ℕ, leb, Option, None, Some}
use Rattle.blocks.specs.Pick.{pick}
use Rattle.cutter.specs.Grammar.{all_digits, digits_from, most_number, is_number, has_number, number_of}

-- what digits say where n is what those before them say: a number up to 65,535, or none
unfoldable pub digits_number : ℕ → List ℕ → Option ℕ
digits_number n ds = pick (all_digits ds && leb (digits_from n ds) most_number) (Some (digits_from n ds)) None

-- what a text says as a number
unfoldable pub number_in : List ℕ → Option ℕ
number_in ds = pick (is_number ds) (Some (digits_from 0 ds)) None

-- what a word says as a number after a key
unfoldable pub number_after : List ℕ → List ℕ → Option ℕ
number_after key word = pick (has_number key word) (Some (number_of key word)) None
