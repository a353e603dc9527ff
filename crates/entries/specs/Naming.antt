-- What check walks: the namings of one descriptor in 01's order, and the first of them that is at fault.
use Rattle.std.specs.Prelude.{Bool, true, false, not, ◌&&◌, ◌||◌, List, [], ◌∷◌, ◌++◌, ℕ, zero, suc, ◌+◌, ◌*◌, eqb, ltb, leb}
use Rattle.blocks.specs.Pick.{pick}
use Rattle.blocks.specs.Descriptor.{physical, table_size, phi_size, table_count}
use Rattle.blocks.specs.declared.descriptor.Descriptor.{Descriptor}
use Rattle.entries.specs.InPlace.{is_in_place}
use Rattle.entries.specs.Entry.{entry_at, phi_at, table_of}
use Rattle.entries.specs.Found.{Verdict, Passed, Fault}

-- an entry that check takes: the block that holds it, its value, whether it stands before n or L, and whether it is one of Phi's
pub record Naming : Type 0 where
  pub holder : ℕ
  pub value : ℕ
  pub counted : Bool
  pub phi : Bool

-- k entries of table block m, the table of group i, from entry j on
unfoldable pub table_namings : List ℕ → Descriptor → ℕ → ℕ → ℕ → ℕ → List Naming
table_namings c d i m zero j = []
table_namings c d i m (suc k) j =
    record { holder = m; value = entry_at c m j; counted = ltb (table_size * i + j) d.volume; phi = false } ∷ table_namings c d i m k (suc j)

-- the same, where those before entry left are counted
unfoldable pub entry_namings : List ℕ → ℕ → ℕ → ℕ → ℕ → List Naming
entry_namings c m left zero j = []
entry_namings c m left (suc k) j = record { holder = m; value = entry_at c m j; counted = ltb j left; phi = false } ∷ entry_namings c m left k (suc j)

-- layout 1: k tables from that of group i on
unfoldable pub tables_namings : List ℕ → Descriptor → ℕ → ℕ → List Naming
tables_namings c d zero i = []
tables_namings c d (suc k) i = table_namings c d i (table_of c d i) table_size 0 ++ tables_namings c d k (suc i)

-- layout 2: k entries of Phi from entry i on, each followed by the entries of the table that it names
unfoldable pub phi_namings : List ℕ → Descriptor → ℕ → ℕ → List Naming
phi_namings c d zero i = []
phi_namings c d (suc k) i =
    let m = phi_at c d i in
    let table = table_namings c d i m table_size 0 in
    let counted = ltb i (table_count d.volume) in
    record { holder = d.alpha.0; value = m; counted = counted; phi = true }
    ∷ pick (counted && not (eqb m 0)) table [] ++ phi_namings c d k (suc i)

-- all that check takes of a descriptor: Phi's entry, then that table's entries, rising
unfoldable pub namings : List ℕ → Descriptor → List Naming
namings c d = pick (eqb d.layout 1) (tables_namings c d (table_count d.volume) 0) (phi_namings c d phi_size 0)

-- whether a value is among those of a list
unfoldable pub among : List ℕ → ℕ → Bool
among [] v = false
among (x ∷ xs) v = eqb x v || among xs v

-- whether an entry is against a rule of check, after the values named before it: not in place; set past n or L; a block named before;
-- in layout 2, a data entry at or above alpha in a table block below alpha
unfoldable pub at_fault : List Descriptor → Descriptor → List ℕ → Naming → Bool
at_fault ds d before e =
    not (is_in_place ds d e.value)
    || (not (eqb e.value 0) && (not e.counted || among before e.value))
    || (eqb d.layout 2 && not e.phi && leb d.alpha.0 e.value && ltb e.holder d.alpha.0)

-- the verdict on some namings: none is at fault, or the block that holds the first that is
unfoldable pub first_fault : List Descriptor → Descriptor → List ℕ → List Naming → Verdict
first_fault ds d before [] = Passed
first_fault ds d before (e ∷ es) =
    let rest = first_fault ds d (e.value ∷ before) es in
    pick (at_fault ds d before e) (Fault (physical e.holder)) rest

-- the check of one descriptor of the chain
unfoldable pub check_one : List ℕ → List Descriptor → Descriptor → Verdict
check_one c ds d = first_fault ds d [] (namings c d)
