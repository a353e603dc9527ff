-- When layout and L of a descriptor are in range.
use Rattle.std.specs.Prelude.{Bool, ◌&&◌, ◌||◌, eqb, ltb, leb}
use Rattle.blocks.specs.Descriptor.{most_volume}
use Rattle.blocks.specs.declared.descriptor.Descriptor.{Descriptor}

-- layout is 1 or 2, and L from 1 up
abbrev pub in_range : Descriptor → Bool
in_range d = (eqb d.layout 1 || eqb d.layout 2) && ltb 0 d.volume && leb d.volume most_volume
