-- `is_next` meets its contract: what is placed has the layout and the L of the first descriptor, and these are in range.
use Rattle.std.proofs.Common.{sym, ◌∙◌}
use Rattle.links.proofs.ChainLaws.{region_layout, region_volume}
use Rattle.links.proofs.SoundLaws.{form_range}
use Rattle.validating.proofs.sound.is_next.Goals as goal

pub is_formed-requires : goal.is_formed-requires
is_formed-requires c =
    let placed = sym c.is_placed.ensures ∙ c.if-is_placed.true in
    (c.requires.0, c.requires.1, λ e. rw (region_layout _ _ _ _ placed, region_volume _ _ _ _ placed) (form_range _ _ _ c.requires.2))
