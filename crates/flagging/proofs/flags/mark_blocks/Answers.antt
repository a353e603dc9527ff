-- `mark_blocks` meets its contract: the run is written at once.
use Rattle.std.proofs.Common.{◌≡◌, ℕ, replicate, arith, sym, ap, ◌∙◌}
use Rattle.std.proofs.lemmas.List.{length-take, length-drop, length-replicate}
use Rattle.std.proofs.lemmas.Slice.{put_mid-paste}
use Rattle.entries.proofs.MarkLaws.{flagged_run}
use Rattle.flagging.proofs.flags.mark_blocks.Goals as goal

pub returns : goal.returns
returns c =
    let filled : c.fill.new.self ≡ replicate c.args.n 255 = c.fill.ensures.after (λ y e. e) ∙ ap (λ (m : ℕ). replicate m 255) (omega (arith, length-take {A = ℕ}, length-drop {A = ℕ})) in
    put_mid-paste _ _ c.args.seen.now _ (replicate c.args.n 255) c.args.n filled (omega arith) (sym (length-replicate c.args.n 255)) ∙ flagged_run _ _ _ c.requires
