use Rattle.std.proofs.Common.{◌≡◌, ◌∙◌, refl, inr, arith}
use Rattle.areas.proofs.Laws.{area-none, area-row}
use Rattle.entries.proofs.image.image_rows.Goals as goal

pub loop-j-init : goal.loop-j-init
loop-j-init c = area-none _ _ _ _ _ _ _ (inr refl)

pub loop-j-preserved : goal.loop-j-preserved
loop-j-preserved c =
    let fits = c.requires.fits.1 in
    area-row _ _ _ _ _ _ _ fits.some fits.across _ c.start_of-at.ensures _ (λ k u v d. refl) c.loop-j.invariant
    (c.image_row.ensures ∙ rw (c.of-stamp.ensures.1, c.of-mix.ensures.1))

pub returns : goal.returns
returns c =
    let e : c.loop-j.j ≡ c.args.area.h = omega arith in
    rw e at c.loop-j.invariant
