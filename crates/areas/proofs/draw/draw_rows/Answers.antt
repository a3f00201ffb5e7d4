use Rattle.std.proofs.Common.{◌≡◌, refl, inr, arith}
use Rattle.areas.proofs.Laws.{area-none, area-row}
use Rattle.areas.proofs.draw.draw_rows.Goals as goal

pub loop-j-init : goal.loop-j-init
loop-j-init g c = area-none _ _ _ _ _ _ _ (inr refl)

pub loop-j-preserved : goal.loop-j-preserved
loop-j-preserved g c =
    area-row _ _ _ _ _ _ _ c.requires.some c.requires.across _ c.start_of.ensures _ (λ k u v d. refl) c.loop-j.invariant c.draw_dots.ensures

pub returns : goal.returns
returns g c =
    let e : c.loop-j.j ≡ c.args.area.h = omega arith in
    rw e at c.loop-j.invariant
