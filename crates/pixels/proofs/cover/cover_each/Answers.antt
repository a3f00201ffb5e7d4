use Rattle.std.proofs.Common.{refl, ap, ◌∙◌}
use Rattle.dots.proofs.Laws.{drawn-full}
use Rattle.pixels.specs.Steps.{crisp}
use Rattle.pixels.proofs.Crispness.{all-crisp-at, crisp-leaves}
use Rattle.pixels.proofs.Runs.{drawn-start, drawn-next, drawn-end}
use Rattle.pixels.proofs.cover.cover_each.Goals as goal
use Rattle.pixels.proofs.cover.cover_each.Goals.{then-p, else-p}

pub loop-i-init : goal.loop-i-init
loop-i-init c = drawn-start _ _ _ _ _ _

pub loop-i-preserved : goal.loop-i-preserved
loop-i-preserved c =
    let u = ap crisp c.load_dot-p.ensures ∙ all-crisp-at _ _ _ _ c.loop-i-test.true c.requires.count_value in
    drawn-next _ _ _ _ _ _ c.loop-i.invariant c.loop-i-test.true c.requires.count_in_bounds.0 c.load_dot-p.ensures c.load_dot-s.ensures
    (elim c.if-p.branch [
      | then-p w ↦ w.d-is ∙ drawn-full c.load_dot-p.result c.load_dot-s.result refl w.if-p.true
      | else-p w ↦ w.d-is ∙ crisp-leaves c.load_dot-p.result c.load_dot-s.result u w.if-p.false
    ])
    c.store_dot.ensures

pub returns : goal.returns
returns c = drawn-end _ _ _ _ _ _ c.loop-i.invariant c.loop-i-test.false
