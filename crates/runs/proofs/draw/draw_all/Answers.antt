use mathlib.Core.Path.{sym, ◌∙◌}
use native.Mathlib.Omega.{arith}
use Rattle.job.proofs.Found.{found}
use Rattle.job.proofs.Walk.{good, left-end}
use Rattle.runs.proofs.Going.{drawing-start, drawing-end, drawing-sound, drawing-room, drawing-next}
use Rattle.runs.proofs.draw.draw_all.Goals as goal

pub loop-kind-init : goal.loop-kind-init
loop-kind-init c = drawing-start _ _ (good _ c.args.job.sound)

pub command_at-c-requires : goal.command_at-c-requires
command_at-c-requires c =
    let l = c.loop-kind in let e = (sym c.in-Record.is ∙ c.next_record.ensures) in (omega (arith, found _ _ e), drawing-sound _ _ _ l.height l.at c.requires (good _ c.args.job.sound) l.invariant e)

pub obey-height-requires : goal.obey-height-requires
obey-height-requires c =
    let l = c.loop-kind in let p = drawing-room _ _ _ l.height l.at c.requires (good _ c.args.job.sound) l.invariant (sym c.in-Record.is ∙ c.next_record.ensures) c.command_at-c.ensures c.paper_width-width.ensures in (p.0, p.1, p.2)

pub loop-kind-smaller : goal.loop-kind-smaller
loop-kind-smaller c = omega (arith, found _ _ (sym c.in-Record.is ∙ c.next_record.ensures))

pub loop-kind-preserved : goal.loop-kind-preserved
loop-kind-preserved c =
    let l = c.loop-kind in drawing-next _ _ _ l.height l.at c.requires (good _ c.args.job.sound) l.invariant (sym c.in-Record.is ∙ c.next_record.ensures) c.command_at-c.ensures c.paper_width-width.ensures c.paper_color-paper.ensures c.obey-height.ensures.value c.obey-height.ensures.buf_after

pub shape_of-buf : goal.shape_of-buf
shape_of-buf c = omega arith

pub returns : goal.returns
returns c =
    let l = c.loop-kind in drawing-end _ _ _ l.height l.at c.requires (good _ c.args.job.sound) l.invariant (left-end _ _ l.invariant.looked.left _ c.next_record.ensures c.in_default.not-Record)
