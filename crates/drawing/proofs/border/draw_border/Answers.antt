use Rattle.std.proofs.Common.{refl}
use Rattle.std.proofs.Common.{sym, ◌∙◌}
use Rattle.numbers.proofs.Refusals.{handed, never}
use Rattle.thermal_image.proofs.Answers.{kept, changed}
use Rattle.drawing.specs.Drawing.{border_on}
use Rattle.places.proofs.Codes.{border-done}
use Rattle.drawing.proofs.border.draw_border.Goals as goal

pub returns-in_err-border_refusal : goal.returns-in_err-border_refusal
unfolding border_on
returns-in_err-border_refusal c =
    record { value = handed _ _ c.from_residual.ensures.1 ∙ c.in_err-border_refusal.ensures; buf_after = kept c.in_err-border_refusal.ensures _ _ (never _) }

pub border_area-requires : goal.border_area-requires
border_area-requires c = border-done _ _ _ (sym c.in_ok-border_refusal.ensures)

pub returns : goal.returns
unfolding border_on
returns c = record { value = c.in_ok-border_refusal.ensures; buf_after = changed c.in_ok-border_refusal.ensures _ _ refl c.border_area.ensures }
