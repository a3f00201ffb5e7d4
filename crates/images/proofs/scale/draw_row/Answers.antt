-- `images::scale::draw_row` meets its contract. Assumes nothing.
use mathlib.Core.Path.{◌≡◌, sym, ◌∙◌}
use mathlib.Core.Bool.{true}
use Rattle.std.proofs.Common.{rules}
use native.Mathlib.Omega.{arith}
use Rattle.images.specs.Steps.{repeated}
use Rattle.images.specs.declared.formats.Format.TheVariants.{Bits}
use Rattle.images.proofs.Sides.{sides}
use Rattle.images.proofs.Scaling.{repeat-is-row, bits-in-data, bits-shown, bits-is-row}
use Rattle.images.proofs.scale.draw_row.Goals as goal
use Rattle.images.proofs.scale.draw_row.Goals.{Then-eq, Then-repeats}

again : (c : Then-repeats) → repeated c.args.j c.args.image.source.fy c.args.blend ≡ true
again c = sym c.repeats.ensures ∙ c.if-repeats.true

of-bits : (c : Then-eq) → c.args.image.source.format ≡ Bits
of-bits c = search rules

pub repeats-requires : goal.repeats-requires
repeats-requires c = c.args.image.sound.fy

pub overflow_mul-wide : goal.overflow_mul-wide
overflow_mul-wide c = omega (arith, c.args.image.sound.wide)

pub overflow_sub-at : goal.overflow_sub-at
overflow_sub-at c = omega (arith, c.requires.above.room (again (goal.at.overflow_sub-at c).Then-repeats))

pub move_run-requires : goal.move_run-requires
move_run-requires c =
    omega (arith, c.requires.above.room (again (goal.at.move_run-requires c).Then-repeats), c.requires.j_bound.1)

pub returns-then-repeats : goal.returns-then-repeats
returns-then-repeats c =
    repeat-is-row _ _ _ _ _ _ c.requires.above (again (goal.at.returns-then-repeats c).Then-repeats) c.move_run.ensures

pub row_bytes-requires : goal.row_bytes-requires
row_bytes-requires c = (sides c.args.image.source c.args.image.sound).0

pub overflow_mul-from : goal.overflow_mul-from
overflow_mul-from c =
    omega (arith, bits-in-data c.args.image.source c.args.image.sound c.requires.j_bound.0 (of-bits (goal.at.overflow_mul-from c).Then-eq) c.row_bytes.ensures)

pub draw_bits-requires : goal.draw_bits-requires
draw_bits-requires c =
    (c.requires.j_bound.1, c.args.image.sound.fx, c.args.image.sound.wide, bits-shown c.args.image.source c.args.image.sound c.requires.j_bound.0 (of-bits (goal.at.draw_bits-requires c).Then-eq) c.row_bytes.ensures)

pub returns-then-eq : goal.returns-then-eq
returns-then-eq c = bits-is-row c.args.image.source _ _ _ _ _ (of-bits (goal.at.returns-then-eq c).Then-eq) c.row_bytes.ensures c.draw_bits.ensures
