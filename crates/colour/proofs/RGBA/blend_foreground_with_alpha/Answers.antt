-- `colour::RGBA::blend_foreground_with_alpha` meets its contract. Assumes nothing.
use Rattle.std.proofs.Common.{inl, inr, arith}
use Rattle.colour.proofs.Laws.{blended-some}
use Rattle.colour.proofs.RGBA.blend_foreground_with_alpha.Goals as goal
use Rattle.colour.proofs.RGBA.blend_foreground_with_alpha.Goals.{in_default-via-then-alpha-lt1, in_default-via-else-alpha-lt1+else-alpha-lt255}

pub covered-requires : goal.covered-requires
covered-requires c =
    elim c.in_default.branch [
      | in_default-via-then-alpha-lt1 w ↦ inl (omega arith)
      | in_default-via-else-alpha-lt1+else-alpha-lt255 w ↦ inr (omega arith)
    ]

pub returns-in-1-to-254 : goal.returns-in-1-to-254
returns-in-1-to-254 c =
    let p = c in
    let q = p.args in
    blended-some q.color q.self (λ e. omega arith) (λ e. omega arith) c.blend_channel.ensures c.blend_channel-in-1-to-254.ensures c.blend_channel-in-1-to-254-2.ensures
