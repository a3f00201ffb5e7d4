-- `graphics::refusals::refusal_of` meets its contract. Assumes nothing.
use mathlib.Core.Path.{◌≡◌, sym, ◌∙◌}
use mathlib.Core.Bool.{false}
use Rattle.images.specs.Stretching.{is_large}
use Rattle.images.proofs.Sides.{small}
use Rattle.graphics.proofs.Codes.{single-large, single-length, single-rest}
use Rattle.graphics.proofs.refusals.refusal_of.Goals as goal
use Rattle.graphics.proofs.refusals.refusal_of.Goals.{Else-is_large}

not-large : (c : Else-is_large) → is_large c.args.w c.args.h c.args.fx c.args.fy ≡ false
not-large c = sym c.is_large.ensures ∙ c.if-is_large.false

pub returns-then-is_large : goal.returns-then-is_large
returns-then-is_large c = single-large _ _ _ _ _ _ _ (sym c.is_large.ensures ∙ c.if-is_large.true)

pub bytes_of-requires : goal.bytes_of-requires
bytes_of-requires c = let s = small _ _ _ _ (not-large (goal.at.bytes_of-requires c).Else-is_large) in (s.width, s.height)

pub returns-then-n-bytes_of : goal.returns-then-n-bytes_of
returns-then-n-bytes_of c =
    single-length _ _ _ _ _ _ _ (not-large (goal.at.returns-then-n-bytes_of c).Else-is_large) (λ e. c.if-n-bytes_of.true (e ∙ sym c.bytes_of.ensures))

pub lacks_room-requires : goal.lacks_room-requires
lacks_room-requires c = let s = small _ _ _ _ (not-large (goal.at.lacks_room-requires c).Else-is_large) in (s.wide, s.tall)

pub returns-then-lacks_room : goal.returns-then-lacks_room
returns-then-lacks_room c =
    single-rest _ _ _ _ _ _ _ (not-large (goal.at.returns-then-lacks_room c).Else-is_large) (c.if-n-bytes_of.false ∙ c.bytes_of.ensures) (sym c.lacks_room.ensures ∙ c.if-lacks_room.true)

pub returns : goal.returns
returns c =
    single-rest _ _ _ _ _ _ _ (not-large (goal.at.returns c).Else-is_large) (c.if-n-bytes_of.false ∙ c.bytes_of.ensures) (sym c.lacks_room.ensures ∙ c.if-lacks_room.false)
