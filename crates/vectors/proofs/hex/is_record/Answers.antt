-- `vectors::hex::is_record` meets its contract.
use Rattle.std.proofs.Common.{rules, sym, ap, ◌∙◌}
use borrow.Author.Tests.{eq-eqb, ne_eqb}
use Rattle.vectors.proofs.Colours.{same-color}
use Rattle.vectors.specs.Hex.{same_color, is_record}
use Rattle.vectors.proofs.hex.is_record.Goals as goal
use Rattle.vectors.proofs.hex.is_record.Goals.{then-width-number_at, else-width-number_at, then-height-number_at, else-height-number_at}

pub returns-then-grows-s : goal.returns-then-grows-s
unfolding is_record
returns-then-grows-s c =
    elim c.if-height-number_at.branch [
      | then-height-number_at w ↦
          elim c.if-width-number_at.branch [
            | then-width-number_at v ↦
                rw (← c.number_at.ensures, eq-eqb _ _ v.if-width-number_at.true, ← v.number_at-then-width-number_at.ensures, sym v.value-is ∙ w.if-height-number_at.true, sym w.value-is ∙ c.if-grows-s.true)
                (let e = c.eq.ensures ∙ same-color _ _ in e ∙ ap (same_color c.args.paper) (search rules))
            | else-width-number_at v ↦ absurd (search rules)
          ]
      | else-height-number_at w ↦ absurd (search rules)
    ]

pub returns-else-grows-s : goal.returns-else-grows-s
unfolding is_record
returns-else-grows-s c =
    elim c.if-height-number_at.branch [
      | then-height-number_at w ↦
          elim c.if-width-number_at.branch [
            | then-width-number_at v ↦
                rw (← c.number_at.ensures, eq-eqb _ _ v.if-width-number_at.true, ← v.number_at-then-width-number_at.ensures, sym v.value-is ∙ w.if-height-number_at.true, sym w.value-is ∙ c.if-grows-s.false)
                c.if-grows-s.false
            | else-width-number_at v ↦ absurd (search rules)
          ]
      | else-height-number_at w ↦
          elim c.if-width-number_at.branch [
            | then-width-number_at v ↦
                rw (← c.number_at.ensures, eq-eqb _ _ v.if-width-number_at.true, ← v.number_at-then-width-number_at.ensures, sym v.value-is ∙ w.if-height-number_at.false)
                c.if-grows-s.false
            | else-width-number_at v ↦ rw (← c.number_at.ensures, ne_eqb _ _ v.if-width-number_at.false) c.if-grows-s.false
          ]
    ]
