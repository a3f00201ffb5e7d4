-- `vectors::hex::digit` meets its contract. Assumes nothing.
use Rattle.vectors.proofs.Digits.{digit-number, digit-letter, digit-under, digit-between, digit-above}
use Rattle.vectors.proofs.hex.digit.Goals as goal

pub returns-in-48-to-57 : goal.returns-in-48-to-57
returns-in-48-to-57 c = digit-number _ c.in-48-to-57.if-c-lt48-own.false c.in-48-to-57.if-c-lt58-own.true

pub returns-in-97-to-102 : goal.returns-in-97-to-102
returns-in-97-to-102 c = digit-letter _ c.in-97-to-102.if-c-lt97-own.false c.in-97-to-102.if-c-lt103-own.true

pub returns-in_default : goal.returns-in_default
returns-in_default c = digit-under _ c.in_default.if-c-lt48-own.true

pub returns-in_default-2 : goal.returns-in_default-2
returns-in_default-2 c = digit-between _ c.in_default.if-c-lt58-own.false c.in_default.if-c-lt97-own.true

pub returns-in_default-3 : goal.returns-in_default-3
returns-in_default-3 c = digit-above _ c.in_default.if-c-lt103-own.false
