-- `vectors::seeds::seeded_byte` meets its contract. Assumes nothing.
use borrow.Author.Tests.{eq-eqb, ne_eqb, lt-ltb, le-ltb}
use Rattle.vectors.specs.Seeds.{seeded_byte}
use Rattle.vectors.proofs.seeds.seeded_byte.Goals as goal

pub returns-then-seed-eq0 : goal.returns-then-seed-eq0
unfolding seeded_byte
returns-then-seed-eq0 c = rw (eq-eqb _ _ c.if-seed-eq0.true)

pub returns-then-byte-lt128 : goal.returns-then-byte-lt128
unfolding seeded_byte
returns-then-byte-lt128 c = rw (ne_eqb _ _ c.if-seed-eq0.false, lt-ltb _ _ c.if-byte-lt128.true)

pub returns : goal.returns
unfolding seeded_byte
returns c = rw (ne_eqb _ _ c.if-seed-eq0.false, le-ltb _ _ c.if-byte-lt128.false)
