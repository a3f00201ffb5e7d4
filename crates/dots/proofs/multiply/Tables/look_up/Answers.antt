-- Looking up a dot meets its contract. Assumes nothing.
use Rattle.std.proofs.Common.{◌≡◌, ◌<◌, List, ℕ, get_or, arith}
use Rattle.colour.specs.Channel.{multiply_byte}
use Rattle.colour.proofs.Laws.{multiplied-some}
use Rattle.dots.specs.Tables.{multiply_table}
use Rattle.dots.proofs.Laws.{get_or-tab}
use Rattle.dots.proofs.multiply.Tables.look_up.Goals as goal

table_at : (c a : ℕ) {l : List ℕ} → l ≡ multiply_table c a → (s : ℕ) → s < 256 → get_or l s 0 ≡ multiply_byte s c a
unfolding multiply_table
table_at c a e s h = rw e (get_or-tab 256 _ s 0 h)

pub returns : goal.returns
returns c =
    let t = c.args.self.now in
    let s = c.args.s in
    multiplied-some t.color s (λ e. omega (arith, t.some)) (table_at t.color.r t.color.a t.made.0 s.r (omega arith)) (table_at t.color.g t.color.a t.made.1 s.g (omega arith)) (table_at t.color.b t.color.a t.made.2 s.b (omega arith))
