use mathlib.Core.Path.{sym, ◌∙◌}
use native.Mathlib.Omega.{arith}
use Rattle.job.proofs.Found.{found}
use Rattle.job.proofs.Walk.{checked-start, checked-next, checked-unsound, checked-bad, checked-long, checked-done}
use Rattle.job.proofs.rest_refusal.Goals as goal

pub loop-kind-init : goal.loop-kind-init
loop-kind-init c = checked-start _ _ c.requires

pub sound_command-requires : goal.sound_command-requires
sound_command-requires c =
    let e = sym c.in-Record.is ∙ c.next_record.ensures in
    omega (arith, found _ _ e)

pub overflow_add-count : goal.overflow_add-count
overflow_add-count c =
    let l = c.loop-kind in
    let e = sym c.in-Record.is ∙ c.next_record.ensures in
    omega (arith, l.invariant.few, found _ _ e)

pub loop-kind-smaller : goal.loop-kind-smaller
loop-kind-smaller c =
    let e = sym c.in-Record.is ∙ c.next_record.ensures in
    omega (arith, found _ _ e)

pub loop-kind-preserved : goal.loop-kind-preserved
loop-kind-preserved c =
    let l = c.loop-kind in
    let e = sym c.in-Record.is ∙ c.next_record.ensures in
    checked-next _ _ l.place l.count l.invariant e (sym c.if-sound_command.true ∙ c.sound_command.ensures)

pub returns-else-sound_command : goal.returns-else-sound_command
returns-else-sound_command c =
    let l = c.loop-kind in
    let e = sym c.in-Record.is ∙ c.next_record.ensures in
    checked-unsound _ _ l.place l.count l.invariant e (sym c.if-sound_command.false ∙ c.sound_command.ensures)

pub returns-in-Bad : goal.returns-in-Bad
returns-in-Bad c =
    let l = c.loop-kind in checked-bad _ _ l.place l.count l.invariant (sym c.in-Bad.is ∙ c.next_record.ensures)

pub returns-then-count-gt-MOST_COMMANDS : goal.returns-then-count-gt-MOST_COMMANDS
returns-then-count-gt-MOST_COMMANDS c =
    let l = c.loop-kind in
    checked-long _ _ l.place l.count l.invariant (sym c.in-End.is ∙ c.next_record.ensures) c.if-count-gt-MOST_COMMANDS.true

pub returns-in-End : goal.returns-in-End
returns-in-End c =
    let l = c.loop-kind in
    checked-done _ _ l.place l.count l.invariant (sym c.in-End.is ∙ c.next_record.ensures) c.if-count-gt-MOST_COMMANDS.false
