-- Walks over a job's records: the one that checks it, and those over a job that is known to be good. Assumes nothing.
use Prim.Native.Nat.{ℕ, suc, ◌+◌, ◌≤◌, ◌<◌}
use mathlib.Core.Path.{◌≡◌, refl, ap, sym, ◌∙◌}
use mathlib.Core.List.{List, [], ◌∷◌, ◌++◌, append_assoc, append-nil}
use mathlib.Core.Bool.{Bool, true, false, not, ◌&&◌, true≢false}
use native.Mathlib.Omega.{arith}
use borrow.Author.Tests.{lt-ltb, le-ltb, ltb-false}
use lib.Dec.{ltb}
use lib.ListN.{length, length-append}
use Rattle.numbers.specs.Numbers.{limit, done, bad_job, too_long}
use Rattle.std.specs.Prelude.{if◌then◌else◌}
use Rattle.colour.proofs.Tests.{and_both}
use Rattle.job.specs.declared.records.Rec.{Rec}
use Rattle.job.specs.declared.records.Rec.TheVariants.{Record, Bad, End}
use Rattle.job.specs.declared.commands.Command.{Command}
use Rattle.job.specs.declared.dropping.Dropped.{Dropped}
use Rattle.job.specs.Records.{le32, record_at, records, Bytes}
use Rattle.job.specs.Commands.{sound_paper, sound_command, sound_commands, sound_records, sound, commands_start, paper_width, command_at, commands_in, after_paper, commands}
use Rattle.job.specs.Dropping.{most_commands, number_of, job_refusal, reason_of, height_after, height_from, kept_from, dropped_from, job_height, kept_of, job_dropped}
use Rattle.job.proofs.Found.{found, records-record, records-end, records-bad, inside}
use Rattle.job.proofs.Soundness.{paper, AllSane, all-sane}
use Rattle.job.proofs.Reasons.{after-fits}
use Rattle.job.proofs.Folds.{height-kept, kept-kept, dropped-kept, height-dropped, kept-dropped, dropped-dropped}

-- the commands from a position on
abbrev pub rest : List ℕ → ℕ → List Command
rest s at = commands_in s (records s at)

-- whether they are all sound
abbrev pub rest_sound : List ℕ → ℕ → Bool
rest_sound s at = sound_commands s (records s at)

module _ (s : List ℕ) (at : ℕ) where
  module _ {kind st n nx : ℕ} (e : Record kind st n nx ≡ record_at s at) where
    pub rest-record : rest s at ≡ command_at s kind st n ∷ rest s nx
    unfolding commands_in
    rest-record = rw (records-record s at e)

    pub sound-record : rest_sound s at ≡ (sound_command s kind st n && rest_sound s nx)
    unfolding sound_commands
    sound-record = rw (records-record s at e)

  pub rest_end : End ≡ record_at s at → rest s at ≡ []
  unfolding commands_in
  rest_end e = rw (records-end s at e)

  pub sound-end : End ≡ record_at s at → rest_sound s at ≡ true
  unfolding sound_commands
  sound-end e = rw (records-end s at e)

  pub sound-bad : Bad ≡ record_at s at → rest_sound s at ≡ false
  unfolding sound_commands
  sound-bad e = rw (records-bad s at e)

-- ---- checking the records from `from` on: n commands were seen, and all that is left to see stands from `at` on

pub record Checked (s : List ℕ) (from at n : ℕ) : Type 0 where
  pub tail : rest_sound s from ≡ rest_sound s at
  pub count : length (rest s from) ≡ n + length (rest s at)
  pub few : n ≤ at
  pub here : at ≤ length s

pub checked-start : (s : List ℕ) (from : ℕ) → from ≤ length s → Checked s from from 0
checked-start s from h = record { tail = refl; count = omega arith; few = omega arith; here = h }

module _ (s : List ℕ) (from at n : ℕ) (g : Checked s from at n) where
  pub checked-next : {kind st z nx : ℕ} → Record kind st z nx ≡ record_at s at → true ≡ sound_command s kind st z → Checked s from nx (n + 1)
  checked-next {kind} {st} {z} {nx} e f =
      let d = found s at e in
      let c : length (rest s from) ≡ n + suc (length (rest s nx)) = g.count ∙ rw (rest-record s at e) refl in
      record { tail = g.tail ∙ sound-record s at e ∙ rw (← f) refl; count = omega arith; few = omega (arith, g.few, d.start, d.whole); here = d.fits }

  unsound : rest_sound s at ≡ false → bad_job ≡ number_of (rest_sound s from) (rest s from)
  unfolding number_of
  unsound e = rw (g.tail, e)

  pub checked-unsound : {kind st z nx : ℕ} → Record kind st z nx ≡ record_at s at → false ≡ sound_command s kind st z → bad_job ≡ number_of (rest_sound s from) (rest s from)
  checked-unsound e f = unsound (sound-record s at e ∙ rw (← f) refl)

  pub checked-bad : Bad ≡ record_at s at → bad_job ≡ number_of (rest_sound s from) (rest s from)
  checked-bad e = unsound (sound-bad s at e)

  all : End ≡ record_at s at → length (rest s from) ≡ n
  all e = let c : length (rest s from) ≡ n + 0 = g.count ∙ rw (rest_end s at e) refl in omega arith

  pub checked-long : End ≡ record_at s at → most_commands < n → too_long ≡ number_of (rest_sound s from) (rest s from)
  unfolding number_of
  checked-long e h = rw (g.tail, sound-end s at e, lt-ltb most_commands (length (rest s from)) (omega (arith, all e)))

  pub checked-done : End ≡ record_at s at → n ≤ most_commands → done ≡ number_of (rest_sound s from) (rest s from)
  unfolding number_of
  checked-done e h = rw (g.tail, sound-end s at e, le-ltb most_commands (length (rest s from)) (omega (arith, all e)))

-- ---- the whole job: its first record is the paper

module _ (s : List ℕ) where
  no-paper : sound s ≡ false → bad_job ≡ job_refusal s
  unfolding job_refusal number_of
  no-paper e = rw e

  pub job-empty : End ≡ record_at s 0 → bad_job ≡ job_refusal s
  unfolding sound sound_records
  job-empty e = no-paper (rw (records-end s 0 e))

  pub job-bad : Bad ≡ record_at s 0 → bad_job ≡ job_refusal s
  unfolding sound sound_records
  job-bad e = no-paper (rw (records-bad s 0 e))

  module _ {kind st n nx : ℕ} (e : Record kind st n nx ≡ record_at s 0) where
    first-sound : sound s ≡ (sound_paper s kind st n && rest_sound s nx)
    unfolding sound sound_records
    first-sound = rw (records-record s 0 e)

    first-commands : commands s ≡ rest s nx
    unfolding commands after_paper
    first-commands = rw (records-record s 0 e)

    pub job-no-paper : false ≡ sound_paper s kind st n → bad_job ≡ job_refusal s
    job-no-paper f = no-paper (first-sound ∙ rw (← f) refl)

    pub job-rest : true ≡ sound_paper s kind st n → {r : ℕ} → r ≡ number_of (rest_sound s nx) (rest s nx) → r ≡ job_refusal s
    unfolding job_refusal
    job-rest f q = q ∙ rw (first-sound, ← f, first-commands) refl

-- ---- a good job

pub record Good (s : List ℕ) : Type 0 where
  -- the paper's record, and a width that is one
  pub long : commands_start ≤ length s
  pub some : 1 ≤ paper_width s
  pub wide : paper_width s ≤ limit
  -- its commands stand past it, and there are few enough
  pub commands : commands s ≡ rest s commands_start
  pub sound : rest_sound s commands_start ≡ true
  pub few : length (rest s commands_start) ≤ most_commands

good-first : (s : List ℕ) (r : Rec) → r ≡ record_at s 0 → sound s ≡ true → length (commands s) ≤ most_commands → Good s
unfolding sound sound_records
good-first s End e f h = absurd (true≢false (sym f ∙ rw (records-end s 0 e)))
good-first s Bad e f h = absurd (true≢false (sym f ∙ rw (records-bad s 0 e)))
good-first s (Record kind st n nx) e f h =
    let d = found s 0 e in
    let b = and_both (sound_paper s kind st n) (rest_sound s nx) (sym (first-sound s e) ∙ f) in
    let p = paper s kind st n b.0 in
    let c : commands s ≡ rest s nx = first-commands s e in
    let body : st ≡ 6 = omega (arith, d.start) in
    let past : nx ≡ commands_start = omega (arith, d.whole, p.size) in
    let w : le32 s st ≡ paper_width s = ap (le32 s) body in
    record {
      long = omega (arith, d.fits);
      some = omega (arith, p.some);
      wide = omega (arith, p.wide);
      commands = rw past at c;
      sound = rw past at b.1;
      few = omega (arith, ap length (rw past at c));
    }

pub good : (s : List ℕ) → job_refusal s ≡ done → Good s
unfolding job_refusal number_of
good s = go (sound s) (ltb most_commands (length (commands s))) refl refl
  where
    go : (a b : Bool) → sound s ≡ a → ltb most_commands (length (commands s)) ≡ b → (if not a then bad_job else if b then too_long else done) ≡ done → Good s
    go true false e f r = good-first s (record_at s 0) refl e (ltb-false _ _ f)
    go true true e f r = absurd (omega arith)
    go false b e f r = absurd (omega arith)

pub commands-sane : (s : List ℕ) → Bytes s → Good s → AllSane s (commands s)
commands-sane s b g = rw g.commands (all-sane s b (inside s commands_start) g.sound)

-- ---- a walk over a good job: the commands from `at` on are left

pub record Left (s : List ℕ) (at : ℕ) : Type 0 where
  pub sound : rest_sound s at ≡ true
  pub here : at ≤ length s

pub left-start : (s : List ℕ) → Good s → Left s commands_start
left-start s g = record { sound = g.sound; here = g.long }

module _ (s : List ℕ) (at : ℕ) (g : Left s at) where
  module _ {kind st n nx : ℕ} (e : Record kind st n nx ≡ record_at s at) where
    both-sound : (sound_command s kind st n ≡ true) × (rest_sound s nx ≡ true)
    both-sound = and_both (sound_command s kind st n) (rest_sound s nx) (sym (sound-record s at e) ∙ g.sound)

    pub left-sound : sound_command s kind st n ≡ true
    left-sound = both-sound.0

    pub left-next : Left s nx
    left-next = record { sound = both-sound.1; here = (found s at e).fits }

  pub left-bad : Bad ≡ record_at s at → ⊥
  left-bad e = true≢false (sym g.sound ∙ sound-bad s at e)

  -- where no record is left, the end is
  pub left-end : (r : Rec) → r ≡ record_at s at → ((k st n nx : ℕ) → r ≡ Record k st n nx → ⊥) → End ≡ record_at s at
  left-end (Record k st n nx) e none = absurd (none k st n nx refl)
  left-end Bad e none = absurd (left-bad e)
  left-end End e none = e

-- ---- such a walk with k commands behind it: the height is H so far, ks were kept, and ds is the list of those dropped

pub record Looked (s : List ℕ) (k at H : ℕ) (ks : List Command) (ds : List Dropped) : Type 0 where
  pub left : Left s at
  pub count : k + length (rest s at) ≤ most_commands
  pub height : height_from (paper_width s) H (rest s at) ≡ job_height s
  pub kept : ks ++ kept_from (paper_width s) H (rest s at) ≡ kept_of s
  pub dropped : ds ++ dropped_from (paper_width s) H k (rest s at) ≡ job_dropped s
  pub all : length ks + length ds ≡ k
  pub fits : H ≤ limit

pub looked-start : (s : List ℕ) → Good s → Looked s 0 commands_start 0 [] []
unfolding job_height kept_of job_dropped
looked-start s g =
    record { left = left-start s g; count = omega (arith, g.few); height = rw g.commands; kept = rw g.commands; dropped = rw g.commands; all = refl; fits = omega arith }

module _ (s : List ℕ) (k at H : ℕ) (ks : List Command) (ds : List Dropped) (g : Looked s k at H ks ds) where
  module _ {kind st n nx : ℕ} (e : Record kind st n nx ≡ record_at s at) {c : Command} (q : c ≡ command_at s kind st n) where
    here : rest s at ≡ c ∷ rest s nx
    here = rest-record s at e ∙ rw (← q) refl

    one_more : k + suc (length (rest s nx)) ≤ most_commands
    one_more = rw here at g.count

    pub looked-few : k < most_commands
    looked-few = omega (arith, one_more)

    pub looked-kept : reason_of (paper_width s) H c ≡ done → Looked s (k + 1) nx (height_after H c) (ks ++ (c ∷ [])) ds
    looked-kept r =
        let W = paper_width s in
        record {
          left = left-next s at g.left e;
          count = omega (arith, one_more);
          height = sym (height-kept W H c (rest s nx) r) ∙ (rw here at g.height);
          kept = append_assoc ks (c ∷ []) _ ∙ ap (λ (l : List Command). ks ++ l) (sym (kept-kept W H c (rest s nx) r)) ∙ (rw here at g.kept);
          dropped = ap (λ (l : List Dropped). ds ++ l) (sym (dropped-kept W H c (rest s nx) r k)) ∙ (rw here at g.dropped);
          all = omega (arith, length-append ks (c ∷ []), g.all);
          fits = after-fits W H c r;
        }

    pub looked-dropped : (reason_of (paper_width s) H c ≡ done → ⊥) → Looked s (k + 1) nx H ks (ds ++ (record { place = k; reason = reason_of (paper_width s) H c } ∷ []))
    looked-dropped r =
        let W = paper_width s in
        let d : Dropped = record { place = k; reason = reason_of W H c } in
        record {
          left = left-next s at g.left e;
          count = omega (arith, one_more);
          height = sym (height-dropped W H c (rest s nx) r) ∙ (rw here at g.height);
          kept = ap (λ (l : List Command). ks ++ l) (sym (kept-dropped W H c (rest s nx) r)) ∙ (rw here at g.kept);
          dropped = append_assoc ds (d ∷ []) _ ∙ ap (λ (l : List Dropped). ds ++ l) (sym (dropped-dropped W H c (rest s nx) r k)) ∙ (rw here at g.dropped);
          all = omega (arith, length-append ds (d ∷ []), g.all);
          fits = g.fits;
        }

  pub record Looked-all : Type 0 where
    pub height : H ≡ job_height s
    pub kept : ks ≡ kept_of s
    pub dropped : ds ≡ job_dropped s

  pub looked-end : End ≡ record_at s at → Looked-all
  unfolding height_from kept_from dropped_from
  looked-end e =
      record {
        height = rw (rest_end s at e) at g.height;
        kept = sym (append-nil ks) ∙ (rw (rest_end s at e) at g.kept);
        dropped = sym (append-nil ds) ∙ (rw (rest_end s at e) at g.dropped);
      }
