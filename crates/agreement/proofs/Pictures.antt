-- A job without flips draws the same dots by its entries as command by command. Assumes nothing.
use Prim.Native.Nat.{ℕ, ◌<◌}
use mathlib.Core.Path.{◌≡◌, ap, sym, ◌∙◌}
use mathlib.Core.List.{List, [], ◌∷◌}
use mathlib.Core.Bool.{false, true≢false}
use Rattle.colour.specs.declared.RGBA.{RGBA}
use Rattle.colour.proofs.Tests.{neither}
use Rattle.images.specs.Stretching.{factor}
use Rattle.job.specs.declared.commands.Command.{Command}
use Rattle.job.specs.declared.commands.Command.TheVariants.{Rectangle, Image, Margin, Flip}
use Rattle.job.specs.Commands.{paper_width, paper_color, commands}
use Rattle.job.specs.Dropping.{kept_of}
use Rattle.job.proofs.Folds.{Keeps, none, keep, drop, keeps}
use Rattle.entries.specs.declared.Entry.{Entry}
use Rattle.entries.specs.Entries.{rectangle_entry, image_entry, entry_on}
use Rattle.plan.specs.Plan.{lower, margins, entries_of, is_flip, has_flip}
use Rattle.rows.specs.Rows.{entries_on}
use Rattle.runs.specs.Pictures.{Picture, with_margin, after, after_all}
use Rattle.runs.specs.Run.{run_picture}
use Rattle.runs.proofs.Pictures.{rectangle-after, image-after}
use Rattle.agreement.proofs.Margins.{margin-none, margin-margin, margin-paper, margin-entry}

module _ (s : List ℕ) (paper : RGBA) (W i j : ℕ) (a : i < W) where
  -- what commands cs make of p with the entry e drawn on it, by entries
  put_first : (cs : List Command) (e : Entry) (p q : Picture) → ((j : ℕ) → q i j ≡ entry_on s e i j (p i j)) → {d : RGBA}
      → entries_on s (entries_of W cs) i j (with_margin paper (margins cs) q i j) ≡ d
      → entries_on s (lower (margins cs) e ∷ entries_of W cs) i j (with_margin paper (margins cs) p i j) ≡ d
  unfolding entries_on
  put_first cs e p q h r = ap (entries_on s (entries_of W cs) i j) (sym (margin-entry s paper (margins cs) e p q i h j)) ∙ r

  -- commands obeyed on p: p under all their margins, with their entries applied in order
  pub agree-from : (cs : List Command) (p : Picture) → has_flip cs ≡ false → entries_on s (entries_of W cs) i j (with_margin paper (margins cs) p i j) ≡ after_all s paper cs p i j
  unfolding entries_on entries_of margins after after_all has_flip is_flip
  agree-from [] p f = margin-none paper p i j
  agree-from (Rectangle x y w h c mode ∷ cs) p f =
      let q : Picture = after s paper (Rectangle x y w h c mode) p in
      put_first cs (rectangle_entry W x y w h c mode) p q (λ j. rectangle-after s paper W p i j a x y w h c mode) (agree-from cs q f)
  agree-from (Image x y w h sx sy c mode start size ∷ cs) p f =
      let q : Picture = after s paper (Image x y w h sx sy c mode start size) p in
      put_first cs (image_entry W x y w h (factor sx) (factor sy) c mode start) p q (λ j. image-after s paper W p i j a x y w h sx sy c mode start size) (agree-from cs q f)
  agree-from (Margin m ∷ cs) p f =
      ap (entries_on s (entries_of W cs) i j) (sym (margin-margin paper m (margins cs) p i j)) ∙ agree-from cs (with_margin paper m p) f
  agree-from (Flip x y w h ∷ cs) p f = absurd (true≢false f)

-- what is kept of commands without a flip has none
no-flip-kept : {W H H' : ℕ} {cs ks : List Command} → Keeps W H cs ks H' → has_flip cs ≡ false → has_flip ks ≡ false
unfolding has_flip
no-flip-kept none f = f
no-flip-kept (keep {c = c} {cs = cs} e r) f = let g = neither (is_flip c) (has_flip cs) f in rw g.0 (no-flip-kept r g.1)
no-flip-kept (drop {c = c} {cs = cs} r) f = no-flip-kept r (neither (is_flip c) (has_flip cs) f).1

-- the whole job
pub dots-agree : (s : List ℕ) (i j : ℕ) → i < paper_width s → has_flip (commands s) ≡ false → entries_on s (entries_of (paper_width s) (kept_of s)) i j (paper_color s) ≡ run_picture s i j
unfolding run_picture kept_of
dots-agree s i j a f =
    let W : ℕ = paper_width s in
    let paper : RGBA = paper_color s in
    let ks : List Command = kept_of s in
    ap (entries_on s (entries_of W ks) i j) (sym (margin-paper paper (margins ks) i j))
    ∙ agree-from s paper W i j a ks (λ _ _. paper) (no-flip-kept (keeps W 0 (commands s)) f)
