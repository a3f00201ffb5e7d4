-- The loops of a translation: over the commands, and the one that looks for a flip. Assumes nothing.
use Prim.Native.Nat.{ℕ, ◌+◌, ◌<◌}
use mathlib.Core.Path.{◌≡◌, refl, ap, sym, ◌∙◌}
use mathlib.Core.Logic.{◌⊎◌, inl, inr, ⊎_elim}
use mathlib.Core.List.{List, [], ◌∷◌, ◌++◌}
use mathlib.Core.Bool.{Bool, true, false, ◌||◌, true≢false}
use native.Mathlib.Omega.{arith}
use borrow.Author.Tests.{eqb-true, eqb-false, eq-eqb, ne_eqb}
use lib.Dec.{eqb}
use lib.ListN.{length}
use Rattle.colour.specs.declared.RGBA.{RGBA}
use Rattle.colour.proofs.Tests.{and_both, neither}
use Rattle.images.specs.Stretching.{factor}
use Rattle.job.specs.declared.records.Rec.TheVariants.{Record, Bad, End}
use Rattle.job.specs.declared.dropping.Dropped.{Dropped}
use Rattle.job.specs.declared.commands.Command.{Command}
use Rattle.job.specs.declared.commands.Command.TheVariants.{Rectangle, Image, Margin, Flip}
use Rattle.job.specs.Records.{record_at}
use Rattle.job.specs.Commands.{rectangle_kind, image_kind, margin_kind, flip_kind, flip_size, sound_command, commands_start, paper_width, paper_color, command_at, commands}
use Rattle.job.specs.Dropping.{reason_of, height_after, kept, filled_up}
use Rattle.job.proofs.Walk.{rest, rest-record, rest_end, Good, Left, left-start, left-sound, left-next, left-bad, Looked, looked-start, looked-few, looked-kept, looked-dropped, looked-end}
use Rattle.entries.specs.declared.Entry.{Entry}
use Rattle.plan.specs.declared.Plan.{Plan}
use Rattle.entries.specs.Entries.{rectangle_entry, image_entry}
use Rattle.plan.specs.Plan.{margins, entries_of, is_flip, has_flip, plan_with, plan_of}
use Rattle.plan.specs.Steps.{planned, stepped, RoomForCommand}
use Rattle.plan.proofs.Listed.{lower-none, entries-more, entries-margin, entries-few, Low, low-none, low-get, low-push, low-down, push-with, drop-with, shift-with}

-- ---- a command that is kept, on the record

record After (W : ℕ) (paper : RGBA) (H : ℕ) (ks : List Command) (ds : List Dropped) (c : Command) : Type 0 where
  same : planned (plan_with W paper H (entries_of W ks) ds) c ≡ plan_with W paper (height_after H c) (entries_of W (ks ++ (c ∷ []))) ds
  low : Low (height_after H c) (entries_of W (ks ++ (c ∷ [])))

module _ (W : ℕ) (paper : RGBA) (H : ℕ) (ks : List Command) (ds : List Dropped) (few : length ks < 64) (l : Low H (entries_of W ks)) where
  after : (c : Command) → is_flip c ≡ false → After W paper H ks ds c
  unfolding planned is_flip height_after
  after (Rectangle x y w h c m) f =
      let d : Command = Rectangle x y w h c m in
      let n : Entry = rectangle_entry W x y w h c m in
      let e : entries_of W (ks ++ (d ∷ [])) ≡ entries_of W ks ++ (n ∷ []) = entries-more W ks d n (unfold margins in refl) (unfold entries_of in (unfold margins in (ap (λ (e : Entry). e ∷ []) (lower-none n)))) in
      record {
        same = push-with W paper H (entries_of W ks) ds n (omega (arith, entries-few W ks)) ∙ rw (← e) (unfold rectangle_entry in refl);
        low = rw e (low-push l (omega arith) n (unfold rectangle_entry in (omega arith)));
      }
  after (Image x y w h sx sy c m start size) f =
      let d : Command = Image x y w h sx sy c m start size in
      let n : Entry = image_entry W x y w h (factor sx) (factor sy) c m start in
      let e : entries_of W (ks ++ (d ∷ [])) ≡ entries_of W ks ++ (n ∷ []) = entries-more W ks d n (unfold margins in refl) (unfold entries_of in (unfold margins in (ap (λ (e : Entry). e ∷ []) (lower-none n)))) in
      record {
        same = push-with W paper H (entries_of W ks) ds n (omega (arith, entries-few W ks)) ∙ rw (← e) (unfold image_entry in refl);
        low = rw e (low-push l (omega arith) n (unfold image_entry in (omega arith)));
      }
  after (Margin m) f =
      record {
        same = shift-with W paper H (entries_of W ks) ds m ∙ ap (λ (es : List Entry). plan_with W paper (H + m) es ds) (sym (entries-margin W ks m));
        low = rw (entries-margin W ks m) (low-down m l);
      }
  after (Flip x y w h) f = absurd (true≢false f)

-- ---- the loop over the commands: k are done, and those from `at` on are left

pub record Going (s : List ℕ) (p : Plan) (k at : ℕ) : Type 0 where
  pub H : ℕ
  pub ks : List Command
  pub ds : List Dropped
  pub looked : Looked s k at H ks ds
  pub same : p ≡ plan_with (paper_width s) (paper_color s) H (entries_of (paper_width s) ks) ds
  pub low : Low H (entries_of (paper_width s) ks)
  pub plain : has_flip (rest s at) ≡ false

pub going_start : (s : List ℕ) {p : Plan} → Good s → has_flip (commands s) ≡ false → p ≡ plan_with (paper_width s) (paper_color s) 0 [] [] → Going s p 0 commands_start
unfolding entries_of
going_start s g f e = record { H = 0; ks = []; ds = []; looked = looked-start s g; same = e; low = low-none; plain = rw g.commands at f }

module _ (s : List ℕ) (p : Plan) (k at : ℕ) (g : Going s p k at) where
  pub going-bad : Bad ≡ record_at s at → ⊥
  going-bad e = left-bad s at g.looked.left e

  pub going_end : End ≡ record_at s at → p ≡ plan_of s
  unfolding plan_of
  going_end e = let a = looked-end s k at g.H g.ks g.ds g.looked e in g.same ∙ rw (a.height, a.kept, a.dropped)

  module _ {kind st n nx : ℕ} (e : Record kind st n nx ≡ record_at s at) where
    pub going-sound : sound_command s kind st n ≡ true
    going-sound = left-sound s at g.looked.left e

    pub going-few : k < 64
    going-few = looked-few s k at g.H g.ks g.ds g.looked e refl

    pub going-ready : RoomForCommand p
    unfolding filled_up
    going-ready =
        let h = going-few in
        let a = g.looked.all in
        let f = entries-few (paper_width s) g.ks in
        rw g.same (record { entry = omega arith; drop = omega arith; tall = g.looked.fits; low = λ i b. low-get g.low _ i b })

    module _ {c : Command} {p' : Plan} (q : c ≡ command_at s kind st n) (r : p' ≡ stepped p k c) where
      flips : (is_flip c ≡ false) × (has_flip (rest s nx) ≡ false)
      unfolding has_flip
      flips = neither (is_flip c) (has_flip (rest s nx)) (rw q (rw (rest-record s at e) at g.plain))

      by : (t : Bool) → kept (paper_width s) g.H c ≡ t → Going s p' (k + 1) nx
      unfolding stepped
      by true z =
          let d = eqb-true _ _ z in
          let h = going-few in
          let a = after (paper_width s) (paper_color s) g.H g.ks g.ds (omega (arith, g.looked.all)) g.low c flips.0 in
          record {
            H = height_after g.H c;
            ks = g.ks ++ (c ∷ []);
            ds = g.ds;
            looked = looked-kept s k at g.H g.ks g.ds g.looked e q d;
            same = r ∙ rw (g.same, z) a.same;
            low = a.low;
            plain = flips.1;
          }
      by false z =
          let d = eqb-false _ _ z in
          let h = going-few in
          record {
            H = g.H;
            ks = g.ks;
            ds = g.ds ++ (record { place = k; reason = reason_of (paper_width s) g.H c } ∷ []);
            looked = looked-dropped s k at g.H g.ks g.ds g.looked e q d;
            same = r ∙ rw (g.same, z) (drop-with (paper_width s) (paper_color s) g.H (entries_of (paper_width s) g.ks) g.ds k (reason_of (paper_width s) g.H c) (omega (arith, g.looked.all)));
            low = g.low;
            plain = flips.1;
          }

      pub going_next : Going s p' (k + 1) nx
      going_next = by (kept (paper_width s) g.H c) refl

-- ---- a flip looked for

pub record Searched (s : List ℕ) (at : ℕ) : Type 0 where
  pub tail : has_flip (commands s) ≡ has_flip (rest s at)
  pub left : Left s at

pub searched-start : (s : List ℕ) → Good s → Searched s commands_start
searched-start s g = record { tail = ap has_flip g.commands; left = left-start s g }

same : (a b : ℕ) → (a ≡ b) ⊎ (a ≡ b → ⊥)
same a b = by (eqb a b) refl
  where
    by : (t : Bool) → eqb a b ≡ t → (a ≡ b) ⊎ (a ≡ b → ⊥)
    by true e = inl (eqb-true a b e)
    by false e = inr (eqb-false a b e)

flip-kind : (s : List ℕ) (kind at n : ℕ) → sound_command s kind at n ≡ true → is_flip (command_at s kind at n) ≡ eqb kind flip_kind
unfolding sound_command command_at is_flip
flip-kind s kind at n e =
    ⊎_elim (λ a. rw (eq-eqb kind rectangle_kind a, ne_eqb kind flip_kind (λ z. omega arith)))
    (λ a.
    ⊎_elim (λ b. rw (ne_eqb kind rectangle_kind a, eq-eqb kind image_kind b, ne_eqb kind flip_kind (λ z. omega arith)))
    (λ b.
    ⊎_elim (λ d. rw (ne_eqb kind rectangle_kind a, ne_eqb kind image_kind b, eq-eqb kind margin_kind d, ne_eqb kind flip_kind (λ z. omega arith)))
    (λ d.
    rw (ne_eqb kind rectangle_kind a, ne_eqb kind image_kind b, ne_eqb kind margin_kind d)
    (sym (and_both (eqb kind flip_kind) (eqb n flip_size) (rw (ne_eqb kind rectangle_kind a, ne_eqb kind image_kind b, ne_eqb kind margin_kind d) at e)).0))
    (same kind margin_kind))
    (same kind image_kind))
    (same kind rectangle_kind)

module _ (s : List ℕ) (at : ℕ) (g : Searched s at) where
  module _ {kind st n nx : ℕ} (e : Record kind st n nx ≡ record_at s at) where
    one : has_flip (commands s) ≡ (eqb kind flip_kind || has_flip (rest s nx))
    unfolding has_flip
    one = g.tail ∙ rw (rest-record s at e, flip-kind s kind st n (left-sound s at g.left e))

    pub searched-next : (kind ≡ flip_kind → ⊥) → Searched s nx
    searched-next k = record { tail = one ∙ rw (ne_eqb kind flip_kind k); left = left-next s at g.left e }

    pub searched-found : kind ≡ flip_kind → true ≡ has_flip (commands s)
    searched-found k = sym (one ∙ rw (eq-eqb kind flip_kind k))

  pub searched-end : End ≡ record_at s at → false ≡ has_flip (commands s)
  unfolding has_flip
  searched-end e = sym (g.tail ∙ rw (rest_end s at e))

  pub searched-bad : {r : Bool} → Bad ≡ record_at s at → r ≡ has_flip (commands s)
  searched-bad e = absurd (left-bad s at g.left e)
