-- A command of a run and the canvas operation of it are the same. Assumes nothing.
use Prim.Native.Nat.{ℕ, ◌+◌, ◌-◌, ◌*◌, ◌/◌, ◌%◌, ◌^◌, ◌≤◌, ◌<◌, max}
use mathlib.Core.Path.{◌≡◌, refl, ap, sym, ◌∙◌}
use mathlib.Core.List.{List}
use mathlib.Core.Bool.{Bool, true, false, not}
use native.Mathlib.Nat.{sub_self, div-lt_iff_lt-mul}
use native.Mathlib.Omega.{arith}
use lib.Dec.{eqb}
use lib.ListN.{length, drop, length-drop}
use lib.Seq.{get_or-take, length-take-le}
use borrow.Author.Tests.{lt-ltb, le-ltb, eq-eqb, eqb-true, eqb-false}
use Rattle.numbers.specs.Numbers.{done, too_large, wrong_length}
use Rattle.std.specs.Prelude.{if◌then◌else◌}
use Rattle.colour.specs.declared.RGBA.{RGBA}
use Rattle.colour.specs.Colour.{with_alpha}
use Rattle.dots.specs.Dots.{dot_at, change, within, drawn}
use Rattle.dots.proofs.Laws.{length-change, change-picked, within-yes}
use Rattle.bits.specs.Bits.{bit_alpha}
use Rattle.images.specs.declared.formats.Format.TheVariants.{Bits}
use Rattle.images.specs.Formats.{alpha_of, bytes_of}
use Rattle.images.specs.Stretching.{factor, pixel_of, is_large}
use Rattle.graphics.specs.Decoding.{lacks_room, refusal, answer, output, decoded, decoded_on}
use Rattle.graphics.proofs.Codes.{single-done}
use Rattle.images.proofs.Places.{place, in-data}
use Rattle.areas.specs.Areas.{area_on}
use Rattle.areas.proofs.Laws.{at-column, area-by}
use Rattle.job.specs.declared.commands.Command.{Command}
use Rattle.job.specs.declared.commands.Command.TheVariants.{Rectangle, Image, Margin, Flip}
use Rattle.job.specs.Commands.{multiplies}
use Rattle.job.specs.Dropping as dropping
use Rattle.job.proofs.Reasons.{put-kept}
use Rattle.entries.specs.declared.Entry.{Entry}
use Rattle.entries.specs.Entries.{rectangle_entry, image_entry, image_pixel, entry_pixel}
use Rattle.entries.proofs.Drawing.{entry-rows}
use Rattle.thermal_image.specs.declared.ThermalImage.{ThermalImage}
use Rattle.refusals.specs.Refusals.{first, canvas_refusal, tall_refusal, room_refusal, side_refusal, empty_refusal, margin_refusal}
use Rattle.thermal_image.specs.Canvas.{canvas, sized, finished, papered}
use Rattle.thermal_image.proofs.Laws.{margin-record, margin-lowered}
use Rattle.refusals.proofs.Codes.{first_some, first-none, first_then, first_done}
use Rattle.places.specs.Places.{tall_after, result_refusal, put_refusal, rect_refusal, flip_tall, flip_refusal}
use Rattle.drawing.specs.Drawing.{pixels_drawn, put_on}
use Rattle.places.proofs.Codes.{tall-grown, flip-tall}
use Rattle.places.proofs.Equal.{pixel-in, rect-grown}
use Rattle.drawing.proofs.Laws.{placed-grown, rect-record, rect-placed, put_record, put-placed, flip-record, flip-placed}
use Rattle.runs.specs.Steps as steps
use Rattle.agreement.specs.Canvas.{data_of, image_outcome, outcome, Inside, pixel_bytes, OnCanvas, CommandsOnCanvas}

factor-some : (n : ℕ) → 0 < factor n
unfolding factor
factor-some n = by (eqb n 0) refl
  where
    by : (b : Bool) → eqb n 0 ≡ b → 0 < (if b then 1 else n)
    by true e = omega arith
    by false e = omega (arith, eqb-false n 0 e)

module _ (s : List ℕ) (W H : ℕ) (paper : RGBA) (l : List ℕ) (some : 1 ≤ W) (sound : canvas_refusal W H (length l) ≡ done) where
  abbrev t : ThermalImage
  t = canvas W H true paper

  -- the claim for a command
  abbrev Same : List ℕ → Command → Type 0
  Same out c = OnCanvas s W H paper l c (outcome s out t l c)

  -- ---- a put of all its pixels

  put-number : (x y w h : ℕ) → rect_refusal t x y w h (length l) ≡ first (dropping.put_reason W H x y w h) (room_refusal W (max H (y + h)) (length l))
  unfolding dropping.put_reason result_refusal
  put-number x y w h = rect-grown t refl x y w h (length l) sound ∙ sym (first_then _ _ _ ∙ ap (first (side_refusal w h)) (first_then _ _ _))

  put-across : (x y w h : ℕ) → rect_refusal t x y w h (length l) ≡ done → x < W
  put-across x y w h e = (put-kept W H x y w h (first_done _ _ (sym (put-number x y w h) ∙ e)).0).on

  put-answer : (x y w h : ℕ) → finished (sized t W (tall_after t x y w h)) ≡ finished (canvas W (max H (y + h)) true paper)
  put-answer x y w h = rw (tall-grown t refl x y w h) refl

  -- an entry is an area of a canvas that has grown
  entry-area : (e : Entry)
      → steps.placed_on s W paper H e l
      ≡ area_on W e.x e.y e.w e.h (λ i j d. drawn (multiplies e.mode) (entry_pixel s e i j) d) (papered W H (max H (e.y + e.h)) paper l)
  unfolding steps.placed_on
  entry-area e =
      let top : e.y + 0 ≡ e.y = omega arith in
      let rows : e.y + e.h - e.y ≡ e.h = omega arith in
      let own : (j : ℕ) → 0 + j ≡ j = λ j. omega arith in
      sym (entry-rows s e W e.y e.y e.h _ {first = e.y} {last = e.y + e.h} (omega arith) (omega arith) some (rw (sub_self, top, rows) (area-by _ _ _ _ _ _ _ _ (λ i j u v. rw (own j) refl))))

  -- ---- a rectangle

  rectangle-same : (out : List ℕ) (x y w h : ℕ) (c : RGBA) (mode : ℕ) → Same out (Rectangle x y w h c mode)
  unfolding outcome dropping.reason_of dropping.height_after steps.obeyed_on rectangle_entry entry_pixel
  rectangle-same out x y w h c mode =
      record {
        number = put-number x y w h;
        answer = λ e. rect-record t x y w h (length l) e ∙ put-answer x y w h;
        bytes = λ e.
            rect-placed (multiplies mode) t x y w h l c e ∙ placed-grown t refl x y w h _ l (put-across x y w h e) ∙ sym (entry-area (rectangle_entry W x y w h c mode));
      }

  -- ---- a margin

  margin-number : (m : ℕ) → margin_refusal W H m (length l) ≡ first (tall_refusal (H + m)) (room_refusal W (H + m) (length l))
  unfolding margin_refusal
  margin-number m = ap (λ (k : ℕ). first k (room_refusal W (H + m) (length l))) (sym (first-none _ _ sound))

  margin-same : (out : List ℕ) (m : ℕ) → Same out (Margin m)
  unfolding outcome dropping.reason_of dropping.height_after steps.obeyed_on
  margin-same out m = record { number = margin-number m; answer = λ e. margin-record t m (length l) e some; bytes = λ e. margin-lowered t m l e }

  -- ---- a flip

  flip-number : (x y w h : ℕ) → flip_refusal t x y w h (length l) ≡ first (dropping.flip_reason W H x y w h) (room_refusal W (max H (y + h)) (length l))
  unfolding flip_refusal flip_tall dropping.flip_reason result_refusal
  flip-number x y w h = sym (first-none _ _ sound) ∙ sym (first_then _ _ _ ∙ ap (first (empty_refusal w h)) (first_then _ _ _))

  flip-same : (out : List ℕ) (x y w h : ℕ) → Same out (Flip x y w h)
  unfolding outcome dropping.reason_of dropping.height_after steps.obeyed_on
  flip-same out x y w h =
      record {
        number = flip-number x y w h;
        answer = λ e. flip-record t x y w h (length l) e ∙ rw (flip-tall t y h) refl;
        bytes = λ e. flip-placed t x y w h l e;
      }

  -- ---- an image: decoded, then put

  module _ (out : List ℕ) (x y w h sx sy : ℕ) (c : RGBA) (mode start size : ℕ) (inside : start + size ≤ length s) (long : length out ≡ 4 * (w * factor sx * (h * factor sy))) where
    abbrev bytes : List ℕ
    bytes = data_of s start size

    abbrev wide : ℕ
    wide = w * factor sx

    abbrev tall : ℕ
    tall = h * factor sy

    -- decoding's number
    abbrev decoding : ℕ
    decoding = refusal Bits w h (factor sx) (factor sy) (length bytes) (length out)

    abbrev pixels : List ℕ
    pixels = decoded_on Bits bytes w h sx sy c out

    abbrev entry : Entry
    entry = image_entry W x y w h (factor sx) (factor sy) c mode start

    bytes-length : length bytes ≡ size
    bytes-length = length-take-le size (drop start s) (omega (arith, length-drop start s))

    pixels-length : length pixels ≡ 4 * (wide * tall)
    unfolding decoded_on output
    pixels-length = by (eqb decoding done) ∙ long
      where
        by : (b : Bool) → length (if b then change (within 0 (wide * tall)) (λ i _. pixel_of Bits bytes w h (factor sx) (factor sy) c (i % wide) (i / wide)) out else out) ≡ length out
        by true = length-change _ _ out
        by false = refl

    -- the job's order is the decoding's, and then the put's
    image-order : dropping.image_reason W H x y w h (factor sx) (factor sy) size ≡ first decoding (dropping.put_reason W H x y wide tall)
    unfolding refusal lacks_room dropping.image_reason first
    image-order =
        rw (bytes-length, long, le-ltb (4 * (wide * tall)) (4 * (wide * tall)) (omega arith)) (by (is_large w h (factor sx) (factor sy)) (not (eqb size (bytes_of Bits w h))) _)
      where
        by : (a b : Bool) (p : ℕ) → (if a then too_large else if b then wrong_length else p) ≡ first (if a then too_large else if b then wrong_length else done) p
        by true b p = refl
        by false true p = refl
        by false false p = refl

    image-reason : decoding ≡ done → dropping.image_reason W H x y w h (factor sx) (factor sy) size ≡ dropping.put_reason W H x y wide tall
    image-reason e = image-order ∙ sym (first-none _ _ e)

    pixels-number : put_refusal t x y wide tall (length pixels) (length l) ≡ first (dropping.put_reason W H x y wide tall) (room_refusal W (max H (y + tall)) (length l))
    unfolding rect_refusal
    pixels-number = rw pixels-length (put-number x y wide tall)

    pixels-on : put_refusal t x y wide tall (length pixels) (length l) ≡ done → x < W
    pixels-on e = (put-kept W H x y wide tall (first_done _ _ (sym pixels-number ∙ e)).0).on

    -- the decoder's pixel is the entry's
    pixel-same : decoding ≡ done → (i j : ℕ) → i < wide → j < tall → dot_at pixels (j * wide + i) ≡ entry_pixel s entry i j
    unfolding decoded_on output image_entry entry_pixel image_pixel pixel_of alpha_of bit_alpha
    pixel-same e i j u v =
        let k : j * wide + i < wide * tall = omega (arith, pixel-in wide tall (i + 1) j (omega arith) v) in
        let p = at-column wide i j u in
        let d = single-done Bits w h (factor sx) (factor sy) (length bytes) (length out) e in
        let col : i / factor sx < w = (div-lt_iff_lt-mul (factor-some sx)).1 u in
        let row : j / factor sy < h = (div-lt_iff_lt-mul (factor-some sy)).1 v in
        let near : place Bits w h (i / factor sx) (j / factor sy) < size = in-data Bits w h (i / factor sx) (j / factor sy) col row (omega (arith, d.bytes, bytes-length)) in
        rw (eq-eqb decoding done e)
        (change-picked _ _ out (j * wide + i) (within-yes 0 (wide * tall) (j * wide + i) (omega arith) k) (omega (arith, long))
        ∙ rw (p.0, p.1) (ap (λ (b : ℕ). with_alpha c (b / 2 ^ (7 - i / factor sx % 8) % 2 * 255)) (get_or-take size (drop start s) _ 0 near)))

    drawn-same : decoding ≡ done → (i j : ℕ) → i < wide → j < tall → (d : RGBA) → pixels_drawn (multiplies mode) pixels wide i j d ≡ drawn (multiplies mode) (entry_pixel s entry i j) d
    drawn-same e i j u v d =
        let q : length pixels / 4 ≡ wide * tall = omega (arith, pixels-length) in
        let k : j * wide + i < wide * tall = omega (arith, pixel-in wide tall (i + 1) j (omega arith) v) in
        rw (q, lt-ltb (j * wide + i) (wide * tall) k, pixel-same e i j u v) refl

    image-bytes : decoding ≡ done → put_refusal t x y wide tall (length pixels) (length l) ≡ done
        → put_on (multiplies mode) t x y wide tall pixels l ≡ steps.obeyed_on s W paper H (Image x y w h sx sy c mode start size) l
    unfolding steps.obeyed_on image_entry
    image-bytes e f =
        put-placed (multiplies mode) t x y wide tall l pixels f
        ∙ placed-grown t refl x y wide tall _ l (pixels-on f)
        ∙ area-by _ _ _ _ _ _ _ _ (λ i j u v. drawn-same e i j (omega arith) v _)
        ∙ sym (entry-area entry)

    -- done; and refused, whatever pixels there are
    image-put : decoding ≡ done → OnCanvas s W H paper l (Image x y w h sx sy c mode start size) (image_outcome done mode x y wide tall pixels t l)
    unfolding image_outcome dropping.reason_of dropping.height_after first
    image-put e =
        record {
          number = rw (image-reason e) pixels-number;
          answer = λ f. put_record t x y wide tall (length pixels) (length l) f ∙ put-answer x y wide tall;
          bytes = λ f. image-bytes e f;
        }

    image-refused : (any : List ℕ) → (decoding ≡ done → ⊥) → OnCanvas s W H paper l (Image x y w h sx sy c mode start size) (image_outcome decoding mode x y 0 0 any t l)
    unfolding image_outcome dropping.reason_of
    image-refused any e =
        let kept = first_some decoding (dropping.put_reason W H x y wide tall) e in
        record {
          number = rw image-order (rw (← kept) (sym (first_some decoding _ e) ∙ first_some decoding _ e));
          answer = λ f. absurd (e (first_done _ _ f).0);
          bytes = λ f. absurd (e (first_done _ _ f).0);
        }

    image-same : Same out (Image x y w h sx sy c mode start size)
    unfolding outcome decoded answer
    image-same = by (eqb decoding done) refl
      where
        by : (b : Bool) → eqb decoding done ≡ b → Same out (Image x y w h sx sy c mode start size)
        by true e = rw e (image-put (eqb-true decoding done e))
        by false e = rw e (image-refused _ (eqb-false decoding done e))

pub commands-on-canvas : CommandsOnCanvas
unfolding Inside pixel_bytes
commands-on-canvas s out l W H paper (Rectangle x y w h c mode) some sound inside long = rectangle-same s W H paper l some sound out x y w h c mode
commands-on-canvas s out l W H paper (Image x y w h sx sy c mode start size) some sound inside long = image-same s W H paper l some sound out x y w h sx sy c mode start size inside long
commands-on-canvas s out l W H paper (Margin m) some sound inside long = margin-same s W H paper l some sound out m
commands-on-canvas s out l W H paper (Flip x y w h) some sound inside long = flip-same s W H paper l some sound out x y w h
