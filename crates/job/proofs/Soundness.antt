-- What soundness says of the paper and of each command. Assumes nothing.
use Prim.Native.Nat.{ℕ, ◌+◌, ◌-◌, ◌≤◌, ◌<◌}
use mathlib.Core.Path.{◌≡◌, refl}
use mathlib.Core.List.{List, [], ◌∷◌}
use mathlib.Core.Bool.{Bool, true, false, ◌&&◌}
use native.Mathlib.Omega.{arith}
use borrow.Author.Tests.{leb-true, eqb-true, eq-eqb, ne_eqb, le-leb, lt-leb}
use lib.Dec.{leb, eqb}
use lib.ListN.{length}
use Rattle.numbers.specs.Numbers.{limit}
use Rattle.std.specs.Prelude.{if◌then◌else◌}
use Rattle.colour.specs.declared.RGBA.{RGBA}
use Rattle.colour.proofs.Tests.{and_both}
use Rattle.job.specs.declared.commands.Command.{Command}
use Rattle.job.specs.declared.commands.Command.TheVariants.{Rectangle, Image, Margin, Flip}
use Rattle.job.specs.Records.{byte_at, Bytes, le32, Records}
use Rattle.job.specs.Commands.{paper_kind, rectangle_kind, image_kind, margin_kind, flip_kind, paper_size, rectangle_size, image_size, margin_size, flip_size, sound_mode, sound_paper, sound_command, sound_commands, rectangle_at, image_at, flip_at, command_at, commands_in}
use Rattle.job.proofs.Found.{Inside, in-ended, in-broken, in-rec}

-- ---- the paper

module _ (s : List ℕ) (kind at n : ℕ) where
  pub paper-other : (kind ≡ paper_kind → ⊥) → false ≡ sound_paper s kind at n
  unfolding sound_paper
  paper-other a = rw (ne_eqb kind paper_kind a)

  module _ (k : kind ≡ paper_kind) where
    pub paper-sized : (n ≡ paper_size → ⊥) → false ≡ sound_paper s kind at n
    unfolding sound_paper
    paper-sized a = rw (eq-eqb kind paper_kind k, ne_eqb n paper_size a)

    module _ (z : n ≡ paper_size) {w : ℕ} (e : w ≡ le32 s at) where
      pub paper-narrow : w < 1 → false ≡ sound_paper s kind at n
      unfolding sound_paper
      paper-narrow a = rw (eq-eqb kind paper_kind k, eq-eqb n paper_size z, lt-leb 1 (le32 s at) (omega arith))

      pub paper-last : 1 ≤ w → leb w limit ≡ sound_paper s kind at n
      unfolding sound_paper
      paper-last a = rw (eq-eqb kind paper_kind k, eq-eqb n paper_size z, le-leb 1 (le32 s at) (omega arith), e)

  pub record Paper : Type 0 where
    pub is-paper : kind ≡ paper_kind
    pub size : n ≡ paper_size
    pub some : 1 ≤ le32 s at
    pub wide : le32 s at ≤ limit

  pub paper : sound_paper s kind at n ≡ true → Paper
  unfolding sound_paper
  paper e =
      let a = and_both (eqb kind paper_kind && eqb n paper_size && leb 1 (le32 s at)) (leb (le32 s at) limit) e in
      let b = and_both (eqb kind paper_kind && eqb n paper_size) (leb 1 (le32 s at)) a.0 in
      let c = and_both (eqb kind paper_kind) (eqb n paper_size) b.0 in
      record { is-paper = eqb-true _ _ c.0; size = eqb-true _ _ c.1; some = leb-true _ _ b.1; wide = leb-true _ _ a.1 }

-- ---- the tests of a command, as the code makes them

module _ (s : List ℕ) (kind at n : ℕ) where
  pub rectangle-sound : kind ≡ rectangle_kind → n ≡ rectangle_size → sound_mode (byte_at s (at + 20)) ≡ sound_command s kind at n
  unfolding sound_command
  rectangle-sound a b = rw (eq-eqb kind rectangle_kind a, eq-eqb n rectangle_size b)

  pub rectangle-sized : kind ≡ rectangle_kind → (n ≡ rectangle_size → ⊥) → false ≡ sound_command s kind at n
  unfolding sound_command
  rectangle-sized a b = rw (eq-eqb kind rectangle_kind a, ne_eqb n rectangle_size b)

  pub image-sound : kind ≡ image_kind → image_size ≤ n → sound_mode (byte_at s (at + 22)) ≡ sound_command s kind at n
  unfolding sound_command
  image-sound a b = rw (ne_eqb kind rectangle_kind (λ z. omega arith), eq-eqb kind image_kind a, le-leb image_size n b)

  pub image-sized : kind ≡ image_kind → n < image_size → false ≡ sound_command s kind at n
  unfolding sound_command
  image-sized a b = rw (ne_eqb kind rectangle_kind (λ z. omega arith), eq-eqb kind image_kind a, lt-leb image_size n b)

  pub margin-sound : kind ≡ margin_kind → eqb n margin_size ≡ sound_command s kind at n
  unfolding sound_command
  margin-sound a = rw (ne_eqb kind rectangle_kind (λ z. omega arith), ne_eqb kind image_kind (λ z. omega arith), eq-eqb kind margin_kind a)

  -- neither a rectangle nor an image nor a margin
  module _ (a : kind ≡ rectangle_kind → ⊥) (b : kind ≡ image_kind → ⊥) (d : kind ≡ margin_kind → ⊥) where
    pub flip-sound : kind ≡ flip_kind → eqb n flip_size ≡ sound_command s kind at n
    unfolding sound_command
    flip-sound e = rw (ne_eqb kind rectangle_kind a, ne_eqb kind image_kind b, ne_eqb kind margin_kind d, eq-eqb kind flip_kind e)

    pub other-kind : (kind ≡ flip_kind → ⊥) → false ≡ sound_command s kind at n
    unfolding sound_command
    other-kind e = rw (ne_eqb kind rectangle_kind a, ne_eqb kind image_kind b, ne_eqb kind margin_kind d, ne_eqb kind flip_kind e)

    pub flip-size : sound_command s kind at n ≡ true → n ≡ flip_size
    unfolding sound_command
    flip-size e = eqb-true _ _ (and_both (eqb kind flip_kind) _ (rw (ne_eqb kind rectangle_kind a, ne_eqb kind image_kind b, ne_eqb kind margin_kind d) at e)).1

    pub is-flip : flip_at s at ≡ command_at s kind at n
    unfolding command_at
    is-flip = rw (ne_eqb kind rectangle_kind a, ne_eqb kind image_kind b, ne_eqb kind margin_kind d)

  -- ---- what soundness says of the size, and the command of a kind

  pub rectangle-size : sound_command s kind at n ≡ true → kind ≡ rectangle_kind → n ≡ rectangle_size
  unfolding sound_command
  rectangle-size e a = eqb-true _ _ (and_both (eqb n rectangle_size) _ (rw (eq-eqb kind rectangle_kind a) at e)).0

  pub image-size : sound_command s kind at n ≡ true → kind ≡ image_kind → image_size ≤ n
  unfolding sound_command
  image-size e a = leb-true _ _ (and_both (leb image_size n) _ (rw (ne_eqb kind rectangle_kind (λ z. omega arith), eq-eqb kind image_kind a) at e)).0

  pub margin-size : sound_command s kind at n ≡ true → kind ≡ margin_kind → n ≡ margin_size
  unfolding sound_command
  margin-size e a = eqb-true _ _ (rw (ne_eqb kind rectangle_kind (λ z. omega arith), ne_eqb kind image_kind (λ z. omega arith), eq-eqb kind margin_kind a) at e)

  pub is-rectangle : kind ≡ rectangle_kind → rectangle_at s at ≡ command_at s kind at n
  unfolding command_at
  is-rectangle a = rw (eq-eqb kind rectangle_kind a)

  pub is-image : kind ≡ image_kind → image_at s at n ≡ command_at s kind at n
  unfolding command_at
  is-image a = rw (ne_eqb kind rectangle_kind (λ z. omega arith), eq-eqb kind image_kind a)

  pub is-margin : kind ≡ margin_kind → Margin (le32 s at) ≡ command_at s kind at n
  unfolding command_at
  is-margin a = rw (ne_eqb kind rectangle_kind (λ z. omega arith), ne_eqb kind image_kind (λ z. omega arith), eq-eqb kind margin_kind a)

-- ---- a command of a sound record: its mode is one, its stretches are bytes and its bit rows lie in the job

-- P says what a stretch is
pub data SaneBy (P : ℕ → Type 0) (s : List ℕ) : Command → Type 0 where
  sane-rectangle : {x y w h : ℕ} {c : RGBA} {mode : ℕ} → mode ≤ 1 → SaneBy P s (Rectangle x y w h c mode)
  sane-image : {x y w h sx sy : ℕ} {c : RGBA} {mode start size : ℕ} → mode ≤ 1 → P sx → P sy → start + size ≤ length s → SaneBy P s (Image x y w h sx sy c mode start size)
  sane-margin : {m : ℕ} → SaneBy P s (Margin m)
  sane-flip : {x y w h : ℕ} → SaneBy P s (Flip x y w h)

abbrev pub Sane : List ℕ → Command → Type 0
Sane s c = SaneBy (λ n. n ≤ 255) s c

-- nothing is asked of a stretch
abbrev pub Held : List ℕ → Command → Type 0
Held s c = SaneBy (λ n. n ≡ n) s c

pub data AllSane (s : List ℕ) : List Command → Type 0 where
  sane-none : AllSane s []
  sane-more : {c : Command} {cs : List Command} → Sane s c → AllSane s cs → AllSane s (c ∷ cs)

sane-by : (P : ℕ → Type 0) (s : List ℕ) (kind at n : ℕ) (k2 k3 k4 : Bool) → ((i : ℕ) → P (byte_at s i)) → at + n ≤ length s
    → (if k2 then eqb n rectangle_size && sound_mode (byte_at s (at + 20)) else if k3 then leb image_size n && sound_mode (byte_at s (at + 22)) else if k4 then eqb n margin_size else eqb kind flip_kind && eqb n flip_size) ≡ true
    → SaneBy P s (if k2 then rectangle_at s at else if k3 then image_at s at n else if k4 then Margin (le32 s at) else flip_at s at)
sane-by P s kind at n true k3 k4 b f e = sane-rectangle (leb-true _ _ (and_both (eqb n rectangle_size) (sound_mode (byte_at s (at + 20))) e).1)
sane-by P s kind at n false true k4 b f e =
    let g = and_both (leb image_size n) (sound_mode (byte_at s (at + 22))) e in
    let l : image_size ≤ n = leb-true _ _ g.0 in
    let room : at + image_size + (n - image_size) ≤ length s = omega arith in
    sane-image (leb-true _ _ g.1) (b (at + 16)) (b (at + 17)) room
sane-by P s kind at n false false true b f e = sane-margin
sane-by P s kind at n false false false b f e = sane-flip

pub sane : (P : ℕ → Type 0) (s : List ℕ) (kind at n : ℕ) → ((i : ℕ) → P (byte_at s i)) → at + n ≤ length s → sound_command s kind at n ≡ true → SaneBy P s (command_at s kind at n)
unfolding sound_command command_at
sane P s kind at n b f e = sane-by P s kind at n (eqb kind rectangle_kind) (eqb kind image_kind) (eqb kind margin_kind) b f e

pub held : (s : List ℕ) (kind at n : ℕ) → at + n ≤ length s → sound_command s kind at n ≡ true → Held s (command_at s kind at n)
held s kind at n f e = sane (λ n. n ≡ n) s kind at n (λ i. refl) f e

pub all-sane : (s : List ℕ) {rs : Records} → Bytes s → Inside (length s) rs → sound_commands s rs ≡ true → AllSane s (commands_in s rs)
unfolding sound_commands commands_in
all-sane s b in-ended e = sane-none
all-sane s b in-broken e = sane-none
all-sane s b (in-rec {k} {st} {size} {rest} f r) e =
    let g = and_both (sound_command s k st size) (sound_commands s rest) e in
    sane-more (sane (λ n. n ≤ 255) s k st size b f g.0) (all-sane s b r g.1)
