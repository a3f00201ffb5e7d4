-- Buffers as they are at first.
use Rattle.std.specs.Prelude.{ℕ, List, replicate}

-- n bytes, each of them b
unfoldable pub all : ℕ → ℕ → List ℕ
all n b = replicate n b
