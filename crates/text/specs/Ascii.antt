-- Text as bytes, in ASCII.
use Rattle.std.specs.Prelude.{ℕ, List, [], ◌∷◌}
use Prim.Native.Char.{code}
use Prim.Native.String.{String, [] as none, ◌∷◌ as ◌before◌}

-- the code of each character
unfoldable pub ascii : String → List ℕ
ascii none = []
ascii (c before rest) = code c ∷ ascii rest
