-- A text as bytes, one for each character: texts here are ASCII.
use Rattle.std.specs.Prelude.{ℕ, List, [], ◌∷◌}
use Prim.Native.Char.{code}
use Prim.Native.String.{String, [] as none, ◌∷◌ as ◌before◌}

abbrev pub ascii : String → List ℕ
ascii none = []
ascii (c before s) = code c ∷ ascii s
