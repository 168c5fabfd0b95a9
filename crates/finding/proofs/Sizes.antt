-- Lists of given lengths: those that a request has, where only their lengths are known.
use Prim.Native.Nat.{ℕ}
use lib.ListN.{replicate, length-replicate}
use Rattle.asking.specs.Asking.{StepLists, step_lists, Sized}

abbrev pub some : ℕ → ℕ → ℕ → ℕ → StepLists
some c f s r = step_lists (replicate c 0) (replicate f 0) (replicate s 0) (replicate r 0)

pub some-sized : (c f s r : ℕ) → Sized (some c f s r) c f s r
some-sized c f s r = record { credential = length-replicate c 0; first = length-replicate f 0; second = length-replicate s 0; sets = length-replicate r 0 }
