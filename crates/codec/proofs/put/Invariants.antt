-- The first i bytes with those of the rest are the bytes of the number.
use Rattle.std.proofs.Common.{◌≡◌, ◌++◌, length, take, ◌-◌}
use Rattle.codec.specs.Bytes.{bytes}
use Rattle.codec.proofs.put.Given as goal

abbrev pub invariant-loop-i : goal.invariant-loop-i
invariant-loop-i l = (length l.dst ≡ length l.fn.dst) × (take l.i l.dst ++ bytes (length l.fn.dst - l.i) l.rest ≡ bytes (length l.fn.dst) l.fn.x)
