-- `serial` says that the serial is zero, or which one it is.
use mathlib.Core.Path.{◌≡◌, sym, ap, ◌∙◌}
use mathlib.Core.List.{List}
use Prim.Native.Nat.{ℕ, ◌+◌, ◌*◌}
use native.Mathlib.Omega.{arith}
use borrow.Author.Tests.{eq-eqb, ne_eqb}
use Rattle.file.specs.Format.{four, statement_at, serial_of}
use Rattle.file_sentences.proofs.Wording.{serial-zero-line, serial-line}
use Rattle.file_sentences.proofs.serial.Goals as goal

serial-known : (f : List ℕ) (i : ℕ) {x : ℕ} → x ≡ four f (14 + 12 * i) → serial_of f i ≡ x
serial-known f i e =
    let p : statement_at i + 8 ≡ 14 + 12 * i = omega arith in
    ap (four f) p ∙ sym e

pub returns-then-x-eq0 : goal.returns-then-x-eq0
returns-then-x-eq0 c = rw (serial-known c.args.file.now c.args.place c.four_at-x.ensures, eq-eqb _ _ c.if-x-eq0.true) (serial-zero-line _)

pub returns : goal.returns
returns c = rw (serial-known c.args.file.now c.args.place c.four_at-x.ensures, ne_eqb _ _ c.if-x-eq0.false) (serial-line _ _)
