-- `read_credential` meets its contract.
use mathlib.Core.Path.{◌≡◌, sym, ◌∙◌, subst}
use Rattle.file.specs.Format.{N}
use Rattle.file.specs.Reading.{head_rows}
use Rattle.file.specs.Values.{Headed, first_number}
use Prim.Native.Nat.{ℕ, ◌<◌, ◌≤◌}
use Rattle.file.proofs.Sizes.{number_read, headed-read}
use Rattle.file.proofs.Readable.{found-end, found-value}
use Rattle.reader.proofs.Unreadable.{found-refused, found-fault}
use borrow.Author.Rules.{rules}
use Rattle.reader.proofs.read_credential.Statement.{statement}
use Rattle.reader.proofs.read_credential.Tie as tie

read-head-requires : tie.Need-read_head-h-requires
read-head-requires c κs = search rules

returns : tie.Need-returns-then-h-ne0
returns c =
    let s = c.before.before.before.before.args in
    let h = c.before.before.read_head-h in
    sym (found-refused s.file.now s.i (λ e. c.if-h-ne0.true (number_read s.file.now h.result h.ensures ∙ e)))

head-known : (c : tie.Else-h-ne0) → Headed c.before.before.before.before.args.file.now c.before.before.read_head-h.result
head-known c =
    let h = c.before.before.read_head-h in
    headed-read c.before.before.before.before.args.file.now h.result h.ensures c.if-h-ne0.false

head_clear : (c : tie.Else-h-ne0) → first_number (head_rows c.before.before.before.before.args.file.now) ≡ 0
head_clear c =
    let h = c.before.before.read_head-h in
    sym (number_read c.before.before.before.before.args.file.now h.result h.ensures) ∙ c.if-h-ne0.false

returns-2 : tie.Need-returns-then-n-i
returns-2 c =
    let s = c.before.before.before.before.before.args in
    sym
    (found-end s.file.now s.i (head_clear c.before)
    (subst (λ (n : ℕ). n ≤ s.i) (head-known c.before).credentials c.if-n-i.true))

low-known : (c : tie.Else-n-i) → c.before.before.before.before.before.args.i < N c.before.before.before.before.before.args.file.now
low-known c = subst (λ (n : ℕ). c.before.before.before.before.before.args.i < n) (head-known c.before).credentials c.if-n-i.false

fault-requires : tie.Need-fault-requires
fault-requires c κs = (head-known c.before, low-known c)

returns-3 : tie.Need-returns-then-fault-ne0
returns-3 c =
    let s = c.before.before.before.before.before.before.before.args in
    sym
    (found-fault s.file.now s.i (head_clear c.before.before.before) (low-known c.before.before)
    (λ e. c.if-fault-ne0.true (c.before.fault.ensures ∙ e)))

value-at-requires : tie.Need-value_at-requires
value-at-requires c κs =
    (head-known c.before.before.before, low-known c.before.before, sym c.before.fault.ensures ∙ c.if-fault-ne0.false)

returns-4 : tie.Need-returns
returns-4 c =
    let s = c.before.before.before.before.before.before.before.before.args in
    c.value_at.ensures
    ∙ sym
    (found-value s.file.now s.i (head_clear c.before.before.before.before) (low-known c.before.before.before)
    (sym c.before.before.fault.ensures ∙ c.before.if-fault-ne0.false))

pub read_credential_spec : {M : Type 1} → statement M
read_credential_spec =
    tie.close
    (tie.spec
    read-head-requires
    returns
    returns-2
    fault-requires
    returns-3
    value-at-requires
    returns-4)
