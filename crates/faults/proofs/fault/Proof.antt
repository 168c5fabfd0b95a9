-- `fault` meets its contract: each return is the first of the rows that holds.
use mathlib.Core.Path.{◌≡◌, sym, ◌∙◌, ap, subst⁻¹}
use mathlib.Core.Logic.{inl, inr}
use Prim.Native.Nat.{ℕ, ◌<◌, ◌≤◌}
use borrow.Author.Tests.{not-true, not-false}
use mathlib.Core.Bool.{true}
use Rattle.file.specs.declared.Dates.{Dates}
use Rattle.file.specs.Format.{from_of, to_of}
use Rattle.file.specs.Reading.{in_range, zeros}
use Rattle.file.specs.Values.{Stated}
use Rattle.file.proofs.Uses.{kind_at}
use Rattle.file.proofs.Faults.{fault-4, fault-5, fault-6, fault-7, fault-none, stated}
use borrow.Author.Rules.{rules}
use Rattle.faults.proofs.fault.Statement.{statement}
use Rattle.faults.proofs.fault.Tie as tie

mul-if1 : tie.Need-overflow_mul-i
mul-if1 c = search rules

add-if1 : tie.Need-overflow_add-i
add-if1 c = search rules

shared-slice-read-if1 : tie.Need-bounds-file-i
shared-slice-read-if1 c = search rules

returns : tie.Need-returns-then-file-i-gt5
returns c =
    let a = c.before.before.before.args in
    sym (fault-4 a.file.now a.i (subst⁻¹ (λ (n : ℕ). 5 < n) (kind_at a.file.now a.i) c.if-file-i-gt5.true))

kind-known : (c : tie.Else-file-i-gt5) → Stated c.before.before.before.args.file.now c.before.before.before.args.i
kind-known c =
    let s = c.before.before.before in
    stated s.args.file.now s.args.h s.args.i s.requires.0 s.requires.1 c.if-file-i-gt5.false

in-range-requires : tie.Need-in_range-requires
in-range-requires c κs = (kind-known c, (c.before.before.before.requires.0.entities, c.before.before.before.requires.0.names))

returns-2 : tie.Need-returns-then-not-in_range
returns-2 c =
    let a = c.before.before.before.before.before.args in
    sym (fault-5 a.file.now a.i (kind-known c.before.before).kind (sym c.before.in_range.ensures ∙ not-true _ c.if-not-in_range.true-raw))

zeroed-requires : tie.Need-zeroed-requires
zeroed-requires c κs = kind-known c.before.before

range-known : (c : tie.Else-not-in_range) → in_range c.before.before.before.before.before.args.file.now c.before.before.before.before.before.args.i ≡ true
range-known c = sym c.before.in_range.ensures ∙ not-false _ c.if-not-in_range.false-raw

returns-3 : tie.Need-returns-then-not-zeroed
returns-3 c =
    let a = c.before.before.before.before.before.before.before.args in
    sym
    (fault-6 a.file.now a.i (kind-known c.before.before.before.before).kind (range-known c.before.before)
    (sym c.before.zeroed.ensures ∙ not-true _ c.if-not-zeroed.true-raw))

dates-at-requires : tie.Need-dates_at-v-requires
dates-at-requires c κs = search rules

returns-4 : tie.Need-returns-then-v
returns-4 c =
    let s = c.before.before.before.before.before.before.before.before.before.before in
    let f = s.args.file.now in
    let i = s.args.i in
    let v = c.before.before.dates_at-v.ensures in
    let a = ap (λ (x : Dates). x.from) v in
    let b = ap (λ (x : Dates). x.to) v in
    let t : (to_of f i < from_of f i) = rw (← a, ← b) c.if-v.true in
    let z : zeros f i ≡ true = sym c.before.before.before.before.zeroed.ensures ∙ not-false _ c.before.before.before.if-not-zeroed.false-raw in
    sym (fault-7 f i (kind-known c.before.before.before.before.before.before.before).kind (range-known c.before.before.before.before.before) z (inl t))

returns-5 : tie.Need-returns-then-v-2
returns-5 c =
    let s = c.before.before.before.before.before.before.before.before.before.before.before.before in
    let f = s.args.file.now in
    let i = s.args.i in
    let v = c.before.before.before.before.dates_at-v.ensures in
    let a = ap (λ (x : Dates). x.from) v in
    let b = ap (λ (x : Dates). x.to) v in
    let z : zeros f i ≡ true = sym c.before.before.before.before.before.before.zeroed.ensures ∙ not-false _ c.before.before.before.before.before.if-not-zeroed.false-raw in
    let t : to_of f i ≡ 4294967295 = rw (← b) c.if-v-2.true in
    sym (fault-7 f i (kind-known c.before.before.before.before.before.before.before.before.before).kind (range-known c.before.before.before.before.before.before.before) z (inr t))

returns-6 : tie.Need-returns
returns-6 c =
    let s = c.before.before.before.before.before.before.before.before.before.before.before.before in
    let f = s.args.file.now in
    let i = s.args.i in
    let v = c.before.before.before.before.dates_at-v.ensures in
    let a = ap (λ (x : Dates). x.from) v in
    let b = ap (λ (x : Dates). x.to) v in
    let z : zeros f i ≡ true = sym c.before.before.before.before.before.before.zeroed.ensures ∙ not-false _ c.before.before.before.before.before.if-not-zeroed.false-raw in
    let t : (from_of f i ≤ to_of f i) = rw (← a, ← b) c.before.before.if-v.false in
    let n : ¬ (to_of f i ≡ 4294967295) = rw (← b) c.if-v-2.false in
    sym (fault-none f i (kind-known c.before.before.before.before.before.before.before.before.before).kind (range-known c.before.before.before.before.before.before.before) z (record { order = t; minute = n }))

pub fault_spec : {M : Type 1} → statement M
fault_spec =
    tie.close
    (tie.spec
    mul-if1
    add-if1
    shared-slice-read-if1
    returns
    in-range-requires
    returns-2
    zeroed-requires
    returns-3
    dates-at-requires
    returns-4
    returns-5
    returns-6)
