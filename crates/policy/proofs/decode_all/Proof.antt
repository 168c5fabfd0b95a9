-- `decode_all` meets its contract. The invariant: the refusal of all rows is that of the rows from credential i on, the credentials below i are stored, and the
-- greatest of their serials is carried.
use mathlib.Core.Path.{◌≡◌, refl, sym, ap, ◌∙◌}
use mathlib.Core.Logic.{inl}
use Prim.Native.Nat.{ℕ, ◌-◌, ◌≤◌, ◌<◌}
use native.Mathlib.Omega.{arith}
use borrow.Author.Count.{below_more}
use Rattle.file.specs.Format.{N}
use Rattle.file.specs.Reading.{credentials_rows}
use Rattle.file.specs.Values.{first_refusal}
use Rattle.file.proofs.Rows.{rows_from, rows_start, rows_end, rows-stopped, rows-passed}
use Rattle.serials.specs.Serials.{Greatest}
use Rattle.policy.specs.Steps.{Worded}
use Rattle.policy.proofs.decode_all.Statement.{statement}
use Rattle.policy.proofs.decode_all.Tie as tie

abbrev invariant-loop : tie.invariant-loop-i
invariant-loop policy₀ file h n greatest₀ i₀ policy greatest i =
    (i ≤ N file) × ((first_refusal (credentials_rows file) ≡ first_refusal (rows_from file i)) × ((j : ℕ) → j < i → Worded file policy j)) × Greatest file i greatest

abbrev decreases-loop : tie.decreases-loop-i
decreases-loop policy₀ file h n greatest₀ i₀ policy greatest i = N file - i

loop-holds : tie.Need-loop-i-init invariant-loop decreases-loop
loop-holds c = (omega arith, (rows_start c.before.args.file.now, λ j l. absurd (omega arith)), record { bound = λ j l. absurd (omega arith); reached = inl (refl, refl) })

decode-one-requires : tie.Need-decode_one-number-requires invariant-loop decreases-loop
decode-one-requires c κs = ((c.before.before.before.before.requires, omega arith), c.before.before.loop-i.invariant.2)

cast-t10 : tie.Need-overflow_cast-result invariant-loop decreases-loop
cast-t10 c = omega arith

returns : tie.Need-returns-then-number-ne0 invariant-loop decreases-loop
returns c =
    let f = c.before.before.before.before.before.before.args.file.now in
    let l = c.before.before.before.before.loop-i in
    let e = c.before.decode_one-number.ensures.number in
    record {
      refusal = sym (l.invariant.1.0 ∙ rows-stopped f l.i (omega arith) (λ z. c.if-number-ne0.true (e ∙ z)) ∙ ap (λ (n : ℕ). record { number = n; place = l.i }) (sym e));
      each = λ z. absurd (c.if-number-ne0.true z);
    }

greatest-with-requires : tie.Need-greatest_with-greatest-requires invariant-loop decreases-loop
greatest-with-requires c κs = (omega arith, c.before.before.before.before.loop-i.invariant.2)

add-i : tie.Need-overflow_add-i invariant-loop decreases-loop
add-i c = omega arith

loop-less : tie.Need-loop-i-smaller invariant-loop decreases-loop
loop-less c = omega arith

loop-again : tie.Need-loop-i-preserved invariant-loop decreases-loop
loop-again c =
    let f = c.before.before.before.before.before.before.before.args.file.now in
    let l = c.before.before.before.before.before.loop-i in
    let e = c.before.before.decode_one-number.ensures in (
      omega arith,
      (
        l.invariant.1.0 ∙ rows-passed f l.i (omega arith) (sym e.number ∙ c.before.if-number-ne0.false),
        below_more _ _ (λ j m. e.kept j m (l.invariant.1.1 j m)) (e.stored c.before.if-number-ne0.false),
      ),
      c.greatest_with-greatest.ensures,
    )

returns-2 : tie.Need-returns invariant-loop decreases-loop
returns-2 c =
    let f = c.before.before.before.args.file.now in
    let l = c.before.loop-i in
    record { refusal = sym (l.invariant.1.0 ∙ rows_end f l.i (omega arith)); each = λ z j m. l.invariant.1.1 j (omega arith) }

pub decode_all_spec : {M : Type 1} → statement M
decode_all_spec =
    tie.close
    (tie.spec
    invariant-loop
    decreases-loop
    loop-holds
    decode-one-requires
    cast-t10
    returns
    greatest-with-requires
    add-i
    loop-less
    loop-again
    returns-2)
