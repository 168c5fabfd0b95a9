-- The entry's spans are tested.
use Rattle.std.proofs.Common.{arith, ◌≡◌, ap, refl, ℕ, get_or, eqb-true, bit_and}
use Rattle.meaning.specs.Table.{bit}
use Rattle.meaning.proofs.Bits.{bit-below-two, bit-and}
use Rattle.store.proofs.Store.known.Goals as goal

bit_in : (a m s : ℕ) → bit_and a m ≡ m → bit m s ≡ 1 → bit a s ≡ 1
bit_in a m s e b = let f = ap (λ (x : ℕ). bit x s) e in omega (arith, bit-and a m s, bit-below-two a s)

pub returns-in-Some : goal.returns-in-Some
returns-in-Some c = λ e n o.
    let u = (c.in-Some.ensures.entry n o).present c.in-Some.i refl in
    (c.in-Some.i, u.0, u.1, λ s. bit_in (get_or c.args.self.now.spans c.in-Some.i 0) c.args.m s (eqb-true _ _ e))
