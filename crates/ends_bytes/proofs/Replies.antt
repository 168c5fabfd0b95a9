-- The reply and the bytes of each way in which the call ends.
use mathlib.Core.Path.{◌≡◌, refl, sym, ap, ◌∙◌}
use mathlib.Core.Bool.{not}
use mathlib.Core.List.{List, [], ◌∷◌, ◌++◌}
use Prim.Native.Nat.{ℕ, ◌+◌, ◌*◌}
use borrow.Author.Tests.{eq-eqb, ne_eqb}
use lib.Dec.{eqb}
use lib.ListN.{length, take, drop}
use Rattle.meaning.specs.Table.{ends}
use Rattle.file.specs.Refusals.{RefusalRow, Outcome, done, refused, first, ◌when◌, left}
use Rattle.withdrawals.specs.Source.{Source, credentials}
use Rattle.ends.specs.declared.Ends.{Ends}
use Rattle.survey.specs.Ends.{padded}
use Rattle.ends.specs.Ends.{ends_in}
use Rattle.survey.proofs.Holds.{padded-length}
use Rattle.codec.specs.Bytes.{bytes_of}
use Rattle.replies.specs.Interface.{word}
use Rattle.replies.proofs.Leaving.{all-bytes}
use Rattle.replies.proofs.Files.{refused-left, refused-first, accepted-first, ends-refused, ends-accepted}
use Rattle.ends_bytes.specs.Interface.{ends_reply, ends_bytes}

module _ (f : Source) (b : List ℕ) (e : Ends) (u : e ≡ ends_in f) where
  abbrev all : List ℕ
  all = ends (credentials f)

  abbrev written : List ℕ
  written = bytes_of 4 (padded 64 all)

  abbrev nine : List RefusalRow
  nine = 9 when (not (eqb (length b) 256)) ∷ []

  -- the reply r, with the bytes l left
  abbrev pub Ended : ℕ → List ℕ → Type 0
  Ended r l = (r ≡ word (λ n. n) (ends_reply f b)) × (l ≡ ends_bytes f b)

  by-reply : (o : Outcome ℕ) → ends_reply f b ≡ o → Ended (word (λ n. n) o) (left o b written)
  unfolding ends_bytes
  by-reply o q = (ap (word (λ (n : ℕ). n)) (sym q), ap (λ (o : Outcome ℕ). left o b written) (sym q))

  pub file-refused : (e.number ≡ 0 → ⊥) → Ended (e.number * 4294967296 + e.place) b
  unfolding ends_reply
  file-refused h =
      let r = ends-refused f e u h in
      let k = by-reply (refused e.number e.place) (refused-first f nine (length all) r) in
      (k.0, sym (refused-left r b written) ∙ k.1)

  module _ (z : e.number ≡ 0) where
    passed : ends_reply f b ≡ first nine (length all)
    unfolding ends_reply
    passed = accepted-first f nine (length all) (ends-accepted f e u z).0

    pub length-refused : (length b ≡ 256 → ⊥) → Ended (9 * 4294967296 + 0) b
    length-refused h = by-reply (refused 9 0) (passed ∙ rw (ne_eqb (length b) 256 h) refl)

    pub places : length e.ends ≡ 64
    places =
        let k = ends-accepted f e u z in
        ap (λ (x : Ends). length x.ends) k.1 ∙ padded-length all k.0.few

    pub ends-written : length b ≡ 256 → {l : List ℕ} → l ≡ bytes_of 4 (take 64 e.ends) ++ drop (4 * 64) b → Ended e.count l
    ends-written h q =
        let k = (ends-accepted f e u z).1 in
        let w = by-reply (done (length all)) (passed ∙ rw (eq-eqb (length b) 256 h) refl) in
        (ap (λ (x : Ends). x.count) k ∙ w.0, q ∙ all-bytes 4 64 e.ends b places h ∙ ap (λ (x : Ends). bytes_of 4 x.ends) k ∙ w.1)
