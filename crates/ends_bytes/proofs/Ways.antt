-- The two ways in which the call ends: a refusal, or a file that is accepted and a list of 256 bytes.
use mathlib.Core.Path.{◌≡◌, refl, ap, ◌∙◌, subst⁻¹}
use mathlib.Core.Logic.{inl, inr}
use mathlib.Core.Bool.{Bool, true, false, not}
use mathlib.Core.List.{List, [], ◌∷◌}
use Prim.Native.Nat.{ℕ, ◌≤◌}
use native.Mathlib.Omega.{arith}
use borrow.Author.Tests.{eq-eqb}
use lib.Dec.{T, eqb, eqb→eq}
use lib.ListN.{length}
use Rattle.meaning.specs.Table.{ends}
use Rattle.file.specs.Refusals.{RefusalRow, Outcome, done, refused, first, ◌when◌, left}
use Rattle.withdrawals.specs.Source.{Source, credentials}
use Rattle.withdrawals.specs.Conditions.{Accepted}
use Rattle.withdrawals.proofs.Refusals.{refused-some, Verdict, verdict}
use Rattle.survey.specs.Ends.{padded}
use Rattle.codec.specs.Bytes.{bytes_of}
use Rattle.replies.specs.Interface.{word}
use Rattle.replies.proofs.Files.{refused-left, refused-first, accepted-first}
use Rattle.ends_bytes.specs.Interface.{ends_reply, ends_bytes}

module _ (f : Source) (b : List ℕ) where
  abbrev pub all : List ℕ
  all = ends (credentials f)

  abbrev pub reply : ℕ
  reply = word (λ n. n) (ends_reply f b)

  -- a refusal's reply, and the bytes as they were
  abbrev pub Refuses : Type 0
  Refuses = (4294967296 ≤ reply) × (ends_bytes f b ≡ b)

  pub data Way : Type 0 where
    refuses : Refuses → Way
    replies : Accepted f → length b ≡ 256 → Way

  pub way : Way
  unfolding ends_reply ends_bytes
  way = go (verdict f)
    where
      nine : Bool → List RefusalRow
      nine t = 9 when (not t) ∷ []

      by_length : Accepted f → (t : Bool) → eqb (length b) 256 ≡ t → Way
      by_length c true e = replies c (eqb→eq (length b) 256 (subst⁻¹ T e tt))
      by_length c false e =
          let x : ends_reply f b ≡ refused 9 0 = accepted-first f (nine (eqb (length b) 256)) (length all) c ∙ ap (λ (t : Bool). first (nine t) (length all)) e in
          refuses (omega (arith, ap (word (λ (n : ℕ). n)) x), ap (λ (o : Outcome ℕ). left o b (bytes_of 4 (padded 64 all))) x)

      go : Verdict f → Way
      go (inl c) = by_length c (eqb (length b) 256) refl
      go (inr (n, p, r)) =
          let x : ends_reply f b ≡ refused n p = refused-first f (nine (eqb (length b) 256)) (length all) r in
          let l = refused-some f r in
          refuses (omega (arith, ap (word (λ (n : ℕ). n)) x), ap (λ (o : Outcome ℕ). left o b (bytes_of 4 (padded 64 all))) x ∙ refused-left r b (bytes_of 4 (padded 64 all)))

  module _ (c : Accepted f) (l : length b ≡ 256) where
    pub success : ends_reply f b ≡ done (length all)
    unfolding ends_reply
    success = accepted-first f (9 when (not (eqb (length b) 256)) ∷ []) (length all) c ∙ rw (eq-eqb (length b) 256 l) refl
