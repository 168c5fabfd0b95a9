-- The credentials of a file with its withdrawals: by position, within the format's numbers, within the periods of the file, and those of the list of none.
use mathlib.Core.Path.{◌≡◌, refl, sym, ap, ◌∙◌, subst, subst⁻¹}
use mathlib.Core.Logic.{◌⊎◌, inl, inr}
use mathlib.Core.List.{List, [], ◌∷◌, ◌++◌, append_assoc, append-nil}
use Prim.Native.Nat.{ℕ, zero, suc, ◌<◌, ◌≤◌}
use native.Mathlib.Omega.{arith}
use lib.Dec.{T, ltb}
use lib.ListN.{length, get_or, length-map}
use Rattle.meaning.specs.Lists.{below}
use Rattle.meaning.specs.Credentials.{Credential, covers, no_credential, credential_at, SetFits, FitsAll}
use Rattle.meaning.specs.Table.{ends}
use Rattle.meaning.specs.Within.{Within}
use Rattle.meaning.proofs.ListLaws.{map-in, map-out}
use Rattle.file.specs.Refusals.{RefusalRow, Outcome, first, ◌when◌}
use Rattle.file.specs.Format as F
use Rattle.file.specs.Format.{serial_of}
use Rattle.file.specs.Reading as Reading
use Rattle.file.specs.Reading.{head_rows, credentials_rows}
use Rattle.file.proofs.First.{after, first-append, numbered, numbered-append}
use Rattle.file.proofs.Rows.{credentials-numbered}
use Rattle.file.proofs.Credentials as File
use Rattle.file.proofs.Credentials.{length-below, get_d-below, get_d-map-lt}
use Rattle.file.proofs.Accepted.{credentials-fit}
use Rattle.file.proofs.Refusals.{less}
use Rattle.withdrawals.specs.List.{none, count}
use Rattle.withdrawals.specs.Cut.{withdrawn}
use Rattle.withdrawals.specs.Source.{Source, ◌without◌, N, credential_in, credentials, list_rows, ends_row, reading, read}
use Rattle.withdrawals.specs.Conditions.{Readable, Accepted}
use Rattle.withdrawals.proofs.Cuts.{cut-minutes}

module _ (s : Source) where
  pub length-credentials : length (credentials s) ≡ N s
  unfolding credentials
  length-credentials = length-map (below (N s)) (credential_in s) ∙ length-below (N s)

  pub credential-at : (i : ℕ) → i < N s → credential_at (credentials s) i ≡ credential_in s i
  unfolding credentials
  credential-at i h =
      let l = length-below (N s) in
      get_d-map-lt (credential_in s) (below (N s)) i 0 no_credential (omega arith) ∙ ap (credential_in s) (get_d-below (N s) i 0 h)

  -- roles and sets are within the format's numbers
  pub readable-fits : Readable s → FitsAll (credentials s)
  unfolding credentials F.credentials
  readable-fits r c m =
      let (i, j, e) = map-out (credential_in s) (below (N s)) m in
      subst⁻¹ (λ (x : Credential). (x.statement.head < 1024) × SetFits x.statement.body) e
      (credentials-fit s.file r.head r.good (F.credential_in s.file i) (map-in (F.credential_in s.file) j))

  pub accepted-fits : Accepted s → FitsAll (credentials s)
  accepted-fits a = readable-fits a.readable

  -- every row has a number
  pub reading-numbered : T (numbered (reading s))
  unfolding reading
  reading-numbered =
      numbered-append (head_rows s.file) (credentials_rows s.file ++ (list_rows s ++ ends_row s ∷ [])) tt
      (numbered-append (credentials_rows s.file) (list_rows s ++ ends_row s ∷ []) (credentials-numbered s.file) tt)

-- past the last there is none
past_end : {A : Type 0} (l : List A) (i : ℕ) (d : A) → length l ≤ i → get_or l i d ≡ d
past_end [] i d h = refl
past_end (x ∷ l) zero d h = absurd (omega arith)
past_end (x ∷ l) (suc i) d h = past_end l i d (omega arith)

-- each period lies within the file's
pub withdrawn-within : (f w : List ℕ) → Within (credentials (f without w)) (F.credentials f)
withdrawn-within f w = record {
  count = length-credentials s ∙ sym (File.length-credentials f);
  same = λ i. same i (less i (F.N f));
  minutes = λ i m. minutes i m (less i (F.N f));
}
  where
    s : Source
    s = f without w

    here : (i : ℕ) → i < F.N f → credential_at (credentials s) i ≡ withdrawn w (serial_of f i) (credential_at (F.credentials f) i)
    here i l = credential-at s i l ∙ ap (withdrawn w (serial_of f i)) (sym (File.credential-at f i l))

    past : (i : ℕ) → F.N f ≤ i → credential_at (credentials s) i ≡ credential_at (F.credentials f) i
    past i l =
        let a = length-credentials s in
        let b = File.length-credentials f in
        past_end (credentials s) i no_credential (omega arith) ∙ sym (past_end (F.credentials f) i no_credential (omega arith))

    same : (i : ℕ) → (i < F.N f) ⊎ (F.N f ≤ i) → (credential_at (credentials s) i).statement ≡ (credential_at (F.credentials f) i).statement
    same i (inl l) = ap (λ (c : Credential). c.statement) (here i l)
    same i (inr l) = ap (λ (c : Credential). c.statement) (past i l)

    minutes : (i m : ℕ) → (i < F.N f) ⊎ (F.N f ≤ i) → T (covers (credential_at (credentials s) i).period m) → T (covers (credential_at (F.credentials f) i).period m)
    minutes i m (inl l) t =
        ((cut-minutes w (serial_of f i) (credential_at (F.credentials f) i).period (count w) m).0 (subst (λ (c : Credential). T (covers c.period m)) (here i l) t)).0
    minutes i m (inr l) t = subst (λ (c : Credential). T (covers c.period m)) (past i l) t

-- ---- nothing withdrawn

module _ (f : List ℕ) where
  pub none-credentials : credentials (f without none) ≡ F.credentials f
  unfolding credentials F.credentials
  none-credentials = refl

  -- the refusals of the file, whatever rows follow
  pub none-reading : {A : Type 0} (more : List RefusalRow) (a : A) → first (reading (f without none) ++ more) a ≡ first (Reading.reading f ++ more) a
  unfolding reading Reading.reading
  none-reading {A} more a =
      same (head_rows f) (credentials_rows f ++ (list_rows (f without none) ++ ends_row (f without none) ∷ [])) (credentials_rows f ++ Reading.ends_row f ∷ [])
      (same (credentials_rows f) (list_rows (f without none) ++ ends_row (f without none) ∷ []) (Reading.ends_row f ∷ []) (ap last none-credentials))
    where
      -- the row of 8 by the credentials
      last : List Credential → Outcome A
      last cs = first ((8 when (ltb 64 (length (ends cs))) ∷ []) ++ more) a

      -- rows that say the same after the same ones
      same : (xs ys zs : List RefusalRow) → first (ys ++ more) a ≡ first (zs ++ more) a → first ((xs ++ ys) ++ more) a ≡ first ((xs ++ zs) ++ more) a
      same xs ys zs e =
          ap (λ (rows : List RefusalRow). first rows a) (append_assoc xs ys more) ∙ first-append {A = A} {B = A} xs (ys ++ more) a a
          ∙ ap (λ (o : Outcome A). after {A = A} {B = A} (first xs a) o) e
          ∙ sym (first-append {A = A} {B = A} xs (zs ++ more) a a) ∙ ap (λ (rows : List RefusalRow). first rows a) (sym (append_assoc xs zs more))

  pub none_read : {A : Type 0} (a : A) → read (f without none) a ≡ Reading.read f a
  none_read a =
      ap (λ (rows : List RefusalRow). first rows a) (sym (append-nil (reading (f without none)))) ∙ none-reading [] a
      ∙ ap (λ (rows : List RefusalRow). first rows a) (append-nil (Reading.reading f))

  -- an answer by the refusals and the credentials
  pub none_first : {A : Type 0} (more : List Credential → List RefusalRow) (value : List Credential → A)
      → first (reading (f without none) ++ more (credentials (f without none))) (value (credentials (f without none)))
      ≡ first (Reading.reading f ++ more (F.credentials f)) (value (F.credentials f))
  none_first more value =
      ap (λ (cs : List Credential). first (reading (f without none) ++ more cs) (value cs)) none-credentials
      ∙ none-reading (more (F.credentials f)) (value (F.credentials f))
