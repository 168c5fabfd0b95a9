-- What a sentence says is so: of refusal 20, which has three sentences, and of 21, which looks for the first withdrawal that is wrong.
use Rattle.std.specs.Prelude.{◌≡◌, ◌⊎◌, List, ℕ, ◌<◌, length}
use Rattle.text.specs.Ascii.{ascii}
use Rattle.text.specs.Lines.{decimal}
use Rattle.file.specs.Format.{N, serial_of}
use Rattle.withdrawals.specs.List.{count, bytes_for, serial_at}
use Rattle.sentences.specs.Words.{◌then◌, counted}
use Rattle.list_sentences.specs.ListSentences.{list_size, of_withdrawal, list_text}

-- 20: fewer than 2 bytes; or more than 256 withdrawals; or another length than they take
abbrev pub ShapeNamed : List ℕ → List ℕ → Type 0
ShapeNamed f w =
    ((length w < 2) × (list_text f w 20 ≡ ascii "the withdrawal list has " then counted (length w) (ascii " byte") (ascii " bytes") then ascii ", fewer than 2"))
    ⊎ (((256 < count w) × (list_text f w 20 ≡ ascii "the withdrawal list has " then decimal (count w) then ascii " withdrawals, at most 256 are allowed"))
    ⊎ ((¬ (length w ≡ bytes_for (count w)))
    × (list_text f w 20
    ≡ ascii "the withdrawal list has " then list_size (length w) then ascii ", "
    then counted (count w) (ascii " withdrawal takes ") (ascii " withdrawals take ") then decimal (bytes_for (count w)))))

-- an earlier withdrawal has the serial of withdrawal k
abbrev pub Repeated : List ℕ → ℕ → Type 0
Repeated w k = (j : ℕ) × (j < k) × (serial_at w j ≡ serial_at w k)

-- no credential has the serial of withdrawal k
abbrev pub Unheld : List ℕ → List ℕ → ℕ → Type 0
Unheld f w k = (i : ℕ) → i < N f → ¬ (serial_of f i ≡ serial_at w k)

-- 21: an earlier withdrawal has the serial of withdrawal k; or else no credential has it
abbrev pub FaultNamed : List ℕ → List ℕ → ℕ → Type 0
FaultNamed f w k =
    (Repeated w k × (list_text f w 21 ≡ of_withdrawal w k (ascii ", an earlier withdrawal has it")))
    ⊎ ((¬ Repeated w k) × Unheld f w k × (list_text f w 21 ≡ of_withdrawal w k (ascii ", no credential has it")))

-- 21: that is so of a withdrawal before which none is wrong
pub record SerialNamed (f w : List ℕ) : Type 0 where
  pub at : ℕ
  pub within : at < count w
  pub first : (k : ℕ) → k < at → ¬ (Repeated w k ⊎ Unheld f w k)
  pub fault : FaultNamed f w at
