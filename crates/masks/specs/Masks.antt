-- The spans that a period covers.
use Rattle.std.specs.Prelude.{◌≡◌, ◌↔◌, List, ℕ, ◌≤◌, ◌<◌, length, get_or, take}
use Rattle.meaning.specs.Credentials.{Period}
use Rattle.meaning.specs.Table.{bit}
use Rattle.survey.specs.Surveying.{Rising}

-- the first n places have the first minutes of spans, ascending
pub record Spans (es : List ℕ) (n : ℕ) : Type 0 where
  pub few : n < 64
  pub room : n ≤ length es
  pub rising : Rising (take n es)

-- span s is among the first n, and the period covers its first minute
abbrev pub During : List ℕ → ℕ → Period → ℕ → Type 0
During es n v s = (s < n) × (v.from ≤ get_or es s 0) × (get_or es s 0 < v.until)

-- the spans whose first minute the period covers, among the first n
abbrev pub Masked : List ℕ → ℕ → Period → ℕ → Type 0
Masked es n v m = (s : ℕ) → bit m s ≡ 1 ↔ During es n v s
