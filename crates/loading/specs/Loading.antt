-- What loading credentials leaves: the uses of the statements valid in each span, with the sets that they state.
use Rattle.std.specs.Prelude.{◌≡◌, ◌↔◌, Bool, List, [], ℕ, ◌≤◌, ◌<◌, ltb, length, get_or}
use Rattle.meaning.specs.Lists.{if}
use Rattle.meaning.specs.Credentials.{Statement, Credential, valid_at}
use Rattle.meaning.specs.Table.{ends, span_count}
use Rattle.policy.specs.Policy.{credential_of}
use Rattle.rules.specs.declared.Use.{Use}
use Rattle.rules.specs.Uses.{UsedBy, UsedAs, Uses, Listed, Fitting, Formed, HeadOf, source_of, source_in, heads_in}
use Rattle.heads.specs.Gaining.{Kept}
use Rattle.closure.specs.Closure.{Policy, Closed, TooMany}
use Rattle.masks.specs.Masks.{During}
use Rattle.facts.specs.Facts.{Before}

-- lists with no uses
pub record NoUses (codes valid lists : List ℕ) : Type 0 where
  pub room : (length codes ≡ 1024) × (length valid ≡ 512) × (length lists ≡ 3106)
  pub none : (p : ℕ) → p < 3106 → get_or lists p 0 ≡ 0

-- how a credential is used, in the spans that its period covers
abbrev pub UsedIn : List ℕ → ℕ → Credential → Use → ℕ → Type 0
UsedIn es count c w s = UsedBy c.statement.body c.statement.head w × During es count c.period s

-- head i has the source of a credential below n that has the use in some span
pub record Sourced (p : List ℕ) (n : ℕ) (es : List ℕ) (count : ℕ) (codes lists : List ℕ) (i : ℕ) : Type 0 where
  pub at : ℕ
  pub second : Bool
  pub word : source_in lists i ≡ source_of second at
  pub known : (at < n) × (at < 256)
  pub span : ℕ
  pub valid : During es count (credential_of p at).period span
  pub which : Use
  pub used : UsedAs second (credential_of p at).statement.body (credential_of p at).statement.head which
  pub coded : HeadOf codes which i

-- the uses of the first n credentials of a policy are listed, each head with a source
pub record UsesLoaded (p : List ℕ) (n : ℕ) (es : List ℕ) (count : ℕ) (codes valid lists : List ℕ) : Type 0 where
  pub listed : Listed codes valid lists
  pub formed : Formed codes lists
  pub exact : (w : Use) (s : ℕ) → Fitting w → Uses codes valid lists w s ↔ Before n (λ j. UsedIn es count (credential_of p j) w s)
  pub sourced : (i : ℕ) → i < heads_in lists → Sourced p n es count codes lists i

-- the statements valid in span s, of some credentials, where the spans begin at the first `count` ends; none beyond the last span
abbrev pub statements_in : List ℕ → ℕ → List Credential → ℕ → List Statement
statements_in es count cs s = if (ltb s count) (valid_at cs (get_or es s 0)) []

-- by the credentials' own ends
abbrev pub by_span : List Credential → ℕ → List Statement
by_span cs = statements_in (ends cs) (span_count (ends cs)) cs

-- All credentials are loaded, or there are too many memberships. Nothing is done yet, in any list of done spans.
pub record Loaded (ss : ℕ → List Statement) (limit : ℕ) (keys spans slots links notes codes valid lists : List ℕ) (r : ℕ) : Type 0 where
  pub policy : Policy ss codes valid lists
  pub kept : r ≤ limit → Kept keys spans slots links notes r
  pub closed : r ≤ limit → (done : List ℕ) → ((i : ℕ) → get_or done i 0 ≡ 0) → Closed ss keys spans done r
  pub over : limit < r → TooMany ss limit
