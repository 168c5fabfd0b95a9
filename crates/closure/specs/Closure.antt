-- Entries that are closed under statements as far as they are done. `ss s` are the statements valid in span s.
use Rattle.std.specs.Prelude.{◌≡◌, ℕ, ◌^◌, ◌≤◌, ◌<◌, length, get_or}
use mathlib.Core.List.{List, Memᴰ as Mem}
use Rattle.meaning.specs.Credentials.{Statement}
use Rattle.meaning.specs.Sequence.{Relation, S, Gives}
use Rattle.meaning.specs.Table.{bit}
use Rattle.store.specs.Entries.{key_of, role_in, set_in, Has}
use Rattle.rules.specs.declared.Use.{Use}
use Rattle.rules.specs.Uses.{UsedBy, Uses, Listed, Fitting, Formed}
use Rattle.heads.specs.Gaining.{Kept, Over}

-- the memberships of the first n entries in span s, by their spans in the list `spans`
abbrev pub Found : List ℕ → List ℕ → ℕ → ℕ → Relation
Found keys spans n s Ar X = (Ar < 1024) × (X < 2 ^ 32) × Has keys spans n (key_of Ar X) s

-- entries with their done spans, of which places from n on have none
pub record Held (keys spans slots links notes done : List ℕ) (n : ℕ) : Type 0 where
  pub kept : Kept keys spans slots links notes n
  pub room : length done ≡ 1024
  pub fresh : (i : ℕ) → n ≤ i → get_or done i 0 ≡ 0

-- the lists of uses have exactly the uses of the statements valid in each span
pub record Policy (ss : ℕ → List Statement) (codes valid lists : List ℕ) : Type 0 where
  pub listed : Listed codes valid lists
  pub formed : Formed codes lists
  pub fitting : (st : Statement) (s : ℕ) → Mem st (ss s) → (u : Use) → UsedBy st.body st.head u → Fitting u
  pub sound : (u : Use) (s : ℕ) → Fitting u → Uses codes valid lists u s → (st : Statement) × Mem st (ss s) × UsedBy st.body st.head u
  pub complete : (st : Statement) (s : ℕ) → Mem st (ss s) → (u : Use) → UsedBy st.body st.head u → Uses codes valid lists u s

-- the key's membership is given in span s
abbrev pub Given : (ℕ → List Statement) → ℕ → ℕ → Type 0
Given ss k s = (level : ℕ) × S (ss s) level (role_in k) (set_in k)

-- more memberships than the limit, each given in some span
abbrev pub TooMany : (ℕ → List Statement) → ℕ → Type 0
TooMany ss limit = Over limit (λ k. (s : ℕ) × Given ss k s)

-- Every span of an entry is one in which it is given; done spans are among them; and what the statements give from the done spans is there.
pub record Closed (ss : ℕ → List Statement) (keys spans done : List ℕ) (n : ℕ) : Type 0 where
  pub sound : (k s : ℕ) → Has keys spans n k s → Given ss k s
  pub within : (i s : ℕ) → i < n → bit (get_or done i 0) s ≡ 1 → bit (get_or spans i 0) s ≡ 1
  pub closed : (st : Statement) (s X : ℕ) → Mem st (ss s) → Gives (Found keys done n s) (Found keys done n s) st.body X → Found keys spans n s st.head X

-- all is done: every entry's spans are done spans
abbrev pub Finished : List ℕ → List ℕ → ℕ → Type 0
Finished spans done n = (i : ℕ) → i < n → get_or done i 0 ≡ get_or spans i 0
