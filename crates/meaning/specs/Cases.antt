-- Document 01's cases K1 to K11, as document 02's request One has them, and further ones, as rows of one table; each row is a claim with a test that computes.
use Rattle.std.specs.Prelude.{◌≡◌, Bool, true, false, ◌&&◌, ◌||◌, not, List, [], ◌∷◌, ℕ, zero, suc, ◌^◌, ◌≤◌, T, eqb, ltb, length}
use Rattle.meaning.specs.Lists.{only, each, all, below}
use Rattle.meaning.specs.Credentials.{◌·◌, Body, set, role, link, ◌∩◌, ◌⊙◌, ◌⊗◌, ◌⟵◌, Period, Credential, ◌during◌, valid_at, FitsAll}
use Rattle.meaning.specs.Rules.{Derivable}
use Rattle.meaning.specs.Members.{member, has, level, closure, members}
use Rattle.meaning.specs.Proofs.{Step, Shown, cites_first, cites_second, shown_by, all_keep, Proof, step_at, body_at, RestsOn}
use Rattle.meaning.specs.Table.{bit, Row, ends, table, intervals}

infix 78 ◌through◌
infix 78 ◌up_to◌
-- a credential's period by its first and its last minute, which both count; and a half-open one, or an interval
abbrev pub ◌through◌ : ℕ → ℕ → Period
a through b = record { from = a; until = suc b }

abbrev pub ◌up_to◌ : ℕ → ℕ → Period
a up_to b = record { from = a; until = b }

pub data Claim : Type 0 where
  -- at the minute the membership has this proof, and its level is the least that any proof of it has
  proof : (cs : List Credential) (m Ar X k : ℕ) → List Step → Claim
  -- the steps are a proof of the membership, of this level, which need not be the least
  passes : (cs : List Credential) (m Ar X k : ℕ) → List Step → Claim
  -- some step breaks the rules at the minute
  broken : (cs : List Credential) (m : ℕ) → List Step → Claim
  -- step i rests on step j, or does not
  rests idle : (cs : List Credential) → List Step → (i j : ℕ) → Claim
  -- at the minute the membership cannot be derived
  none : (cs : List Credential) (m Ar X : ℕ) → Claim
  -- nothing can be derived at any minute; nothing in the role
  empty : (cs : List Credential) → Claim
  empty_in : (cs : List Credential) (Ar : ℕ) → Claim
  -- the table has n memberships; n of them in the role
  size : (cs : List Credential) (n : ℕ) → Claim
  size_in : (cs : List Credential) (Ar n : ℕ) → Claim
  -- the membership has exactly these intervals
  times : (cs : List Credential) (Ar X : ℕ) → List Period → Claim
  -- the ends and the table, whole
  whole : (cs : List Credential) → List ℕ → List Row → Claim

abbrev pub in_role : ℕ → List Row → List Row
in_role Ar rows = each (λ (x : Row). only (eqb x.role Ar) (x ∷ [])) rows

-- the spans of a membership in a table, 0 where it has no row
abbrev pub spans_in : ℕ → ℕ → List Row → ℕ
spans_in Ar X [] = 0
spans_in Ar X (x ∷ rows) = elim (eqb x.role Ar && eqb x.set X) [ true ↦ x.spans | false ↦ spans_in Ar X rows ]

abbrev pub times_of : List Credential → ℕ → ℕ → List Period
times_of cs Ar X = intervals (ends cs) (spans_in Ar X (table cs))

abbrev pub Holds : Claim → Type 0
Holds (proof cs m Ar X k ss) = Proof cs m Ar X k ss × ((j : ℕ) (us : List Step) → Proof cs m Ar X j us → k ≤ j)
Holds (passes cs m Ar X k ss) = Proof cs m Ar X k ss
Holds (broken cs m ss) = ¬ T (all_keep cs m [] ss)
Holds (rests cs ss i j) = RestsOn cs ss i j
Holds (idle cs ss i j) = ¬ RestsOn cs ss i j
Holds (none cs m Ar X) = ¬ Derivable cs m Ar X
Holds (empty cs) = (m Ar X : ℕ) → ¬ Derivable cs m Ar X
Holds (empty_in cs Ar) = (m X : ℕ) → ¬ Derivable cs m Ar X
Holds (size cs n) = FitsAll cs × (length (table cs) ≡ n)
Holds (size_in cs Ar n) = FitsAll cs × (length (in_role Ar (table cs)) ≡ n)
Holds (times cs Ar X vs) = FitsAll cs × (times_of cs Ar X ≡ vs)
Holds (whole cs es rows) = FitsAll cs × (ends cs ≡ es) × (table cs ≡ rows)

-- ---- the tests

abbrev pub same_numbers : List ℕ → List ℕ → Bool
same_numbers [] [] = true
same_numbers [] (y ∷ ys) = false
same_numbers (x ∷ xs) [] = false
same_numbers (x ∷ xs) (y ∷ ys) = eqb x y && same_numbers xs ys

abbrev pub same_periods : List Period → List Period → Bool
same_periods [] [] = true
same_periods [] (w ∷ ws) = false
same_periods (v ∷ vs) [] = false
same_periods (v ∷ vs) (w ∷ ws) = eqb v.from w.from && eqb v.until w.until && same_periods vs ws

abbrev pub same_rows : List Row → List Row → Bool
same_rows [] [] = true
same_rows [] (y ∷ ys) = false
same_rows (x ∷ xs) [] = false
same_rows (x ∷ xs) (y ∷ ys) = eqb x.role y.role && eqb x.set y.set && eqb x.spans y.spans && same_rows xs ys

abbrev pub last_is : List Shown → ℕ → ℕ → ℕ → Bool
last_is [] Ar X k = false
last_is (x ∷ []) Ar X k = eqb x.role Ar && eqb x.set X && eqb x.level k
last_is (x ∷ y ∷ l) Ar X k = last_is (y ∷ l) Ar X k

-- roles below 1,024 and sets below 2 ^ 32, for which the closure is complete
abbrev pub body_fits : Body → Bool
body_fits (set X) = ltb X (2 ^ 32)
body_fits (role Bs) = true
body_fits (link Bs t) = true
body_fits (Bs ∩ Ct) = true
body_fits (Bs ⊙ Ct) = true
body_fits (Bs ⊗ Ct) = true

abbrev pub fits : List Credential → Bool
fits cs = all (λ c. ltb c.statement.head 1024 && body_fits c.statement.body) cs

abbrev pub lower : ℕ → ℕ
lower zero = zero
lower (suc k) = k

-- step i rests on step j, by at most n citations
abbrev pub rests_in : List Credential → List Step → ℕ → ℕ → ℕ → Bool
rests_in cs ss zero i j = false
rests_in cs ss (suc n) i j =
    ltb i (length ss)
    && (eqb i j || (cites_first (body_at cs ss i) && rests_in cs ss n (step_at ss i).first j) || (cites_second (body_at cs ss i) && rests_in cs ss n (step_at ss i).second j))

-- every step cites earlier ones only
abbrev pub backward : List Credential → List Step → Bool
backward cs ss =
    all (λ i. (not (cites_first (body_at cs ss i)) || ltb (step_at ss i).first i) && (not (cites_second (body_at cs ss i)) || ltb (step_at ss i).second i)) (below (length ss))

unfoldable pub test : Claim → Bool
unfolding table closure bit
test (proof cs m Ar X k ss) = all_keep cs m [] ss && last_is (shown_by cs [] ss) Ar X k && not (has (member Ar X) (level (valid_at cs m) (lower k)))
test (passes cs m Ar X k ss) = all_keep cs m [] ss && last_is (shown_by cs [] ss) Ar X k
test (broken cs m ss) = not (all_keep cs m [] ss)
test (rests cs ss i j) = rests_in cs ss (suc i) i j
test (idle cs ss i j) = backward cs ss && not (rests_in cs ss (suc i) i j)
test (none cs m Ar X) = fits cs && not (has (member Ar X) (members cs m))
test (empty cs) = fits cs && eqb (length (table cs)) 0
test (empty_in cs Ar) = fits cs && eqb (length (in_role Ar (table cs))) 0
test (size cs n) = fits cs && eqb (length (table cs)) n
test (size_in cs Ar n) = fits cs && eqb (length (in_role Ar (table cs))) n
test (times cs Ar X vs) = fits cs && same_periods (times_of cs Ar X) vs
test (whole cs es rows) = fits cs && same_numbers (ends cs) es && same_rows (table cs) rows

-- ---- the credentials

abbrev step : ℕ → ℕ → ℕ → ℕ → Step
step c i j X = record { credential = c; first = i; second = j; set = X }

abbrev row : ℕ → ℕ → ℕ → Row
row Ar X spans = record { role = Ar; set = X; spans = spans }

-- set P, with the join of its third credential
abbrev pub P : (ℕ → ℕ → Body) → List Credential
P op = 0 · 0 ⟵ set (2 ^ 1) during 10 through 20 ∷ 0 · 0 ⟵ set (2 ^ 2) during 15 through 30 ∷ 0 · 1 ⟵ op (0 · 0) (0 · 0) during 0 through 18 ∷ []

-- the same period for every statement
abbrev in10 : ℕ → Body → Credential
in10 Ar e = Ar ⟵ e during 0 through 10

-- Document 003, Example 1. F is entity 0; Alex, Betty, David, John, Emily are 1 to 5; students, activeSubject, student, phdStudent are names 0 to 3.
abbrev pub example1 : List Credential
example1 =
    in10 (0 · 0) (0 · 2 ⊗ 0 · 2) ∷ in10 (0 · 1) (0 · 3 ⊙ 0 · 0)
    ∷ in10 (0 · 2) (set 2) ∷ in10 (0 · 2) (set 4) ∷ in10 (0 · 2) (set 8) ∷ in10 (0 · 2) (set 16)
    ∷ in10 (0 · 3) (set 16) ∷ in10 (0 · 3) (set 32) ∷ []

-- 1.0 has only {1,2}; the roles of both linked entities have members
abbrev pair_linked : List Credential
pair_linked = in10 (0 · 0) (link (1 · 0) 0) ∷ in10 (2 · 0) (set 2) ∷ in10 (3 · 0) (set 4) ∷ in10 (1 · 0) (2 · 0 ⊗ 3 · 0) ∷ []

-- 0.0 from {1,2} in 0.1 and {2,3} in 0.2, with the join of its credential
abbrev overlapping : (ℕ → ℕ → Body) → List Credential
overlapping op =
    in10 (0 · 0) (op (0 · 1) (0 · 2)) ∷ in10 (0 · 1) (0 · 3 ⊗ 0 · 4) ∷ in10 (0 · 2) (0 · 4 ⊗ 0 · 5)
    ∷ in10 (0 · 3) (set 2) ∷ in10 (0 · 4) (set 4) ∷ in10 (0 · 5) (set 8) ∷ []

-- 0.0 ← 1.0.1 with {2} in 1.0 and {3} in 2.1; 1.1 and 2.0 have other members, which a link through the wrong role would give
abbrev linked : List Credential
linked = in10 (0 · 0) (link (1 · 0) 1) ∷ in10 (1 · 0) (set 4) ∷ in10 (2 · 1) (set 8) ∷ in10 (1 · 1) (set 16) ∷ in10 (2 · 0) (set 32) ∷ []

-- 0.0 ← 0.1 ∩ 0.2 with {1} and {2} in 0.1, {2} and {3} in 0.2
abbrev shared : List Credential
shared =
    in10 (0 · 0) (0 · 1 ∩ 0 · 2) ∷ in10 (0 · 1) (set 2) ∷ in10 (0 · 1) (set 4) ∷ in10 (0 · 2) (set 4) ∷ in10 (0 · 2) (set 8) ∷ []

-- 0.0 has {1} at level 1 and again at level 2, by 0.1
abbrev detour : List Credential
detour = in10 (0 · 0) (set 2) ∷ in10 (0 · 1) (set 2) ∷ in10 (0 · 0) (role (0 · 1)) ∷ []

-- the last minute there is
abbrev late : List Credential
late = 0 · 0 ⟵ set 2 during 4294967294 through 4294967294 ∷ []

-- ---- the table

abbrev k1_steps : List Step
k1_steps = step 0 0 0 2 ∷ step 1 0 0 4 ∷ step 2 0 1 6 ∷ []

abbrev k1_idle : List Step
k1_idle = step 0 0 0 2 ∷ step 0 0 0 2 ∷ step 1 0 0 4 ∷ step 2 0 2 6 ∷ []

unfoldable pub cases : List Claim
cases =
    proof (P ◌⊗◌) 15 (0 · 1) 6 2 k1_steps  -- K1
    ∷ proof (P ◌⊗◌) 17 (0 · 1) 6 2 k1_steps  -- K2
    ∷ proof (P ◌⊗◌) 18 (0 · 1) 6 2 k1_steps  -- K3: the last minute of credential 2
    ∷ none (P ◌⊗◌) 19 (0 · 1) 6  -- K3: the minute after it
    ∷ none (P ◌⊗◌) 14 (0 · 1) 6  -- K4
    ∷ proof (P ◌⊙◌) 10 (0 · 1) 2 2 (step 0 0 0 2 ∷ step 2 0 0 2 ∷ [])  -- K5
    ∷ none (P ◌⊗◌) 10 (0 · 1) 2  -- K6
    ∷ empty (in10 (0 · 0) (role (1 · 0)) ∷ in10 (1 · 0) (role (0 · 0)) ∷ [])  -- K7
    ∷ times (in10 (0 · 0) (role (1 · 0)) ∷ 1 · 0 ⟵ set 4 during 0 through 5 ∷ 1 · 0 ⟵ set 4 during 5 through 10 ∷ []) (0 · 0) 4 (0 up_to 11 ∷ [])  -- K8
    ∷ empty_in pair_linked (0 · 0)  -- K9
    ∷ size_in pair_linked (1 · 0) 1  -- K9: 1.0 has one set
    ∷ proof pair_linked 5 (1 · 0) 6 2 (step 1 0 0 2 ∷ step 2 0 0 4 ∷ step 3 0 1 6 ∷ [])  -- K9: which is {1,2}
    ∷ size example1 24  -- K10
    ∷ size_in example1 (0 · 1) 12  -- K10
    ∷ empty []  -- K11
    -- set P whole: the documents print its ends and spans
    ∷ whole (P ◌⊗◌) (0 ∷ 10 ∷ 15 ∷ 19 ∷ 21 ∷ 31 ∷ []) (row (0 · 0) 2 14 ∷ row (0 · 0) 4 28 ∷ row (0 · 1) 6 4 ∷ [])
    -- {1,2} and {2,3} share 2: ⊗ gives nothing, ⊙ gives {1,2,3}
    ∷ none (overlapping ◌⊗◌) 5 (0 · 0) 14
    ∷ proof (overlapping ◌⊙◌) 5 (0 · 0) 14 3 (step 3 0 0 2 ∷ step 4 0 0 4 ∷ step 5 0 0 8 ∷ step 1 0 1 6 ∷ step 2 1 2 12 ∷ step 0 3 4 14 ∷ [])
    -- a link that succeeds, and none through the other roles
    ∷ proof linked 5 (0 · 0) 8 2 (step 1 0 0 4 ∷ step 2 0 0 8 ∷ step 0 0 1 8 ∷ [])
    ∷ size_in linked (0 · 0) 1
    -- an intersection gives the set that both roles have and no other
    ∷ proof shared 5 (0 · 0) 4 2 (step 2 0 0 4 ∷ step 3 0 0 4 ∷ step 0 0 1 4 ∷ [])
    ∷ size_in shared (0 · 0) 1
    -- a period of one minute, the last one there is
    ∷ proof late 4294967294 (0 · 0) 2 1 (step 0 0 0 2 ∷ [])
    ∷ none late 4294967295 (0 · 0) 2
    -- periods that touch make one interval
    ∷ times (0 · 0 ⟵ set 2 during 0 through 4 ∷ 0 · 0 ⟵ set 2 during 5 through 9 ∷ []) (0 · 0) 2 (0 up_to 10 ∷ [])
    -- spans that do not touch stay apart, and a minute between them is not covered
    ∷ times (0 · 0 ⟵ set 2 during 0 through 4 ∷ 0 · 0 ⟵ set 2 during 6 through 9 ∷ []) (0 · 0) 2 (0 up_to 5 ∷ 6 up_to 10 ∷ [])
    -- the last step of K1 rests on both others; a step between them that is not cited is idle, and the proof passes all the same
    ∷ rests (P ◌⊗◌) k1_steps 2 0
    ∷ rests (P ◌⊗◌) k1_steps 2 1
    ∷ idle (P ◌⊗◌) k1_idle 3 1
    ∷ passes (P ◌⊗◌) 15 (0 · 1) 6 2 k1_idle
    -- a membership shown twice and a level above the least pass
    ∷ passes (P ◌⊗◌) 15 (0 · 0) 4 1 (step 1 0 0 4 ∷ step 1 0 0 4 ∷ [])
    ∷ passes detour 5 (0 · 0) 2 2 (step 1 0 0 2 ∷ step 2 0 0 2 ∷ [])
    -- steps that break the rules: an uncited word not zero, a step that cites itself or a later one, a credential that is not there or not valid,
    -- a wrong set, a link's premises exchanged, premises of the wrong role
    ∷ broken (P ◌⊗◌) 15 (step 0 1 0 2 ∷ [])
    ∷ broken (P ◌⊗◌) 15 (step 0 0 0 2 ∷ step 1 0 0 4 ∷ step 2 0 2 6 ∷ [])
    ∷ broken (P ◌⊗◌) 15 (step 2 1 2 6 ∷ step 0 0 0 2 ∷ step 1 0 0 4 ∷ [])
    ∷ broken (P ◌⊗◌) 15 (step 3 0 0 2 ∷ [])
    ∷ broken (P ◌⊗◌) 14 k1_steps
    ∷ broken (P ◌⊗◌) 15 (step 0 0 0 4 ∷ [])
    ∷ broken linked 5 (step 2 0 0 8 ∷ step 1 0 0 4 ∷ step 0 0 1 8 ∷ [])
    ∷ broken (P ◌⊗◌) 15 (step 0 0 0 2 ∷ step 1 0 0 4 ∷ step 2 0 1 6 ∷ step 2 0 2 6 ∷ [])
    -- a period without minutes gives nothing and has no ends
    ∷ whole (0 · 0 ⟵ set 2 during 7 up_to 7 ∷ []) [] []
    ∷ []
