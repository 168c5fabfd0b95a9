-- One step of a proof: what its functions take and answer.
use Rattle.std.specs.Prelude.{◌≡◌, Bool, true, false, ◌&&◌, List, map, ℕ, suc, max, ◌+◌, ◌<◌, ◌≤◌, ltb, length, get_or}
use Rattle.meaning.specs.Lists.{below}
use Rattle.meaning.specs.Credentials.{Body, set, role, Credential, credential_at}
use Rattle.meaning.specs.Proofs as M
use Rattle.meaning.specs.Proofs.{Shown, cites_first, cites_second, citable, first_of, second_of, follows, keeps, showing}
use Rattle.policy.specs.declared.Statement.{Statement}
use Rattle.policy.specs.Policy.{body_of}
use Rattle.steps.specs.declared.Step.{Step}
use Rattle.steps.specs.declared.Cited.{Cited}
use Rattle.steps.specs.declared.Judged.{Judged}

abbrev pub step_of : Step → M.Step
step_of s = record { credential = s.credential; first = s.first; second = s.second; set = s.set }

-- a step that breaks the rules
abbrev pub unkept : Judged
unkept = record { holds = false; role = 0; level = 0 }

abbrev pub shown_of : Cited → Shown
shown_of p = record { role = p.role; set = p.set; level = p.level }

-- what step j shows, and the first n steps, by their roles, sets and levels
abbrev pub shown_at : List ℕ → List ℕ → List ℕ → ℕ → Shown
shown_at roles sets levels j = record { role = get_or roles j 0; set = get_or sets j 0; level = get_or levels j 0 }

abbrev pub shown_in : List ℕ → List ℕ → List ℕ → ℕ → List Shown
shown_in roles sets levels n = map (shown_at roles sets levels) (below n)

-- i steps, each of a level of at most i, fewer than 1,024
pub record Known (sets levels : List ℕ) (i : ℕ) : Type 0 where
  pub long : i ≤ length sets
  pub few : i < 1024
  pub low : (j : ℕ) → j < i → get_or levels j 0 ≤ i

-- the rules for a step whose credential is valid
abbrev pub kept_by : Body → List Shown → M.Step → Bool
kept_by e before s =
    citable (cites_first e) before s.first && citable (cites_second e) before s.second
    && follows e (first_of e before s) (second_of e before s) s.set

-- whether a step keeps them; where it does, its role and level
pub record Decides (b : Statement) (before : List Shown) (s : M.Step) (r : Judged) : Type 0 where
  pub holds : r.holds ≡ kept_by (body_of b) before s
  pub role : r.holds ≡ true → r.role ≡ b.head
  pub level : r.holds ≡ true → r.level ≡ suc (max (first_of (body_of b) before s).level (second_of (body_of b) before s).level)
  pub low : r.level ≤ length before + 1

-- whether a step keeps the rules; where it does, what it shows
pub record Judges (cs : List Credential) (m : ℕ) (before : List Shown) (s : M.Step) (r : Judged) : Type 0 where
  pub holds : r.holds ≡ (ltb s.credential (length cs) && keeps m (credential_at cs s.credential) before s)
  pub shows : r.holds ≡ true → record { role = r.role; set = s.set; level = r.level } ≡ showing (credential_at cs s.credential) before s
  pub low : r.level ≤ length before + 1
