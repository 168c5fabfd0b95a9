-- The completed table (document 01, 'Completing the table'): ends, spans, the memberships with their spans, written validity, intervals.
use Rattle.std.specs.Prelude.{Bool, true, false, ◌&&◌, eqb, leb, ltb, length, get_or}
use mathlib.Core.List.{List, [], ◌∷◌, map, Memᴰ as Mem}
use Prim.Native.Nat.{ℕ, zero, suc, ◌<◌, ◌+◌, ◌-◌, ◌*◌, ◌/◌, ◌%◌, ◌^◌, compare}
use Rattle.meaning.specs.Lists.{if, only, each, any, below, sort, Ascending}
use Rattle.meaning.specs.Credentials.{Period, Credential}
use Rattle.meaning.specs.Members.{Membership, member, Before, order, has, members}

-- the bit i of a number
unfoldable pub bit : ℕ → ℕ → ℕ
bit n i = n / 2 ^ i % 2

-- an empty period has no ends
abbrev pub ends_of : Period → List ℕ
ends_of v = only (ltb v.from v.until) (v.from ∷ v.until ∷ [])

-- the distinct ends, ascending
abbrev pub ends : List Credential → List ℕ
ends cs = sort compare (each (λ c. ends_of c.period) cs)

-- span i runs from end i up to, not including, end i + 1
abbrev pub span_count : List ℕ → ℕ
span_count es = length es - 1

abbrev pub in_span : List ℕ → ℕ → ℕ → Bool
in_span es i m = ltb i (span_count es) && leb (get_or es i 0) m && ltb m (get_or es (suc i) 0)

-- where each span starts: every end but the last
abbrev pub starts : List ℕ → List ℕ
starts [] = []
starts (e ∷ []) = []
starts (e ∷ f ∷ es) = e ∷ starts (f ∷ es)

-- the memberships in each span; those at its first minute (theorem: one span has one answer)
abbrev pub by_span : List Credential → List (List Membership)
by_span cs = map (members cs) (starts (ends cs))

abbrev pub digit : Bool → ℕ
digit true = 1
digit false = 0

-- the number whose bit i says whether list i has the membership
abbrev pub spans_of : Membership → List (List Membership) → ℕ
spans_of p [] = 0
spans_of p (M ∷ Ms) = spans_of p Ms * 2 + digit (has p M)

pub record Row : Type 0 where
  pub role : ℕ
  pub set : ℕ
  pub spans : ℕ

abbrev pub row_of : List (List Membership) → Membership → Row
row_of Ms p = record { role = p.role; set = p.set; spans = spans_of p Ms }

abbrev pub rows_of : List (List Membership) → List Row
rows_of Ms = map (row_of Ms) (sort order (each (λ M. M) Ms))

-- the memberships valid at one minute or more, ascending by role, then by set, each with all its spans
unfoldable pub table : List Credential → List Row
table cs = rows_of (by_span cs)

abbrev pub RowsAscending : List Row → Type 0
RowsAscending = Ascending (λ (x y : Row). Before (member x.role x.set) (member y.role y.set))

-- the minute is in a span whose bit is set
abbrev pub in_spans : List ℕ → ℕ → ℕ → Bool
in_spans es spans m = any (λ i. eqb (bit spans i) 1 && in_span es i m) (below (span_count es))

-- written validity: a row has the role and the set, and one of its spans holds the minute
abbrev pub written : List ℕ → List Row → ℕ → ℕ → ℕ → Bool
written es rows Ar X m = any (λ x. eqb x.role Ar && eqb x.set X && in_spans es x.spans m) rows

-- the span from e to f after further periods: it widens the last one where it touches it
abbrev pub extended : List Period → ℕ → ℕ → List Period
extended [] e f = record { from = e; until = f } ∷ []
extended (v ∷ []) e f = if (eqb v.until e) (record { from = v.from; until = f } ∷ []) (v ∷ record { from = e; until = f } ∷ [])
extended (v ∷ w ∷ vs) e f = v ∷ extended (w ∷ vs) e f

-- the intervals of a span number's first n spans
abbrev pub intervals_to : List ℕ → ℕ → ℕ → List Period
intervals_to es spans zero = []
intervals_to es spans (suc i) =
    if (eqb (bit spans i) 1) (extended (intervals_to es spans i) (get_or es i 0) (get_or es (suc i) 0)) (intervals_to es spans i)

-- the intervals of a span number, ascending, touching spans joined
abbrev pub intervals : List ℕ → ℕ → List Period
intervals es spans = intervals_to es spans (span_count es)

-- no interval is empty, and each ends before every later one starts
abbrev pub Apart : List Period → Type 0
Apart [] = Unit {0}
Apart (v ∷ vs) = (v.from < v.until) × ((w : Period) → Mem w vs → v.until < w.from) × Apart vs
