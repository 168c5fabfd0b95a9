-- For callers: what is loaded is by the statements valid in each span. Spans by the credentials' own ends, and one span for a minute.
use mathlib.Core.Path.{◌≡◌, refl, ap, ◌∙◌, subst, subst⁻¹, fun_ext}
use mathlib.Core.Logic.{◌⊎◌, inl, inr}
use mathlib.Core.Bool.{Bool, true, false}
use mathlib.Core.List.Memᴰ.{head}
use mathlib.Core.List.{List, [], ◌∷◌, Memᴰ as Mem}
use Prim.Native.Nat.{ℕ, ◌+◌, ◌-◌, ◌^◌, ◌≤◌, ◌<◌}
use native.Mathlib.Omega.{arith}
use borrow.Author.Tests.{ltb-true, lt-ltb, le-ltb}
use lib.Dec.{T, ltb}
use lib.ListN.{length, get_or, get_or-append, length-append, replicate, take}
use lib.Seq.{take-append-le}
use Rattle.meaning.specs.Lists.{if, only, below}
use Rattle.meaning.specs.Credentials.{Body, set, role, link, ◌∩◌, ◌⊙◌, ◌⊗◌, Statement, covers, Credential, valid_at, SetFits, Period}
use Rattle.meaning.specs.Sequence.{Relation, S, Gives}
use Rattle.meaning.specs.Table.{bit, ends, span_count}
use Rattle.meaning.proofs.ListLaws.{each_in, each-out, only-in, only_out, sole, map-in, map-out, below_in, below_out}
use Rattle.meaning.proofs.Spans.{covers-in, covers_out, ends-rising}
use Rattle.meaning.proofs.Bits.{bit-of-zero}
use Rattle.policy.specs.Policy.{credential_of, credentials_of, Decoded}
use Rattle.policy.proofs.Policies.{decoded-fits}
use Rattle.survey.specs.Ends.{padded}
use Rattle.survey.specs.Surveying.{Rising}
use Rattle.store.specs.Entries.{key_of, role_in, set_in, Has}
use Rattle.store.proofs.Chains.{below_or_not}
use Rattle.store.proofs.Keys.{role-of-key, set-of-key}
use Rattle.store.proofs.Stores.{has-none}
use Rattle.rules.specs.declared.Use.{Use}
use Rattle.rules.specs.Uses.{UsedBy, Fitting}
use Rattle.heads.specs.Gaining.{Gains}
use Rattle.heads.proofs.Gaining.{over-more}
use Rattle.closure.specs.Closure.{Found, Policy, Given, Closed}
use Rattle.masks.specs.Masks.{Spans, During}
use Rattle.masks.proofs.Masks.{rising-take, first_out}
use Rattle.facts.specs.Facts.{States, StatedBy, FactBy}
use Rattle.loading.specs.Loading.{UsesLoaded, statements_in, by_span, Loaded}
use Rattle.loading.proofs.Usables.{decoded-proper}

-- ---- sets that are stated

-- a stated set is given with no premise
states-gives : (P Q : Relation) (e : Body) (Ar k : ℕ) → SetFits e → States e Ar k → (role_in k ≡ Ar) × Gives P Q e (set_in k)
states-gives P Q (set X) Ar k f e = (ap role_in e ∙ role-of-key Ar X f, ap set_in e ∙ set-of-key Ar X f)
states-gives P Q (role Bs) Ar k f e = absurd e
states-gives P Q (link Bs t) Ar k f e = absurd e
states-gives P Q (Bs ∩ Ct) Ar k f e = absurd e
states-gives P Q (Bs ⊙ Ct) Ar k f e = absurd e
states-gives P Q (Bs ⊗ Ct) Ar k f e = absurd e

-- with no premise, only stated sets are given
gives-states : (P : Relation) → ((Bs Y : ℕ) → P Bs Y → ⊥) → (e : Body) (Ar X : ℕ) → SetFits e → Gives P P e X → (X < 2 ^ 32) × States e Ar (key_of Ar X)
gives-states P none (set Y) Ar X f g = (subst⁻¹ (λ (x : ℕ). x < 2 ^ 32) g f, ap (key_of Ar) g)
gives-states P none (role Bs) Ar X f g = absurd (none Bs X g)
gives-states P none (link Bs t) Ar X f g = absurd (none _ _ g.1)
gives-states P none (Bs ∩ Ct) Ar X f g = absurd (none Bs X g.0)
gives-states P none (Bs ⊙ Ct) Ar X f g = absurd (none _ _ g.2)
gives-states P none (Bs ⊗ Ct) Ar X f g = absurd (none _ _ g.2)

-- ---- the statements valid in a span

-- the statement is that of the credential at a position below n, which is valid in span s
pub record Stands (p : List ℕ) (n : ℕ) (es : List ℕ) (count : ℕ) (st : Statement) (s : ℕ) : Type 0 where
  pub place : ℕ
  pub low : place < n
  pub is : st ≡ (credential_of p place).statement
  pub during : During es count (credential_of p place).period s

module _ (p : List ℕ) (n : ℕ) (es : List ℕ) (count : ℕ) where
  position_in : (i : ℕ) → i < n → Mem (credential_of p i) (credentials_of p n)
  unfolding credentials_of
  position_in i l = map-in (credential_of p) (below_in n i l)

  position-out : {c : Credential} → Mem c (credentials_of p n) → (j : ℕ) × (j < n) × (c ≡ credential_of p j)
  unfolding credentials_of
  position-out h = let r = map-out (credential_of p) (below n) h in (r.0, below_out n r.1, r.2)

  abbrev ss : ℕ → List Statement
  ss = statements_in es count (credentials_of p n)

  pub stands-out : (s : ℕ) {st : Statement} → Mem st (ss s) → Stands p n es count st s
  stands-out s {st} = go (ltb s count) refl
    where
      go : (b : Bool) → ltb s count ≡ b → Mem st (if b (valid_at (credentials_of p n) (get_or es s 0)) []) → Stands p n es count st s
      go true t h =
          let x = get_or es s 0 in
          let r = each-out (λ (c : Credential). only (covers c.period x) (c.statement ∷ [])) (credentials_of p n) h in
          let o = only_out (covers r.0.period x) r.2 in
          let q = position-out r.1 in
          let w = covers_out r.0.period x o.0 in
          record {
            place = q.0;
            low = q.1;
            is = sole o.1 ∙ ap (λ (c : Credential). c.statement) q.2;
            during = subst (λ (c : Credential). During es count c.period s) q.2 (ltb-true _ _ t, w.0, w.1);
          }
      go false t h = elim h [ ]

  pub stands-in : (s j : ℕ) → j < n → During es count (credential_of p j).period s → Mem (credential_of p j).statement (ss s)
  stands-in s j l d =
      let x = get_or es s 0 in
      let c = credential_of p j in
      subst⁻¹ (λ (b : Bool). Mem c.statement (if b (valid_at (credentials_of p n) x) [])) (lt-ltb s count d.0)
      (each_in (λ (y : Credential). only (covers y.period x) (y.statement ∷ [])) (position_in j l)
      (only-in (covers c.period x) (covers-in c.period x d.1 d.2) (head refl)))

  module _ (d : Decoded p n) where
    at-fits : (i : ℕ) → i < n → ((credential_of p i).statement.head < 1024) × SetFits (credential_of p i).statement.body
    at-fits i l = decoded-fits p n d (credential_of p i) (position_in i l)

    -- a set that one of the positions states is given
    pub stated-given : (k s : ℕ) → StatedBy p n es count k s → Given ss k s
    stated-given k s (j, l, w) =
        let c = credential_of p j in
        let r = states-gives (S (ss s) 0) (S (ss s) 0) c.statement.body c.statement.head k (at-fits j l).1 w.0 in
        (1, (c.statement, stands-in s j l w.1, r.0, r.1))

    -- ---- the whole policy

    used : {st : Statement} {s : ℕ} (t : Stands p n es count st s) (u : Use) → UsedBy st.body st.head u → UsedBy (credential_of p t.place).statement.body (credential_of p t.place).statement.head u
    used t u = subst (λ (y : Statement). UsedBy y.body y.head u) t.is

    fitting : {st : Statement} {s : ℕ} → Stands p n es count st s → (u : Use) → UsedBy st.body st.head u → Fitting u
    fitting t u x = (decoded-proper d t.place t.low u (used t u x)).fitting

    pub loaded-policy : {codes valid lists : List ℕ} → UsesLoaded p n es count codes valid lists → Policy ss codes valid lists
    loaded-policy w =
        record {
          listed = w.listed;
          formed = w.formed;
          fitting = λ st s e u x. fitting (stands-out s e) u x;
          sound = λ u s t x.
              let y = (w.exact u s t).0 x in
              ((credential_of p y.0).statement, stands-in s y.0 y.1 y.2.1, y.2.0);
          complete = λ st s e u x.
              let z = stands-out s e in
              (w.exact u s (fitting z u x)).1 (z.place, z.low, (used z u x, z.during));
        }

    module _ {limit : ℕ} {keys₀ spans₀ notes₀ keys spans slots links notes : List ℕ} {r : ℕ} (g : Gains limit keys₀ spans₀ notes₀ 0 (StatedBy p n es count) (FactBy p n es count) keys spans slots links notes r) where
      given : (k s : ℕ) → Has keys₀ spans₀ 0 k s ⊎ StatedBy p n es count k s → Given ss k s
      given k s (inl x) = absurd (has-none keys₀ spans₀ k s x)
      given k s (inr x) = stated-given k s x

      closed : r ≤ limit → (done : List ℕ) → ((i : ℕ) → get_or done i 0 ≡ 0) → Closed ss keys spans done r
      closed l done z =
          record {
            sound = λ k s x. given k s ((g.exact l k s).0 x);
            within = λ i s l x. absurd (nothing i s x);
            closed = λ st s X e x. here s X (stands-out s e) x;
          }
        where
          nothing : (i s : ℕ) → bit (get_or done i 0) s ≡ 1 → ⊥
          nothing i s x = let y = ap (λ (d : ℕ). bit d s) (z i) ∙ bit-of-zero s in omega arith

          here : {st : Statement} (s X : ℕ) → Stands p n es count st s → Gives (Found keys done r s) (Found keys done r s) st.body X → Found keys spans r s st.head X
          here {st} s X t x =
              let j = t.place in
              let c = credential_of p j in
              let fits = at-fits j t.low in
              let y = gives-states (Found keys done r s) (λ Bs Y v. nothing v.2.0 s v.2.3) c.statement.body c.statement.head X fits.1
              (subst (λ (v : Statement). Gives (Found keys done r s) (Found keys done r s) v.body X) t.is x) in
              subst⁻¹ (λ (v : Statement). Found keys spans r s v.head X) t.is
              (fits.0, y.0, (g.exact l (key_of c.statement.head X) s).1 (inr (j, t.low, (y.1, t.during))))

    pub loaded : {codes valid lists : List ℕ} → UsesLoaded p n es count codes valid lists → {limit : ℕ} {keys₀ spans₀ notes₀ keys spans slots links notes : List ℕ} {r : ℕ} → Gains limit keys₀ spans₀ notes₀ 0 (StatedBy p n es count) (FactBy p n es count) keys spans slots links notes r → Loaded ss limit keys spans slots links notes codes valid lists r
    loaded w g =
        record {
          policy = loaded-policy w;
          kept = g.kept;
          closed = closed g;
          over = λ l. over-more (λ k x. (x.0, given g k x.0 x.1)) (g.over l);
        }

-- ---- by the credentials' own ends

module _ (cs : List Credential) {es : List ℕ} {count : ℕ} (held : es ≡ padded 64 (ends cs)) (counted : count ≡ span_count (ends cs)) where
  pub own-spans : length (ends cs) ≤ 64 → Spans es count
  own-spans few =
      let l : length es ≡ length (ends cs) + length {A = ℕ} (replicate (64 - length (ends cs)) 0) = ap length held ∙ length-append (ends cs) _ in
      let e : take count es ≡ take count (ends cs) = ap (take count) held ∙ take-append-le count (ends cs) _ (omega arith) in
      record { few = omega arith; room = omega arith; rising = subst⁻¹ Rising e (rising-take count (ends cs) (ends-rising cs)) }

  pub own-statements : (s : ℕ) → statements_in es count cs s ≡ by_span cs s
  own-statements s = ap (λ (n : ℕ). statements_in es n cs s) counted ∙ go (below_or_not s (span_count (ends cs)))
    where
      go : (s < span_count (ends cs)) ⊎ (span_count (ends cs) ≤ s) → statements_in es (span_count (ends cs)) cs s ≡ by_span cs s
      go (inl l) =
          let e : get_or es s 0 ≡ get_or (ends cs) s 0 = ap (λ (x : List ℕ). get_or x s 0) held ∙ get_or-append (ends cs) _ 0 s (let k = length (ends cs) in omega arith) in
          ap (λ (x : ℕ). if (ltb s (span_count (ends cs))) (valid_at cs x) []) e
      go (inr l) = simp (le-ltb s (span_count (ends cs)) l)

  pub loaded-own : {limit : ℕ} {keys spans slots links notes codes valid lists : List ℕ} {r : ℕ} → Loaded (statements_in es count cs) limit keys spans slots links notes codes valid lists r → Loaded (by_span cs) limit keys spans slots links notes codes valid lists r
  loaded-own {limit} {keys} {spans} {slots} {links} {notes} {codes} {valid} {lists} {r} =
      subst (λ (ss : ℕ → List Statement). Loaded ss limit keys spans slots links notes codes valid lists r) (fun_ext own-statements)

-- ---- one span for a minute

rising-one : (es : List ℕ) → Rising (take 1 es)
rising-one [] = tt
rising-one (x ∷ es) = (λ y i. elim i [ ], tt)

pub minute-spans : {es : List ℕ} → length es ≡ 64 → Spans es 1
minute-spans {es} l = record { few = omega arith; room = omega arith; rising = rising-one es }

module _ (es : List ℕ) {m : ℕ} (e : get_or es 0 0 ≡ m) where
  pub minute-out : (v : Period) (s : ℕ) → During es 1 v s → (s ≡ 0) × T (covers v m)
  minute-out v s d = let w = first_out es v s d in (w.0, subst (λ (x : ℕ). T (covers v x)) e w.1)

-- no other span has statements
pub minute-only : (es : List ℕ) (cs : List Credential) (s : ℕ) → (s ≡ 0 → ⊥) → statements_in es 1 cs s ≡ []
minute-only es cs s ne = simp (le-ltb s 1 (omega arith))
