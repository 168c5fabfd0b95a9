-- What loading at a minute and firing come to: every membership at the minute, each entry derived, or too many memberships.
use mathlib.Core.Path.{◌≡◌, refl, ap, ◌∙◌, subst, subst⁻¹}
use mathlib.Core.Logic.{◌⊎◌, inl, inr}
use mathlib.Core.List.{List, Memᴰ as Mem}
use Prim.Native.Nat.{ℕ, zero, suc, ◌≤◌, ◌<◌}
use native.Mathlib.Omega.{arith}
use lib.ListN.{length, get_or, replicate}
use Rattle.meaning.specs.Credentials.{Body, Statement, Credential, no_credential, credential_at, SetFits, FitsAll}
use Rattle.meaning.specs.Sequence.{S}
use Rattle.meaning.specs.Members.{members}
use Rattle.meaning.proofs.ListLaws.{place-in}
use Rattle.meaning.proofs.Rows.{valid-fits}
use Rattle.policy.specs.Policy.{credential_of, credentials_of, Decoded}
use Rattle.policy.proofs.Policies.{length-of, credential-of, decoded-fits}
use Rattle.store.specs.Entries.{key_of, role_in, set_in}
use Rattle.store.specs.Notes.{word, level_of, Leveled}
use Rattle.store.proofs.Chains.{equal_or_not, below_or_not}
use Rattle.store.proofs.Notes.{leveled-back, level-same, level-by-none}
use Rattle.store.proofs.Stores.{distinct-keys}
use Rattle.heads.specs.Gaining.{Kept, Gains}
use Rattle.heads.proofs.Gaining.{over-more}
use Rattle.closure.specs.Closure.{Closed, TooMany}
use Rattle.levels.specs.Levels.{AtStart, NotedBy, OneSpan, FiredAll}
use Rattle.facts.specs.Facts.{States, StatedBy, FactBy}
use Rattle.loading.specs.Loading.{UsesLoaded, statements_in}
use Rattle.loading.proofs.Usables.{decoded-proper}
use Rattle.loading.proofs.Wholes.{stands-out, loaded, minute-out, minute-only}
use Rattle.derivation.specs.Derivation.{Derived}
use Rattle.searching.specs.Searching.{Searched}
use Rattle.loading.proofs.Blank.{zero-at, zeros-length}
use Rattle.searching.proofs.Reasons.{Reason, derived-by, fact-reason}
use Rattle.searching.proofs.Sources.{source-reason}
use Rattle.searching.proofs.Reaching.{Facts, all_there}
use Rattle.searching.proofs.Counting.{more-members}

module _ (p : List ℕ) (n : ℕ) (es : List ℕ) (d : Decoded p n) where
  abbrev cs : List Credential
  cs = credentials_of p n

  abbrev m : ℕ
  m = get_or es 0 0

  abbrev ss : ℕ → List Statement
  ss = statements_in es 1 cs

  fits : FitsAll cs
  fits = decoded-fits p n d

  -- ---- the one span

  one_span : OneSpan ss
  one_span s ne st i = elim (subst (λ (l : List Statement). Mem st l) (minute-only es cs s ne) i) [ ]

  at-minute : (s k Ar X : ℕ) → S (ss s) k Ar X → S (ss 0) k Ar X
  at-minute s zero Ar X h = absurd h
  at-minute s (suc k) Ar X h = go (equal_or_not s 0)
    where
      go : (s ≡ 0) ⊎ (s ≡ 0 → ⊥) → S (ss 0) (suc k) Ar X
      go (inl q) = subst (λ (x : ℕ). S (ss x) (suc k) Ar X) q h
      go (inr ne) = absurd (one_span s ne h.0 h.1)

  too_many : (limit : ℕ) → TooMany ss limit → limit < length (members cs m)
  too_many limit o =
      more-members cs m limit fits (over-more (λ k w. (w.1.0, at-minute w.0 w.1.0 (role_in k) (set_in k) w.1.1)) o)

  -- ---- each entry is derived

  module _ (keys notes : List ℕ) (i : ℕ) (v : Leveled notes i) where
    derived-at : (at : ℕ) → at < n → word notes i 0 ≡ at → Reason m keys (credential_of p at) (word notes i 1) (word notes i 2) (get_or keys i 0) → Derived cs m keys notes i
    derived-at at l q r =
        derived-by cs m keys notes i (omega (arith, length-of p n)) v
        (subst⁻¹ (λ (x : Credential). Reason m keys x (word notes i 1) (word notes i 2) (get_or keys i 0)) (ap (credential_at cs) q ∙ credential-of p n at l) r)

    fact-derived : FactBy p n es 1 (get_or keys i 0) (word notes i 0) (word notes i 1) (word notes i 2) → Derived cs m keys notes i
    fact-derived (a, b, l, (s, (w, o))) =
        let at = word notes i 0 in
        let x = credential_of p at in
        let f : SetFits x.statement.body = (fits x (subst (λ (c : Credential). Mem c cs) (credential-of p n at l) (place-in no_credential cs at (omega (arith, length-of p n))))).1 in
        derived-at at l refl
        (subst⁻¹ (λ (y : ℕ). Reason m keys x y (word notes i 2) (get_or keys i 0)) a
        (subst⁻¹ (λ (y : ℕ). Reason m keys x 0 y (get_or keys i 0)) b (fact-reason x (get_or keys i 0) (minute-out es refl x.period s o).1 f w)))

    noted-derived : {codes valid lists : List ℕ} → UsesLoaded p n es 1 codes valid lists → ((j : ℕ) → j < i → role_in (get_or keys j 0) < 1024) → NotedBy codes lists keys notes i → Derived cs m keys notes i
    noted-derived u roles w =
        let h = w.from.2.from in
        let s = u.sourced h.head h.low in
        let t = (minute-out es refl (credential_of p s.at).period s.span s.valid).1 in
        let r = source-reason s h.of (λ y z. (decoded-proper d s.at s.known.0 y z).fitting) m t (roles w.e w.low) h.given h.from in
        derived-at s.at s.known.0 r.0 r.1

  -- ---- what is loaded, and what is fired

  module _ {limit : ℕ} {keys₀ spans₀ notes₀ keys spans slots links notes : List ℕ} {count : ℕ} (g : Gains limit keys₀ spans₀ notes₀ 0 (StatedBy p n es 1) (FactBy p n es 1) keys spans slots links notes count)
      {codes valid lists : List ℕ} (u : UsesLoaded p n es 1 codes valid lists) where
    pub searched-over : limit < count → Searched cs m limit keys slots notes count
    searched-over l =
        record {
          stored = λ o. absurd (omega arith);
          room = λ o. absurd (omega arith);
          leveled = λ o. absurd (omega arith);
          rising = λ o. absurd (omega arith);
          derivation = λ o. absurd (omega arith);
          complete = λ o. absurd (omega arith);
          over = λ _. too_many limit ((loaded p n es 1 d u g).over l);
        }

    module _ (few : count ≤ limit) where
      level-one : (i : ℕ) → i < count → level_of notes i ≡ 1
      level-one i l =
          let w = (g.noted few).by i (omega arith) l in
          omega (arith, ((g.kept few).leveled i l).level, level-by-none notes (word notes i 1) w.0, level-by-none notes (word notes i 2) w.1)

      module _ {done : List ℕ} (blank : done ≡ replicate 1024 0) where
        pub started : AtStart keys spans slots links notes done codes valid lists count
        started =
            record {
              held = record { kept = g.kept few; room = zeros-length 1024 blank; fresh = λ i _. zero-at 1024 blank i };
              fresh = zero-at 1024 blank;
              one = level-one;
              listed = u.listed;
              formed = u.formed;
            }

        closed : Closed ss keys spans done count
        closed = (loaded p n es 1 d u g).closed few done (zero-at 1024 blank)

        module _ {keys' spans' slots' links' notes' done' : List ℕ} {r : ℕ} (f : FiredAll limit codes valid lists keys spans notes done count keys' spans' slots' links' notes' done' r) where
          module _ (l : r ≤ limit) where
            facts : Facts (ss 0) keys' notes' r
            facts st i X q =
                let t = stands-out p n es 1 0 i in
                let k = key_of st.head X in
                let w : States st.body st.head k = subst⁻¹ (λ (e : Body). States e st.head k) q refl in
                let h = (g.exact few k 0).1 (inr (t.place, t.low, (subst (λ (y : Statement). States y.body y.head k) t.is w, t.during))) in
                let o = level-same notes notes' count (f.notes_same l) (leveled-back notes count (g.kept few).leveled) h.0 h.1 in
                let z = level-one h.0 h.1 in
                (h.0, omega (arith, h.1, f.more l), f.keys_same l h.0 h.1 ∙ h.2, omega arith)

            derived : (i : ℕ) → i < r → Derived cs m keys' notes' i
            derived i o = go (below_or_not i count)
              where
                k : Kept keys' spans' slots' links' notes' r
                k = (f.held l).kept

                go : (i < count) ⊎ (count ≤ i) → Derived cs m keys' notes' i
                go (inl b) =
                    fact-derived keys' notes' i (k.leveled i o)
                    (rw (f.keys_same l i b, f.notes_same l i 0 b (omega arith), f.notes_same l i 1 b (omega arith), f.notes_same l i 2 b (omega arith)) ((g.noted few).by i (omega arith) b))
                go (inr b) = noted-derived keys' notes' i (k.leveled i o) u (λ j h. k.stored.roles j (omega arith)) (f.noted l i b o)

          pub searched : Searched cs m limit keys' slots' notes' r
          searched =
              record {
                stored = λ l. (links', (f.held l).kept.stored);
                room = λ l. (f.held l).kept.room.1;
                leveled = λ l. (f.held l).kept.leveled;
                rising = f.rising;
                derivation = λ l. record { derived = derived l; distinct = distinct-keys (f.held l).kept.stored };
                complete = λ l. all_there (ss 0) keys' notes' r (valid-fits cs fits m) (facts l) (f.leveling l ss one_span (loaded p n es 1 d u g).policy closed);
                over = λ l. too_many limit (f.over l ss (loaded p n es 1 d u g).policy closed);
              }
