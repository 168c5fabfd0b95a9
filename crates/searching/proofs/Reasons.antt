-- An entry is derived if its words say how a credential gives it; a fact is one.
use mathlib.Core.Path.{◌≡◌, refl, sym, ap, ◌∙◌, subst⁻¹}
use mathlib.Core.Bool.{Bool, true, false}
use mathlib.Core.List.{List}
use Prim.Native.Nat.{ℕ, suc, ◌-◌, ◌^◌, ◌≤◌, ◌<◌, max}
use native.Mathlib.Omega.{arith}
use borrow.Author.Tests.{ltb-true, ltb-false}
use lib.Dec.{T, ltb}
use lib.ListN.{length, get_or}
use Rattle.meaning.specs.Lists.{if}
use Rattle.meaning.specs.Credentials.{◌·◌, Body, set, role, link, ◌∩◌, ◌⊙◌, ◌⊗◌, covers, Credential, credential_at, SetFits}
use Rattle.meaning.specs.Sequence.{Relation, Gives}
use Rattle.meaning.specs.Proofs.{Shown, nothing, cites_first, cites_second, follows}
use Rattle.meaning.proofs.Steps.{Shows, follows-in}
use Rattle.store.specs.Entries.{key_of, role_in, set_in}
use Rattle.store.specs.Notes.{word, level_of, Leveled}
use Rattle.store.proofs.Keys.{role-of-key, set-of-key}
use Rattle.premises.specs.Combining.{Keyed}
use Rattle.facts.specs.Facts.{States}
use Rattle.derivation.specs.Derivation.{Citable, shown_of, Derived}

-- a body gives more from more; only the premises that it cites count
gives-by : {P P' Q Q' : Relation} (e : Body) (f : T (cites_first e) → (Ar X : ℕ) → P Ar X → P' Ar X) (g : T (cites_second e) → (Ar X : ℕ) → Q Ar X → Q' Ar X) (X : ℕ) → Gives P Q e X → Gives P' Q' e X
gives-by (set Y) f g X h = h
gives-by (role Bs) f g X h = f tt Bs X h
gives-by (link Bs t) f g X (C, h, k) = (C, f tt Bs _ h, g tt (C · t) X k)
gives-by (Bs ∩ Ct) f g X (h, k) = (f tt Bs X h, g tt Ct X k)
gives-by (Bs ⊙ Ct) f g X (Y, Z, h, k, e) = (Y, Z, f tt Bs Y h, g tt Ct Z k, e)
gives-by (Bs ⊗ Ct) f g X (Y, Z, h, k, d, e) = (Y, Z, f tt Bs Y h, g tt Ct Z k, d, e)

-- ---- an entry by its words

-- why an entry with the key is derived: a credential that is valid at the minute gives its set from what the two words cite, entries with the keys a and b
pub record Reason (m : ℕ) (keys : List ℕ) (x : Credential) (first second key : ℕ) : Type 0 where
  pub a : ℕ
  pub b : ℕ
  pub set : ℕ
  pub valid : T (covers x.period m)
  pub firsts : cites_first x.statement.body ≡ ltb 0 first
  pub seconds : cites_second x.statement.body ≡ ltb 0 second
  pub one : 0 < first → get_or keys (first - 1) 0 ≡ a
  pub two : 0 < second → get_or keys (second - 1) 0 ≡ b
  pub gives : Gives (Keyed a) (Keyed b) x.statement.body set
  pub low : set < 2 ^ 32
  pub is : key ≡ key_of x.statement.head set

by-test : (b : Bool) (s : Shown) → (if b s nothing).level ≡ if b s.level 0
by-test true s = refl
by-test false s = refl

citable-by : (b : Bool) (w n : ℕ) → b ≡ ltb 0 w → w ≤ n → Citable b n (w - 1)
citable-by true w n e l = let h = ltb-true 0 w (sym e) in omega arith
citable-by false w n e l = let h = ltb-false 0 w (sym e) in omega arith

module _ (cs : List Credential) (m : ℕ) (keys notes : List ℕ) (i : ℕ) (known : word notes i 0 < length cs) (l : Leveled notes i)
    (r : Reason m keys (credential_at cs (word notes i 0)) (word notes i 1) (word notes i 2) (get_or keys i 0)) where
  abbrev x : Credential
  x = credential_at cs (word notes i 0)

  abbrev e : Body
  e = x.statement.body

  abbrev cited : Bool → ℕ → Shown
  cited b w = if b (shown_of keys notes (w - 1)) nothing

  abbrev p : Shown
  p = cited (cites_first e) (word notes i 1)

  abbrev q : Shown
  q = cited (cites_second e) (word notes i 2)

  -- what is cited has the key
  cited-key : (w a : ℕ) → (0 < w → get_or keys (w - 1) 0 ≡ a) → (d : Bool) → d ≡ ltb 0 w → T d → (Br Y : ℕ) → Keyed a Br Y → Shows (cited d w) Br Y
  cited-key w a k true z o Br Y (u, v) = let j = k (ltb-true 0 w (sym z)) in (ap role_in j ∙ u, v ∙ ap set_in (sym j))
  cited-key w a k false z o Br Y h = absurd o

  set_here : set_in (get_or keys i 0) ≡ r.set
  set_here = ap set_in r.is ∙ set-of-key x.statement.head r.set r.low

  role-here : role_in (get_or keys i 0) ≡ x.statement.head
  role-here = ap role_in r.is ∙ role-of-key x.statement.head r.set r.low

  follows-here : T (follows e p q (set_in (get_or keys i 0)))
  follows-here =
      subst⁻¹ (λ (X : ℕ). T (follows e p q X)) set_here
      (follows-in e p q r.set
      (gives-by e (λ o. cited-key (word notes i 1) r.a r.one (cites_first e) r.firsts o) (λ o. cited-key (word notes i 2) r.b r.two (cites_second e) r.seconds o) r.set r.gives))

  level-here : level_of notes i ≡ suc (max p.level q.level)
  level-here =
      l.level
      ∙ (λ u. suc (max (sym (by-test (cites_first e) (shown_of keys notes (word notes i 1 - 1)) ∙ ap (λ (d : Bool). if d (level_of notes (word notes i 1 - 1)) 0) r.firsts) u) (sym (by-test (cites_second e) (shown_of keys notes (word notes i 2 - 1)) ∙ ap (λ (d : Bool). if d (level_of notes (word notes i 2 - 1)) 0) r.seconds) u)))

  pub derived-by : Derived cs m keys notes i
  derived-by =
      record {
        holds = record {
          known = known;
          valid = r.valid;
          first = citable-by (cites_first e) (word notes i 1) i r.firsts l.first;
          second = citable-by (cites_second e) (word notes i 2) i r.seconds l.second;
          follows = follows-here;
          shows = λ u. record { role = role-here u; set = set_in (get_or keys i 0); level = level-here u };
        };
        firsts = r.firsts;
        seconds = r.seconds;
      }

-- ---- a fact

module _ {m : ℕ} {keys : List ℕ} where
  states-reason : (x : Credential) (e : Body) → x.statement.body ≡ e → (k : ℕ) → T (covers x.period m) → SetFits e → States e x.statement.head k → Reason m keys x 0 0 k
  states-reason x (set X) q k v f s =
      record {
        a = 0;
        b = 0;
        set = X;
        valid = v;
        firsts = ap cites_first q;
        seconds = ap cites_second q;
        one = λ o. absurd (omega arith);
        two = λ o. absurd (omega arith);
        gives = subst⁻¹ (λ (e : Body). Gives (Keyed 0) (Keyed 0) e X) q refl;
        low = f;
        is = s;
      }
  states-reason x (role Bs) q k v f s = absurd s
  states-reason x (link Bs t) q k v f s = absurd s
  states-reason x (Bs ∩ Ct) q k v f s = absurd s
  states-reason x (Bs ⊙ Ct) q k v f s = absurd s
  states-reason x (Bs ⊗ Ct) q k v f s = absurd s

  pub fact-reason : (x : Credential) (k : ℕ) → T (covers x.period m) → SetFits x.statement.body → States x.statement.body x.statement.head k → Reason m keys x 0 0 k
  fact-reason x k v f s = states-reason x x.statement.body refl k v f s
