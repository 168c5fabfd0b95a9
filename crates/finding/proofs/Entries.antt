-- What the search leaves: exactly the memberships at the minute, each at its least level.
use mathlib.Core.Path.{◌≡◌, sym, ap, ◌∙◌, subst}
use mathlib.Core.Bool.{true, false}
use mathlib.Core.List.{List, map, Memᴰ as Mem}
use Prim.Native.Nat.{ℕ, ◌^◌, ◌≤◌, ◌<◌, zero-le}
use native.Mathlib.Nat.{le_antisymm}
use native.Mathlib.Omega.{arith}
use lib.ListN.{length, get_or, length-map}
use Rattle.meaning.specs.Credentials.{Credential, valid_at, FitsAll}
use Rattle.meaning.specs.Sequence.{S, Least}
use Rattle.meaning.specs.Members.{Membership, member, has, members, least_level}
use Rattle.meaning.proofs.ListLaws.{map-in, cast}
use Rattle.meaning.proofs.Tests.{is_true, is_false}
use Rattle.meaning.proofs.SortLaws.{Within, within-length}
use Rattle.meaning.proofs.OrderLaws.{memberships, has_in, has-out}
use Rattle.meaning.proofs.Derivations.{derivable}
use Rattle.meaning.proofs.Fixpoint.{S-fits}
use Rattle.meaning.proofs.Rows.{key, valid-fits, members-ascending, members-derivable}
use Rattle.meaning.proofs.Least.{least-below, least-counted, provable-derivable}
use Rattle.store.specs.Entries.{key_of, role_in, set_in}
use Rattle.store.proofs.Keys.{role-of-key, set-of-key}
use Rattle.derivation.specs.Derivation.{step_of, shown_of}
use Rattle.store.specs.Notes.{level_of}
use Rattle.derivation.proofs.Positions.{shown-sound}
use Rattle.writing.specs.Rows.{rows_of}
use Rattle.writing.proofs.Gathering.{keys-ascending, rows-gathered, rows-length}
use Rattle.searching.specs.Searching.{Searched}

module _ (cs : List Credential) (w : FitsAll cs) (m limit : ℕ) {keys slots notes : List ℕ} {r : ℕ} (s : Searched cs m limit keys slots notes r) (l : r ≤ limit) where
  -- an entry is a membership, at its level
  entry-level : (i : ℕ) → i < r → S (valid_at cs m) (level_of notes i) (role_in (get_or keys i 0)) (set_in (get_or keys i 0))
  entry-level = shown-sound cs m (step_of keys notes) (shown_of keys notes) r (λ i h. ((s.derivation l).derived i h).holds)

  in-level : (p : Membership) → Mem p (members cs m) → (k : ℕ) × S (valid_at cs m) k p.role p.set
  in-level p h = (derivable cs m).0 ((members-derivable cs w m).0 h)

  level_in : (k : ℕ) {Ar X : ℕ} → S (valid_at cs m) k Ar X → Mem (member Ar X) (members cs m)
  level_in k h = (members-derivable cs w m).1 ((derivable cs m).1 (k, h))

  -- there are no more memberships than entries
  pub members-few : length (members cs m) ≤ r
  members-few =
      let g = rows-gathered keys keys r (s.derivation l).distinct in
      let n = (within-length memberships (members cs m) (map key (rows_of keys keys r)) (members-ascending cs w m) (keys-ascending (rows_of keys keys r) g.ascending) among).0 in
      omega (arith, length-map (rows_of keys keys r) key, rows-length keys keys r (s.derivation l).distinct)
    where
      among : Within (members cs m) (map key (rows_of keys keys r))
      among p h =
          let k = in-level p h in
          let e = s.complete l k.0 p.role p.set k.1 in
          let small = (S-fits (valid_at cs m) (valid-fits cs w m) k.0 p.role p.set k.1).1 in
          cast (λ t. member (sym (ap role_in e.2 ∙ role-of-key p.role p.set small) t) (sym (ap set_in e.2 ∙ set-of-key p.role p.set small) t))
          (map-in key ((rows-gathered keys keys r (s.derivation l).distinct).listed e.0 e.1 zero-le))

  module _ (Ar X : ℕ) (small : X < 2 ^ 32) where
    -- the entry with a key
    pub entry_has : (i : ℕ) → i < r → get_or keys i 0 ≡ key_of Ar X → has (member Ar X) (members cs m) ≡ true
    entry_has i h e =
        is_true (has (member Ar X) (members cs m))
        (has_in (member Ar X) (cast (λ t. member (sym (ap role_in e ∙ role-of-key Ar X small) t) (sym (ap set_in e ∙ set-of-key Ar X small) t)) (level_in (level_of notes i) (entry-level i h))))

    pub no-entry : ((i : ℕ) → i < r → get_or keys i 0 ≡ key_of Ar X → ⊥) → has (member Ar X) (members cs m) ≡ false
    no-entry none =
        is_false (has (member Ar X) (members cs m)) (λ t.
        let k = in-level (member Ar X) (has-out (member Ar X) (members cs m) t) in
        let e = s.complete l k.0 Ar X k.1 in
        none e.0 e.1 e.2)

    -- an entry's level is the least
    pub entry-least : (i : ℕ) → i < r → get_or keys i 0 ≡ key_of Ar X → level_of notes i ≡ least_level cs m (member Ar X)
    entry-least i h e = le_antisymm low high
      where
        here : S (valid_at cs m) (level_of notes i) Ar X
        here =
            subst (λ (a : ℕ). S (valid_at cs m) (level_of notes i) a X) (ap role_in e ∙ role-of-key Ar X small)
            (subst (S (valid_at cs m) (level_of notes i) (role_in (get_or keys i 0))) (ap set_in e ∙ set-of-key Ar X small) (entry-level i h))

        least : Least (valid_at cs m) (least_level cs m (member Ar X)) Ar X
        least = least-counted cs m (valid-fits cs w m) ((provable-derivable cs m).1 ((derivable cs m).1 (level_of notes i, here)))

        high : least_level cs m (member Ar X) ≤ level_of notes i
        high = least-below (valid_at cs m) least here

        low : level_of notes i ≤ least_level cs m (member Ar X)
        low =
            let f = s.complete l (least_level cs m (member Ar X)) Ar X least.0 in
            let q : f.0 ≡ i = (s.derivation l).distinct f.0 i f.1 h (f.2 ∙ sym e) in
            subst (λ (j : ℕ). level_of notes j ≤ least_level cs m (member Ar X)) q f.3
