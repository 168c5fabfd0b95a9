-- What a body gets by a move is what it gets from the entry, with a store.
use mathlib.Core.Path.{◌≡◌}
use mathlib.Core.Bool.{Bool, true, false}
use mathlib.Core.List.{List}
use Prim.Native.Nat.{ℕ, ◌+◌}
use lib.Bits.{bit_and}
use lib.ListN.{get_or}
use Rattle.std.proofs.Common.{Result, Ok}
use Rattle.store.specs.declared.Full.{Full}
use Rattle.store.specs.declared.Store.{Store}
use Rattle.rules.specs.declared.UseLists.{UseLists}
use Rattle.heads.specs.Gaining.{Spanned}
use Rattle.heads.specs.Heads.{One, Headed, Covering, Coverings, FromHeads, TheOne}
use Rattle.heads.specs.Stores.{ReadyIn, Adds}
use Rattle.heads.proofs.Gaining.{gains-none}
use Rattle.portions.specs.Plans.{PlanAdds}
use Rattle.premises.specs.declared.Move.{Move}
use Rattle.premises.specs.declared.Turn.{Turn}
use Rattle.premises.specs.Combining.{ByCode, Offers}
use Rattle.premises.specs.Moves.{Firing, MoveSets, MoveWords, Planned, Plans}
use Rattle.firing.proofs.Heads as heads

module _ (st : Store) (u : UseLists) {done : List ℕ} {t : Turn} {body : ℕ} (ready : ReadyIn st t.limit u body) (firing : Firing done st.count t) (all : ℕ) (covers : Coverings u.valid u.lists body all) where
  -- what it gets from the entry in the spans d
  abbrev Gets : ℕ → Spanned
  Gets d = Headed u.codes u.valid u.lists body (ByCode st.keys done st.count t.e d (get_or u.codes body 0))

  abbrev GetsAll : Store → Result Unit Full → Type 0
  GetsAll st' r = Adds t.limit st (Gets t.spans) (FromHeads u.codes u.lists body (t.e + 1) (Offers st.keys done st.count t.e (get_or u.codes body 0))) st' r

  cover : Covering u.codes u.valid u.lists body all
  cover = covers u.codes ready.listed

  nothing : ((k s : ℕ) → Gets t.spans k s → ⊥) → GetsAll st (Ok tt)
  nothing none = record { gains = gains-none ready.kept ready.few.0 none; within = ready.few.0 }

  -- only spans in which some head of the body is valid count
  pub without-spans : bit_and t.spans all ≡ 0 → GetsAll st (Ok tt)
  without-spans z = nothing (heads.narrow-none u.codes u.valid u.lists body all cover st.keys done st.count t.e t.spans (get_or u.codes body 0) z)

  -- ---- by a move

  module _ (m : Move) (plans : Plans st.keys st.slots st.links done t (get_or u.codes body 0) (bit_and t.spans all) m) where
    planned : Planned st.keys done st.count t.e (get_or u.codes body 0) (bit_and t.spans all) m
    planned = plans st.count ready.kept.stored firing

    -- in no spans it gives nothing
    pub without-offer : m.offer.spans ≡ 0 → GetsAll st (Ok tt)
    without-offer z = nothing (heads.move-none u.codes u.valid u.lists body all cover st.keys done st.count t.e t.spans (get_or u.codes body 0) planned z)

    module _ {st' : Store} {r : Result Unit Full} (some : m.offer.spans ≡ 0 → ⊥) where
      -- the heads get its sets, with the words of their partners
      by-move : (b : Bool) → m.each ≡ b → Adds t.limit st (Headed u.codes u.valid u.lists body (MoveSets b st.keys done m)) (FromHeads u.codes u.lists body (t.e + 1) (MoveWords b st.keys done m)) st' r → GetsAll st' r
      by-move b q a =
          record {
            gains = heads.move-gains u.codes u.valid u.lists body all cover st.keys done st.count t.e t.spans (get_or u.codes body 0) planned b q some a.gains;
            within = a.within;
          }

      pub by-set : m.each ≡ false → Adds t.limit st (Headed u.codes u.valid u.lists body (One m.offer.set m.offer.spans)) (FromHeads u.codes u.lists body (t.e + 1) (TheOne m.offer.set m.other)) st' r → GetsAll st' r
      by-set q a = by-move false q a

      pub by-each : m.each ≡ true → PlanAdds (record { limit = t.limit; body = body; start = m.start; own = t.e + 1; offer = m.offer }) u done st st' r → GetsAll st' r
      by-each q a = by-move true q (record { gains = heads.each-gains u.codes u.valid u.lists body st.keys done m a.gains; within = a.within })
