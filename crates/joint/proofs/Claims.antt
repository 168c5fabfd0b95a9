-- Demand 3 holds.
use mathlib.Core.Path.{◌≡◌, refl, subst⁻¹}
use mathlib.Core.Logic.{◌↔◌}
use mathlib.Core.Bool.{true}
use mathlib.Core.List.{List, [], ◌∷◌}
use Prim.Native.Nat.{ℕ, ◌≤◌}
use native.Mathlib.Omega.{arith}
use Rattle.meaning.specs.Credentials.{◌·◌, Credential}
use Rattle.meaning.specs.Members.{closure}
use Rattle.meaning.specs.Proofs.{Provable}
use Rattle.meaning.specs.Table.{bit, table}
use Rattle.file.specs.Refusals.{Outcome, done, refused, first}
use Rattle.withdrawals.specs.List.{none}
use Rattle.withdrawals.specs.Source.{◌without◌, Source, credentials, reading}
use Rattle.withdrawals.specs.Conditions.{Accepted}
use Rattle.withdrawals.specs.Samples.{one}
use Rattle.withdrawals.proofs.Claims.{uncut-credentials, withdrawing-takes}
use Rattle.file.specs.Samples.{p}
use Rattle.asking.specs.Asking.{Request, request, StepLists, one_length, asking}
use Rattle.completing.specs.Completing.{Lent, lent, reply_to, table_ending, completing}
use Rattle.joint.specs.Joint.{InWrittenValidity, InRange, SomeProof, JointClaim, Demand3}
use Rattle.joint.proofs.Range as Range
use Rattle.joint.proofs.Completed.{accepted, fits, few, validity, members-within-table}
use Rattle.joint.proofs.Answers.{after-query}

pub demand-3 : Demand3
demand-3 f before after count says q r = record {
  validity = validity f before after count says q;
  query = λ t t' reply lists same d. after-query f q t t' reply
      (record { accepted = accepted f before after count says; lists = lists; within = r.numbers; some = r.some; minute = λ e. let m = r.minute in omega arith })
      (omega (arith, members-within-table (credentials f) (fits f before after count says) q.minute, few f before after count says, same)) d;
}

-- Withdrawing takes and never gives, in what completing writes: a minute that stands in a written validity with a list stands there with the list of count 0.
pub no-minute-gained :
    (f w : List ℕ) (before after before' after' : Lent) (count count' : ℕ)
    → table_ending (done count) after.roles after.sets after.spans ≡ completing (f without w) before
    → table_ending (done count') after'.roles after'.sets after'.spans ≡ completing (f without none) before'
    → (q : Request) → InWrittenValidity (f without w) after count q → InWrittenValidity (f without none) after' count' q
no-minute-gained f w before after before' after' count count' cut uncut q v =
    let (k, ss, proof) = (validity (f without w) before after count cut q).0 v in
    (validity (f without none) before' after' count' uncut q).1
    (subst⁻¹ (λ (cs : List Credential). Provable cs q.minute q.role q.set) (uncut-credentials f) (k, ss, withdrawing-takes f w proof))

-- It leaves out no request: of an accepted file with its withdrawals, with step lists of one length and a minute of 32 bits, a request is in range exactly when neither 11
-- nor 12 is given.
pub in-range-exact : (f : Source) (q : Request) (t : StepLists) → Accepted f → one_length t ≡ true → q.minute ≤ 4294967295
    → InRange f q ↔ (¬ (◌≡◌ {A = Outcome ℕ} (first (asking f q t) 0) (refused 11 0)) × ¬ (◌≡◌ {A = Outcome ℕ} (first (asking f q t) 0) (refused 12 0)))
in-range-exact = Range.in-range-exact

-- Demand 3 of set P's bytes and case K1, 0.1 {1,2} at minute 15: what completing leaves in lists of 8 zeros, and that a proof exists.
abbrev pub k1 : Request
k1 = request (0 · 1) 6 15

abbrev pub zeros : List ℕ
zeros = 0 ∷ 0 ∷ 0 ∷ 0 ∷ 0 ∷ 0 ∷ 0 ∷ 0 ∷ []

abbrev pub p_table : Lent
p_table = lent (0 ∷ 0 ∷ 1 ∷ 0 ∷ 0 ∷ 0 ∷ 0 ∷ 0 ∷ []) (2 ∷ 4 ∷ 6 ∷ 0 ∷ 0 ∷ 0 ∷ 0 ∷ 0 ∷ []) (14 ∷ 28 ∷ 4 ∷ 0 ∷ 0 ∷ 0 ∷ 0 ∷ 0 ∷ [])

pub p-completed : table_ending (done 3) p_table.roles p_table.sets p_table.spans ≡ completing (p without none) (lent zeros zeros zeros)
unfolding completing reply_to reading credentials table closure bit
p-completed = refl

pub p-demand-3 : JointClaim (p without none) p_table 8 3 k1
p-demand-3 = demand-3 (p without none) (lent zeros zeros zeros) p_table 3 p-completed k1 (record { numbers = refl; some = λ e. omega arith; minute = omega arith })

pub p-some-proof : SomeProof (p without none) k1
unfolding credentials
p-some-proof = (
  2,
  record { credential = 0; first = 0; second = 0; set = 2 } ∷ record { credential = 1; first = 0; second = 0; set = 4 } ∷ record { credential = 2; first = 0; second = 1; set = 6 } ∷ [],
  record { keeping = tt; last = (_ ∷ _ ∷ [], refl) },
)

-- With serial 1 withdrawn at minute 15, where that membership begins, it is in the table no more.
abbrev pub p_cut : Lent
p_cut = lent (0 ∷ 0 ∷ 0 ∷ 0 ∷ 0 ∷ 0 ∷ 0 ∷ 0 ∷ []) (2 ∷ 4 ∷ 0 ∷ 0 ∷ 0 ∷ 0 ∷ 0 ∷ 0 ∷ []) (2 ∷ 12 ∷ 0 ∷ 0 ∷ 0 ∷ 0 ∷ 0 ∷ 0 ∷ [])

pub p-cut-completed : table_ending (done 2) p_cut.roles p_cut.sets p_cut.spans ≡ completing (p without one 1 15) (lent zeros zeros zeros)
unfolding completing reply_to reading credentials table closure bit
p-cut-completed = refl

pub p-cut-lost : ¬ InWrittenValidity (p without one 1 15) p_cut 2 k1
unfolding credentials bit
p-cut-lost v = v

pub p-cut-none : ¬ SomeProof (p without one 1 15) k1
p-cut-none s = p-cut-lost ((validity (p without one 1 15) (lent zeros zeros zeros) p_cut 2 p-cut-completed k1).1 s)
