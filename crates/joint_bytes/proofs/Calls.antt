-- The three calls for C, made one after the other, meet demand 3 on bytes.
use mathlib.Core.Path.{◌≡◌, ap, ◌∙◌}
use Prim.Native.Nat.{ℕ, ◌%◌, ◌<◌}
use native.Mathlib.Omega.{arith}
use borrow.Author.Tests.{lt-ltb}
use lib.ListN.{length}
use Rattle.meaning.specs.Lists.{if}
use Rattle.withdrawals.specs.Source.{Source}
use Rattle.asking.specs.Asking.{Request, StepLists}
use Rattle.completing.specs.Completing.{Lent}
use Rattle.joint.specs.Joint.{InRange}
use Rattle.replies.specs.Interface.{word}
use Rattle.replies.specs.Lengths.{Rooms}
use Rattle.complete_bytes.specs.Interface.{complete_bytes}
use Rattle.query_bytes.specs.Interface.{QueriedBytes}
use Rattle.check_bytes.specs.Interface.{check_reply}
use Rattle.interface.specs.Claims.{GivenBytes}
use Rattle.interface.proofs.Claims.{demand-3-bytes}
use Rattle.joint_bytes.specs.declared.Replies.{Replies}
use Rattle.joint_bytes.specs.Calls.{steps_of, AsDemandedBytes, TogetherBytes}

-- the step count of a proof that was handed out
steps-given : {f : Source} {q : Request} {r : ℕ} {b : StepLists} (g : GivenBytes f q r b) → steps_of r ≡ g.steps
steps-given {r = r} g =
    let e : r % 65536 ≡ g.steps = omega (arith, g.replied, g.apart.0) in
    ap (λ c. if c (r % 65536) 0) (lt-ltb r 4294967296 g.apart.1) ∙ e

pub together : {f : Source} {q : Request} {before after : Lent} {b b' : StepLists} {r : Replies} {steps : ℕ}
    → (r.completed ≡ word (λ n. n) (complete_bytes f before).reply) × (after ≡ (complete_bytes f before).lists)
    → QueriedBytes f q b r.queried b' → steps ≡ steps_of r.queried → r.checked ≡ word (λ n. n) (check_reply f q b' steps)
    → TogetherBytes f q before after b b' r
together {f} {q} {before} {after} {b} {b'} {r} {steps} c d s e = record { completed = c; queried = d; checked = checked; demand3 = holds }
  where
    check_with : ℕ → ℕ
    check_with n = word (λ (m : ℕ). m) (check_reply f q b' n)

    checked : r.checked ≡ check_with (steps_of r.queried)
    checked = e ∙ ap check_with s

    holds : r.completed < 4294967296 → InRange f q → Rooms b → length b.credential ≡ length before.roles → AsDemandedBytes f q after b' r
    holds small range rooms long =
        let j = demand-3-bytes f before after r.completed c.0 c.1 small q range in
        let w = j.query b b' r.queried rooms long d in
        record {
          validity = j.validity;
          given = λ p. (
              let g = w.given p in
              (g, checked ∙ ap check_with (steps-given g) ∙ g.checked));
          none = w.none;
        }
