-- `premises::plan` decides by the kind of a body.
use Rattle.std.proofs.Common.{◌≡◌, ◌+◌, ◌*◌, ◌/◌, ◌≤◌, ◌<◌, ◌^◌, get_or, arith}
use lib.Count.{count_trailing_zeros}
use lib.Pow.{pow-lt}
use Rattle.store.specs.Entries.{role_in, set_in}
use Rattle.store.proofs.Keys.{set_below}
use Rattle.rules.specs.Uses.{family_in, kind_in, other_in}
use Rattle.premises.proofs.Ones.{shifted}
use Rattle.premises.proofs.Combining.{by_one, by_three, by-pair, by-second, by-link, gets-one, gets-same, gets-pair, gets-link, gets-name, link-none, link-role}
use Rattle.premises.proofs.Moving.{planned-one, planned-none, planned-with, planned-each}
use Rattle.premises.proofs.plan.Goals as goal

pub returns-then-kind-eq1 : goal.returns-then-kind-eq1
returns-then-kind-eq1 c =
    let a = c.args in
    let r = c.requires in
    let k : kind_in a.code ≡ 1 = cc in
    rw (c.single.ensures, c.set_of-x.ensures.0) (λ n st fi. planned-one a.code a.d st fi k (λ P. gets-one r.codable r.low.1 P k) (λ P X. by_one k))

pub returns-then-kind-eq3 : goal.returns-then-kind-eq3
returns-then-kind-eq3 c =
    let a = c.args in
    let r = c.requires in
    let x = set_in (get_or a.store.now.keys a.t.e 0) in
    let k : kind_in a.code ≡ 3 = cc in
    λ n st fi. planned-with a.code a.d st fi (other_in a.code) x (omega arith, set_below _) (λ f. omega arith) (λ P. gets-same r.codable r.low.1 P k) (λ P X. by_three k)
    (rw (c.other_of-partner.ensures.0, c.set_of-x.ensures.0) at (c.with_one.ensures n st))

pub returns-then-kind-ne2 : goal.returns-then-kind-ne2
returns-then-kind-ne2 c =
    let a = c.args in
    let r = c.requires in
    let k : 4 ≤ kind_in a.code = omega arith in
    rw (c.walking.ensures, c.kind_of-kind.ensures, c.set_of-x.ensures.0)
    (λ n st fi. planned-each a.code a.d st fi (kind_in a.code) (other_in a.code) c.start_at-start.result (omega arith) (rw (c.role_of-role.ensures, c.other_of-partner.ensures.0) at c.start_at-start.ensures) (λ f. omega arith)
    (λ P. gets-pair r.codable r.low.1 P k) (λ P X. by-pair k))

pub returns-then-family_of-ge1024 : goal.returns-then-family_of-ge1024
returns-then-family_of-ge1024 c =
    let a = c.args in
    let r = c.requires in
    let i = role_in (get_or a.store.now.keys a.t.e 0) / 32 in
    let k : kind_in a.code ≡ 2 = cc in
    let l : 1024 ≤ family_in a.code = omega arith in
    let low : i < 32 = omega (arith, r.low) in
    λ n st fi. planned-with a.code a.d st fi (other_in a.code) (2 ^ i) (omega arith, pow-lt low) (λ f. omega arith) (λ P. gets-name r.codable r.low.1 P k l) (λ P X. by-second k l r.low.1)
    (rw (c.other_of-partner.ensures.0, c.role_of-role.ensures, shifted i low, c.set_of-x.ensures.0) at (c.with_one-then-family_of-ge1024.ensures n st))

pub returns-then-set-ne1 : goal.returns-then-set-ne1
returns-then-set-ne1 c =
    let a = c.args in
    let r = c.requires in
    let k : kind_in a.code ≡ 2 = cc in
    let l : family_in a.code < 1024 = omega arith in
    rw (c.single-then-set-ne1.ensures, c.set_of-x.ensures.0) (λ n st fi. planned-none a.code a.d st fi (λ P. link-none r.codable r.low.1 P k l (rw c.set_of-x.ensures.0 at c.if-set-ne1.true)))

pub start_at-start-requires-2 : goal.start_at-start-requires-2
start_at-start-requires-2 c =
    let r = c.requires in
    let k : kind_in c.args.code ≡ 2 = cc in
    let l : family_in c.args.code < 1024 = omega arith in
    rw (c.set_of-x.ensures.0, c.other_of-partner.ensures.0) (link-role r.codable r.low.1 k l (rw c.set_of-x.ensures.0 at c.if-set-ne1.false), r.low.0)

pub returns : goal.returns
returns c =
    let a = c.args in
    let r = c.requires in
    let k : kind_in a.code ≡ 2 = cc in
    let l : family_in a.code < 1024 = omega arith in
    let o = rw c.set_of-x.ensures.0 at c.if-set-ne1.false in
    rw (c.walking-2.ensures, c.set_of-x.ensures.0)
    (λ n st fi. planned-each a.code a.d st fi 2 (count_trailing_zeros 32 (set_in (get_or a.store.now.keys a.t.e 0)) * 32 + other_in a.code) c.start_at-start-2.result (link-role r.codable r.low.1 k l o)
    (rw (c.role_of-role.ensures, c.set_of-x.ensures.0, c.other_of-partner.ensures.0) at c.start_at-start-2.ensures) (λ f. omega arith)
    (λ P. gets-link r.codable r.low.1 P k l o) (λ P. by-link r.codable r.low.1 P k l))
