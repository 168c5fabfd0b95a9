-- `pairs::lacking` gives what the entry gives, unless `has` finds all of it.
use mathlib.Core.Path.{sym, ap, ◌∙◌, subst⁻¹}
use Prim.Native.Nat.{◌<◌}
use Rattle.heads.specs.declared.Gift.{Gift}
use Rattle.heads.proofs.Heads.{bit-left, no-bit}
use Rattle.waiting.specs.Pairs.{pair_at}
use Rattle.portions.specs.Plans.{gift_of}
use Rattle.pairs.proofs.lacking.Goals as goal

pub returns : goal.returns
returns c =
    let a = c.args in
    let x = pair_at a.store.now.keys a.done.now a.p.offer a.j in
    let e = c.gift_of-2.ensures ∙ ap (gift_of a.p) c.pair_at-x.ensures.pair in
    record {
      low = subst⁻¹ (λ (g : Gift). g.set < 4294967296) c.gift_of-2.ensures c.pair_at-x.ensures.set;
      some = λ nz. e;
      none = λ z n o s b. absurd (no-bit x.spans s (sym (ap (λ (g : Gift). g.spans) e) ∙ z) (bit-left x.spans a.v s b));
    }
