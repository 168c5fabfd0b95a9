-- The answer is what stands in the slot where the search ends.
use Rattle.std.proofs.Common.{arith, ◌-◌}
use Prim.Native.Nat.{suc}
use Rattle.store.proofs.Searches.{looked_up}
use Rattle.store.proofs.Store.entry_of.Goals as goal

pub returns-in-0 : goal.returns-in-0
returns-in-0 c = looked_up c.args.self.now.keys c.args.self.now.slots c.requires c.find-p.result 0 (omega arith) c.args.key c.find-p.ensures

pub returns-in_default : goal.returns-in_default
returns-in_default c = looked_up c.args.self.now.keys c.args.self.now.slots c.requires c.find-p.result (suc (c.wide.result - 1)) (omega arith) c.args.key c.find-p.ensures
