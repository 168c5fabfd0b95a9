-- `taken` meets its contract.
use Rattle.serials.proofs.Searching.{above-fresh, zero-taken, search-decides}
use borrow.Author.Rules.{rules}
use Rattle.serials.proofs.taken.Statement.{statement}
use Rattle.serials.proofs.taken.Tie as tie

serial-at-requires : tie.Need-serial_at-x-requires
serial-at-requires c κs = search rules

returns : tie.Need-returns-then-greatest-x
returns c =
    let s = c.before.before.before in
    above-fresh s.args.file.now s.args.i _ c.before.serial_at-x.ensures s.args.greatest s.requires.1 c.if-greatest-x.true

returns-2 : tie.Need-returns-then-x-eq0
returns-2 c =
    let s = c.before.before.before.before in
    zero-taken s.args.file.now s.args.i _ c.before.before.serial_at-x.ensures c.if-x-eq0.true

earlier-requires : tie.Need-earlier-requires
earlier-requires c κs = search rules

returns-3 : tie.Need-returns
returns-3 c =
    let s = c.before.before.before.before.before in
    search-decides s.args.file.now s.args.i _ c.before.before.before.serial_at-x.ensures c.before.if-x-eq0.false c.earlier.ensures

pub taken_spec : {M : Type 1} → statement M
taken_spec =
    tie.close (tie.spec serial-at-requires returns returns-2 earlier-requires returns-3)
