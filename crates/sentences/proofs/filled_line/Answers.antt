-- The words from the line on fit, as they all do.
use Rattle.std.proofs.Common.{◌≡◌}
use Rattle.std.proofs.lemmas.List.{take_rest}
use Rattle.sentences.specs.Filling.{sentence}
use Rattle.sentences.proofs.Fitting.{from-line}
use Rattle.sentences.proofs.filled_line.Goals as goal

pub put_filled-out-requires : goal.put_filled-out-requires
put_filled-out-requires c = rw (take_rest, c.line_at-from.ensures.at) (from-line c.args.s.0 c.args.words.now c.requires)

pub returns : goal.returns
unfolding sentence
returns c =
    let e : c.put_filled-out.result ≡ sentence c.args.words.now c.args.s
    = rw (c.put_filled-out.ensures.text, take_rest, c.line_at-from.ensures.at, c.start.ensures) in
    cc
