-- What the calls answer where lent lists do not fit.
use Rattle.complete_bytes.proofs.Tables.{unfit-word, unfit-kept}
use Rattle.query_bytes.proofs.Queries.{unfit-queried}
use Rattle.check_bytes.proofs.Checks.{check-unfit}

pub ruleset table_unfit = (unfit-word, unfit-kept)

pub ruleset query_unfit = (unfit-queried)

pub ruleset steps_unfit = (check-unfit)
