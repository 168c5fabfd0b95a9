-- Checking on bytes (document 01): it changes nothing.
use Rattle.std.specs.Prelude.{ℕ}
use Rattle.meaning.specs.Lists.{if}
use Rattle.file.specs.Refusals.{Outcome}
use Rattle.withdrawals.specs.Source.{Source}
use Rattle.asking.specs.Asking.{Request, StepLists}
use Rattle.checking.specs.Checking.{checking}
use Rattle.replies.specs.Interface.{not_whole, whole_steps, step_lists_in}

unfoldable pub check_reply : Source → Request → StepLists → ℕ → Outcome ℕ
check_reply f q b n = if (whole_steps b) (checking f q (step_lists_in b) n) (not_whole f 0)
