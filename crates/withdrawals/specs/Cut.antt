-- A period cut by withdrawals (document 02, Four).
use Rattle.std.specs.Prelude.{List, ℕ, zero, suc, min, eqb}
use Rattle.meaning.specs.Lists.{if}
use Rattle.meaning.specs.Credentials.{Period, Credential, ◌during◌}
use Rattle.withdrawals.specs.List.{count, serial_at, minute_at}

-- The minutes before the withdrawal's: the period ends where the withdrawal begins, unless it ended before. Where the withdrawal begins at or before `from`,
-- the period is empty.
abbrev pub cut : Period → ℕ → Period
cut v minute = record { from = v.from; until = min v.until minute }

-- a period by the first n withdrawals of a list: those of this serial cut it
abbrev pub cut_to : List ℕ → ℕ → Period → ℕ → Period
cut_to w serial v zero = v
cut_to w serial v (suc k) = if (eqb (serial_at w k) serial) (cut (cut_to w serial v k) (minute_at w k)) (cut_to w serial v k)

-- by all of them
abbrev pub cut_by : List ℕ → ℕ → Period → Period
cut_by w serial v = cut_to w serial v (count w)

-- a credential with its period cut
abbrev pub withdrawn : List ℕ → ℕ → Credential → Credential
withdrawn w serial c = c.statement during cut_by w serial c.period
