-- The lists of uses as one value.
use Rattle.std.specs.Prelude.{replicate}
use Rattle.rules.specs.declared.UseLists.{UseLists}
use Rattle.rules.specs.Uses.{Listed, Formed}

-- lists without uses
abbrev pub no_uses : UseLists
no_uses = record { codes = replicate 1024 0; valid = replicate 512 0; lists = replicate 3106 0 }

-- the uses are listed
abbrev pub ListedIn : UseLists → Type 0
ListedIn u = Listed u.codes u.valid u.lists

-- and each body is one that a statement has
abbrev pub FormedIn : UseLists → Type 0
FormedIn u = Formed u.codes u.lists
