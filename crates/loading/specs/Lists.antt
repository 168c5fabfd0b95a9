-- What loading asks and leaves, of the lists of uses as one value.
use Rattle.std.specs.Prelude.{List, ℕ}
use Rattle.rules.specs.declared.UseLists.{UseLists}
use Rattle.loading.specs.Loading.{NoUses, UsesLoaded}
use Rattle.loading.specs.Steps.{Room, Sources, UsesAdded}

abbrev pub NoUsesIn : UseLists → Type 0
NoUsesIn u = NoUses u.codes u.valid u.lists

abbrev pub UsesLoadedIn : List ℕ → ℕ → List ℕ → ℕ → UseLists → Type 0
UsesLoadedIn p n es count u = UsesLoaded p n es count u.codes u.valid u.lists

abbrev pub RoomIn : ℕ → UseLists → Type 0
RoomIn n u = Room n u.codes u.valid u.lists

abbrev pub UsesAddedIn : ℕ → Sources → UseLists → UseLists → Type 0
UsesAddedIn n New u u' = UsesAdded n New u.codes u.valid u.lists u'.codes u'.valid u'.lists
