-- What differs between the editions, named side by side: the crate's first, Meeus's second.
use Rattle.edition.specs.declared.Edition.{Edition}
use Rattle.edition.specs.declared.Edition.TheVariants.{Crate, Published}

abbrev pub by_edition : {A : Type 0} → Edition → A → A → A
by_edition Crate a b = a
by_edition Published a b = b
