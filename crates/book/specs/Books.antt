-- What a book means.
use Rattle.std.specs.Prelude.{vec_items}
use Rattle.keeper.specs.Bounding.{kept}
use Rattle.keeper.specs.Keeping.{Keeping}
use Rattle.book.specs.declared.Book.{Book}
use Rattle.book.specs.Rows.{found}

-- the keeper within its bounds that holds what the rows do
abbrev pub keeping_of : Book → Keeping
keeping_of b = kept b.bounds (found (vec_items b.rows))
