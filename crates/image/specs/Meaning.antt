-- The meaning of books in a lent memory.
use Rattle.std.specs.Prelude.{◌≡◌, ℕ, List, replicate, None}
use Rattle.std.specs.Borrow.{GName}
use Rattle.books.specs.Books.{BooksValue, Laws}
use Rattle.slots.specs.Cells.{celled}
use Rattle.slots.proofs.Celled.{celled_laws}
use Rattle.image.specs.Memory.{cells, past, SlotsExact}
use Rattle.image.specs.declared.image.Image.{Image}

-- the whole memory
abbrev pub bytes_of : Image → List ℕ
bytes_of m = m.bytes.now

-- the books of the rows that the slots hold
abbrev pub image_value : Image → BooksValue
image_value m = celled (cells (bytes_of m))

pub image_laws : (m : Image) → Laws (image_value m)
image_laws m = celled_laws (cells (bytes_of m))

abbrev pub bytes_past : Image → List ℕ
bytes_past m = past (bytes_of m)

-- the reference to the memory
abbrev pub lender : Image → GName
lender m = m.bytes.ghost_name

-- no row, in so many slots
abbrev pub no_rows : ℕ → BooksValue
no_rows n = celled (replicate n None)

-- The memory of an image: each slot is all zeros or exactly the bytes of a row, the rows are those of the books, and past
-- the slots is what was there.
pub record GivenBack (m : Image) (bs : List ℕ) : Type 0 where
  pub whole : bs ≡ bytes_of m
  pub exact : SlotsExact bs
  pub rows : celled (cells bs) ≡ image_value m
  pub rest : past bs ≡ bytes_past m
