-- The edition in a line. A text is a list of bytes.
use Rattle.std.specs.Prelude.{ℕ, List, []}
use Rattle.edition.specs.declared.Edition.{Edition}
use Rattle.edition.specs.rules.Edition.{by_edition}
use Rattle.text_number.specs.rules.Bytes.{ascii}

-- the crate's stays unsaid, as in a list's answers
unfoldable pub edition_text : Edition → List ℕ
edition_text edition = by_edition edition [] (ascii "edition          published\n")
