-- A page of a content as it is written.
use Rattle.std.specs.Prelude.{ℕ, List}
use Rattle.locus_ids.specs.Sizes.{page_bytes}
use Rattle.file_content.specs.Pages.{page_of}
use Rattle.shadow_pages.specs.Working.{padded}

-- a page of a content, with zeros behind its end
abbrev pub full_page : List ℕ → ℕ → List ℕ
full_page content i = padded page_bytes (page_of content i)
