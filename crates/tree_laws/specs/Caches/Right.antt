-- Pages in memory that are right, where a function tells which list is the content of a version of a file.
use Rattle.std.specs.Prelude.{ℕ, ◌≡◌, ◌*◌, List, [], ◌∷◌, length, take, drop, Option, Some}
use Rattle.locus_ids.specs.Sizes.{page_bytes}
use Rattle.locus_ids.specs.declared.ids.FileId.{FileId}
use Rattle.locus_ids.specs.declared.ids.Stamp.{Stamp}
use Rattle.page_cache.specs.declared.page_name.PageName.{PageName}
use Rattle.page_cache.specs.declared.part.Part.{Part}
use Rattle.page_cache.specs.Cached.{CachedPages}
use Rattle.page_cache.specs.Parts.{padded}

-- a page of a content, with zeros behind its end
abbrev pub page_in : List ℕ → ℕ → List ℕ
page_in content page = padded (take page_bytes (drop (page_bytes * page) content))

-- the bytes are that page of the version
pub record IsRight (contents : FileId → Stamp → Option (List ℕ)) (name : PageName) (bytes : List ℕ) : Type 0 where
  pub content : List ℕ
  pub is_content : contents name.file name.stamp ≡ Some content
  pub bytes_are : bytes ≡ page_in content name.page

-- each page is one of its version
abbrev pub AreRight : (FileId → Stamp → Option (List ℕ)) → CachedPages → Type 0
AreRight contents [] = Unit {0}
AreRight contents (e ∷ es) = IsRight contents e.0 e.1 × AreRight contents es

-- it is the content of the version of a part, with as many bytes as the part says
pub record HasContent (contents : FileId → Stamp → Option (List ℕ)) (p : Part) (content : List ℕ) : Type 0 where
  pub is_content : contents p.file p.stamp ≡ Some content
  pub size : length content ≡ p.size

-- what the content has of a part
abbrev pub bytes_of : Part → List ℕ → List ℕ
bytes_of p content = take p.len (drop p.at content)
