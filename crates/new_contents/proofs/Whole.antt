-- A page of a content as it is written: its bytes, with zeros behind its end, at one place.
use Rattle.std.proofs.Common.{◌≡◌, ℕ, ◌+◌, ◌-◌, ◌*◌, ◌<◌, ◌≤◌, replicate, List, [], ◌∷◌, ◌++◌, length, drop, get_or, ◌∙◌, ap, arith, length-take}
use Rattle.std.proofs.lemmas.List.{get_or-take, get_or-drop, append-nil}
use Rattle.locus_ids.specs.Sizes.{page_bytes}
use Rattle.file_content.specs.Pages.{page_of}
use Rattle.gate_switch.specs.Switch.{Piece, AreWithin}
use Rattle.shadow_pages.specs.Working.{padded}
use Rattle.shadow_pages.proofs.Bytes.{padded_at, length_padded}
use Rattle.new_contents.specs.Whole.{full_page}

pub long_page : (bytes : List ℕ) (i : ℕ) → length (full_page bytes i) ≡ page_bytes
long_page bytes i = omega (arith, length_padded page_bytes (page_of bytes i), length-take page_bytes (drop (page_bytes * i) bytes))

pub page_byte : (bytes : List ℕ) (i k : ℕ) → k < page_bytes → get_or (full_page bytes i) k 0 ≡ get_or bytes (page_bytes * i + k) 0
page_byte bytes i k lt = padded_at page_bytes (page_of bytes i) k ∙ get_or-take page_bytes (drop (page_bytes * i) bytes) k 0 lt ∙ get_or-drop (page_bytes * i) bytes k 0

-- a whole page has no zeros behind its end
pub padded_whole : (page : List ℕ) → page_bytes ≤ length page → padded page_bytes page ≡ page
padded_whole page le = let none : page_bytes - length page ≡ 0 = omega arith in ap (λ (n : ℕ). page ++ replicate n 0) none ∙ append-nil page

pub alone_within : (x : Piece) (n : ℕ) → AreWithin (x ∷ []) n → x.at + length x.bytes ≤ n
alone_within x n all = all 0 x (omega arith)
