-- The numbers of pages that a list names.
use Rattle.std.specs.Prelude.{ℕ, nat_le}
use Rattle.field_codec.specs.Codec.{Codec, u16, within}

-- a number of a page that is at least this one
abbrev pub pages_from : ℕ → Codec ℕ
pages_from least = within (λ page. nat_le least page) u16
