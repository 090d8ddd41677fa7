-- The members of an epoch with their boots, as bytes.
use Rattle.std.specs.Prelude.{ℕ, zero, suc, ◌+◌, ◌-◌, ◌==◌, ◌≡◌, cond, List, [], ◌∷◌, length, replicate, slice_set, Ok}
use Rattle.std.specs.List.{flat_map}
use Rattle.field_codec.specs.of_locus_ids.Sizes.{sites_max}
use Rattle.field_codec.specs.of_locus_ids.declared.sites.Members.{Members}
use Rattle.field_codec.specs.Codec.{Codec, u8, u8_in, pair, ◌>>=◌}
use Rattle.field_codec.specs.Lists.{counted}
use Rattle.wire_fields.specs.Parts.{numbers}

-- a member: its site and its boot
abbrev pub Entry : Type 0
Entry = ℕ × ℕ

-- a count, and so many members whose sites ascend
abbrev pub entries : Codec (List Entry)
entries = counted (λ least. pair (u8_in least sites_max) numbers) (λ _ entry. entry.0 + 1) u8 1

-- the members among these boots, of which the first is that of the site s; boot 0 is none
abbrev pub entries_from : ℕ → List ℕ → List Entry
entries_from s [] = []
entries_from s (boot ∷ boots) = cond (boot == 0) (entries_from (s + 1) boots) ((s, boot) ∷ entries_from (s + 1) boots)

-- the boots with those of the entries set
abbrev pub boots_with : List ℕ → List Entry → List ℕ
boots_with boots [] = boots
boots_with boots (e ∷ es) = boots_with (slice_set boots (e.0 - 1) e.1) es

abbrev pub members_of : List Entry → Members
members_of es = record { boot = boots_with (replicate sites_max 0) es }

abbrev pub entries_of : Members → List Entry
entries_of m = entries_from 1 m.boot

-- the members of an epoch, one by one; there are boots of just 16 sites
abbrev pub members : Codec Members
members = record {
  Fits = λ m. (length m.boot ≡ sites_max) × entries.Fits (entries_of m);
  spell = λ m. entries.spell (entries_of m);
  read = λ u. entries.read u >>= λ r. Ok (members_of r.0, r.1);
}

-- entries one behind the other
abbrev pub spelled_entries : List Entry → List ℕ
spelled_entries es = flat_map (pair u8 numbers).spell es
