-- A slot's fields one after the other.
use Rattle.std.specs.Prelude.{ℕ, List, ◌∷◌, []}
use Rattle.locus_ids.specs.Sizes.{sites_max, slot_pages, content_tables_max}
use Rattle.locus_ids.specs.declared.ids.Kind.{Kind}
use Rattle.locus_ids.specs.declared.ids.Kind.TheVariants.{File, Dir}
use Rattle.locus_ids.specs.declared.ids.Stamp.{Stamp}
use Rattle.locus_ids.specs.declared.sites.Sites.{Sites}
use Rattle.field_codec.specs.Codec.{Codec, u8, u16, u32, u8_in, pair, made, exactly, empty, zeros}
use Rattle.field_codec.specs.Sums.{variant, kind, no_kind, tagged}
use Rattle.field_codec.specs.Lists.{list}
use Rattle.pack_layout.specs.declared.slot.Slot.{Slot}
use Rattle.pack_layout.specs.Layout.{layout, kind_number, open_gate}

-- just n items
abbrev pub repeated : {A : Type 0} → ℕ → Codec A → Codec (List A)
repeated n c = list (variant (λ _. n) (λ _. tt) empty) c

abbrev pub kinds : Codec Kind
kinds = tagged kind_number (kind 1 (variant (λ _. File) (λ _. tt) empty) (kind 2 (variant (λ _. Dir) (λ _. tt) empty) no_kind))

abbrev pub sets : Codec Sites
sets = made (λ n. record { 0 = n }) (λ s. s.0) u16

abbrev pub stamps : Codec Stamp
stamps = made (λ p. record { site = p.0; n = p.1 }) (λ t. (t.site, t.n)) (pair u8 u32)

abbrev pub Parts : Type 0
Parts = (Unit {0}) × (ℕ × (Kind × (ℕ × (Sites × (ℕ × (Stamp × (List ℕ × (List ℕ × (List ℕ × (Unit {0}))))))))))

abbrev pub slot_of : Parts → Slot
slot_of p = record {
  turn = p.1.0;
  kind = p.1.1.0;
  ino = p.1.1.1.0;
  set = p.1.1.1.1.0;
  size = p.1.1.1.1.1.0;
  stamp = p.1.1.1.1.1.1.0;
  vector = p.1.1.1.1.1.1.1.0;
  pages = p.1.1.1.1.1.1.1.1.0;
  tables = p.1.1.1.1.1.1.1.1.1.0;
}

abbrev pub parts_of : Slot → Parts
parts_of s = (tt, (s.turn, (s.kind, (s.ino, (s.set, (s.size, (s.stamp, (s.vector, (s.pages, (s.tables, tt))))))))))

abbrev pub slots : Codec Slot
slots = made slot_of parts_of (pair (exactly (open_gate ∷ [])) (pair (u8_in 0 2) (pair kinds (pair u16 (pair sets (pair u32 (pair stamps (pair (repeated sites_max u32) (pair (repeated slot_pages u16) (pair (repeated content_tables_max u16) (zeros layout.rest_length)))))))))))
