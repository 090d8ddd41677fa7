-- What a switch leaves outside the area of its pack.
use Rattle.std.proofs.Common.{◌≡◌, inl, inr, ℕ, ◌+◌, ◌≤◌, ◌<◌, Bool, true, false, List, ◌∙◌, arith}
use Rattle.std.specs.Prelude.{Option, None, Some, if◌then◌else◌}
use Rattle.std.proofs.lemmas.Bool.Decides.{nat_tests}
use Rattle.locus_ids.specs.Sizes.{inodes_max}
use Rattle.disk_model.specs.Images.{is_within, Torn}
use Rattle.pack_layout.specs.declared.half.Half.{Half}
use Rattle.pack_layout.specs.Layout.{area_length, slot_at, other_half}
use Rattle.pack_layout.proofs.Halves.{half_most}
use Rattle.gate_switch.specs.Switch.{Piece}
use Rattle.gate_switch.specs.Switch.{TornIn, TornGate, IsStage, written}
use Rattle.inode_switch.specs.View.{is_open}
use Rattle.inode_switch.specs.Replace.{MayReplace, made_bytes, closing}
use Rattle.gate_switch.proofs.Pieces.{torn_written}
use Rattle.inode_switch.proofs.OldOrNew.{made_torn}

-- a place outside an area isn't one within it
apart_from : (base n at k : ℕ) → base ≤ at → at < base + n → is_within base n k ≡ false → is_within at 1 k ≡ false
apart_from base n at k low high out = grind (arith, nat_tests)

-- a torn gate of the area
pub gate_in_area : (base ino : ℕ) (half : Half) (old new : List ℕ) → 1 ≤ ino → ino ≤ inodes_max → Torn (slot_at base ino half) 1 old new → Torn base area_length old new
gate_in_area base ino half old new low high torn = record {
  long = torn.long;
  outside = λ k out. torn.outside k (apart_from base area_length (slot_at base ino half) k (omega arith) (omega (arith, half_most half)) out);
}

area_joins : (base : ℕ) (a b c : List ℕ) → Torn base area_length a b → Torn base area_length b c → Torn base area_length a c
area_joins base a b c first second = record {
  long = second.long ∙ first.long;
  outside = λ k out. second.outside k out ∙ first.outside k out;
}

module _ (base ino : ℕ) (half : Half) (pieces : List Piece) (old : List ℕ) (may : MayReplace base ino half pieces old) where
  pieces_in_area : (c : List ℕ) → TornIn pieces old c → Torn base area_length old c
  pieces_in_area c torn = record { long = torn.long; outside = λ k out. torn.outside k (may.inside k out) }

  after_pieces : Torn base area_length old (written old pieces)
  after_pieces = pieces_in_area (written old pieces) (torn_written pieces old may.within)

  after_gate : (c : List ℕ) → Torn (slot_at base ino half) 1 (written old pieces) c → Torn base area_length old c
  after_gate c torn = area_joins base old (written old pieces) c after_pieces (gate_in_area base ino half (written old pieces) c may.low may.high torn)

  after_old_gate : (c : List ℕ) (b : Bool) → (let o : Option ℕ = if b then Some (slot_at base ino (other_half half)) else None in TornGate o (made_bytes base ino half pieces old) c) → Torn base area_length old c
  after_old_gate c false torn = absurd torn
  after_old_gate c true torn =
      area_joins base old (made_bytes base ino half pieces old) c (after_gate (made_bytes base ino half pieces old) (made_torn base ino half pieces old may))
      (gate_in_area base ino (other_half half) (made_bytes base ino half pieces old) c may.low may.high torn)

  -- each stage leaves what is outside the area
  pub stage_in_area : (c : List ℕ) → IsStage pieces (slot_at base ino half) (closing base ino half old) old c → Torn base area_length old c
  stage_in_area c (inl torn) = pieces_in_area c torn
  stage_in_area c (inr (inl torn)) = after_gate c torn
  stage_in_area c (inr (inr torn)) = after_old_gate c (is_open old (slot_at base ino (other_half half))) torn
