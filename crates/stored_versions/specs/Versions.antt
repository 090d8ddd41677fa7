-- What may be said of a version that is kept.
use Rattle.std.specs.Prelude.{◌≡◌, ℕ, ◌-◌, ◌^◌, ◌<◌, ◌≤◌, ◌⊎◌, List, length, slice_index}
use Rattle.locus_ids.specs.Sizes.{sites_max, content_bytes_max}
use Rattle.locus_ids.specs.declared.ids.Stamp.{Stamp}
use Rattle.stored_versions.specs.declared.new_version.NewVersion.{NewVersion}

-- the name of a committed version, or 0.0 for what a format made
abbrev pub IsStamp : Stamp → Type 0
IsStamp t = ((t.site ≡ 0) × (t.n ≡ 0)) ⊎ ((1 ≤ t.site) × (t.site ≤ sites_max) × (1 ≤ t.n) × (t.n < 2 ^ 32))

-- a counter for each site, which agree with the stamp: that of its site is its number, and for 0.0 all are 0
pub record AgreesWith (t : Stamp) (v : List ℕ) : Type 0 where
  pub count : length v ≡ sites_max
  pub each : (i : ℕ) → slice_index v i < 2 ^ 32
  pub own : 1 ≤ t.site → slice_index v (t.site - 1) ≡ t.n
  pub none : t.site ≡ 0 → (i : ℕ) → slice_index v i ≡ 0

-- a new version with so many bytes: a set that isn't empty, and a stamp with its vector
pub record IsVersion (version : NewVersion) (bytes : ℕ) : Type 0 where
  pub some : 1 ≤ version.set.0
  pub most : bytes ≤ content_bytes_max
  pub named : IsStamp version.stamp
  pub agrees : AgreesWith version.stamp version.vector
