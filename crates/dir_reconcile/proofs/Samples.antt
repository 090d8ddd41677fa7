-- Definitions compute.
use Rattle.std.proofs.Common.{◌≡◌, refl, List, ℕ, [], ◌∷◌, false, replicate, ◌-◌}
use Rattle.dir_format.specs.of_locus_ids.Sizes.{sites_max}
use Rattle.dir_format.specs.of_locus_ids.declared.ids.Kind.TheVariants.{File}
use Rattle.std.specs.Prelude.{codes}
use Rattle.dir_format.specs.declared.entry.Entry.{Entry}
use Rattle.dir_format.specs.Effects.{live_entry}
use Rattle.dir_reconcile.specs.Joins.{joined_dirs}
use Rattle.dir_reconcile.specs.Rescues.{rescued, rescue_wanted}

abbrev one_of_site_1 : List ℕ
one_of_site_1 = 1 ∷ replicate (sites_max - 1) 0

abbrev gone : Entry
gone = record { name = codes "n"; ino = 2; kind = File; count = 2; seen = one_of_site_1 }

joined : joined_dirs (live_entry (codes "n") 2 File 1 ∷ []) (gone ∷ []) ≡ gone ∷ []
joined = refl

both : joined_dirs (live_entry (codes "n") 129 File 1 ∷ []) (live_entry (codes "n") 2 File 1 ∷ []) ≡ live_entry (codes "n") 2 File 1 ∷ live_entry (codes "n") 129 File 1 ∷ []
both = refl

seen_all : rescue_wanted (gone ∷ []) (record { ino = 2; vector = one_of_site_1 } ∷ []) ≡ false
seen_all = refl

saved : rescued (gone ∷ []) (record { ino = 2; vector = 2 ∷ replicate (sites_max - 1) 0 } ∷ []) ≡ live_entry (codes "n") 2 File 3 ∷ []
saved = refl
