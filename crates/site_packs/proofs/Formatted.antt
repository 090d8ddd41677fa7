-- One pack more is formatted, or none.
use Rattle.std.proofs.Common.{◌≡◌, ℕ, suc, ◌+◌, ◌*◌, ◌≤◌, true, List, ◌∷◌, get_or, refl, ap, subst, ◌∙◌, arith}
use Rattle.std.specs.Prelude.{Result, Ok, Err, OnOk}
use Rattle.locus_ids.specs.Sites.{has}
use Rattle.locus_ids.specs.declared.config.Config.{Config}
use Rattle.disk_model.specs.Disk.{Moment, Goes, Passing}
use Rattle.disk_model.specs.Images.{Torn}
use Rattle.disk_model.specs.Moments.{TellsMany}
use Rattle.disk_model.specs.declared.disk.DiskFault.{DiskFault}
use Rattle.disk_model.proofs.Moments.{goes_more, goes_wider}
use Rattle.disk_model.proofs.Tells.{tells_join}
use Rattle.gate_switch.proofs.Tearing.{torn_joins, torn_widens}
use Rattle.pack_layout.specs.Layout.{area_length, area_at}
use Rattle.role_steps.specs.Views.{pack_sites, all_groups}
use Rattle.site_packs.specs.Packs.{groups_at}
use Rattle.site_packs.specs.Formatting.{stored_among}
use Rattle.site_packs.proofs.NewPacks.{stored_first}

-- the place of the first area and the bytes of these
abbrev pub Within : ℕ → ℕ → List ℕ → List ℕ → Type 0
Within nth count old new = Torn (area_at nth) (area_length * count) old new

first_inside : (nth count : ℕ) (a b : List ℕ) → Torn (area_at nth) area_length a b → Within nth (suc count) a b
first_inside nth count a b torn = torn_widens (area_at nth) area_length (area_at nth) (area_length * suc count) (omega arith) (omega arith) a b torn

rest_inside : (nth count : ℕ) (a b : List ℕ) → Within (nth + 1) count a b → Within nth (suc count) a b
rest_inside nth count a b torn = torn_widens (area_at (nth + 1)) (area_length * count) (area_at nth) (area_length * suc count) (omega arith) (omega arith) a b torn

pub within_more : (nth count : ℕ) (a b c : List ℕ) → Torn (area_at nth) area_length a b → Within (nth + 1) count b c → Within nth (suc count) a c
within_more nth count a b c first rest = torn_joins (area_at nth) (area_length * suc count) a b c (first_inside nth count a b first) (rest_inside nth count b c rest)

module _ {D : Type 0} (moment : D → Moment) where
  pub goes_first : (nth count : ℕ) (old mid : D) → Goes (Torn (area_at nth) area_length) (moment old) (moment mid) → Goes (Within nth (suc count)) (moment old) (moment mid)
  goes_first nth count old mid goes = goes_wider moment (Torn (area_at nth) area_length) (Within nth (suc count)) old mid (first_inside nth count) goes

  pub goes_rest : (nth count : ℕ) (old mid new : D) → Goes (Torn (area_at nth) area_length) (moment old) (moment mid) → Goes (Within (nth + 1) count) (moment mid) (moment new) → Goes (Within nth (suc count)) (moment old) (moment new)
  goes_rest nth count old mid new first rest =
      goes_more moment (Within (nth + 1) count) (Within nth (suc count)) old mid new (rest_inside nth count) (torn_joins (area_at nth) (area_length * suc count)) (goes_first nth count old mid first) rest

pub tells_rest : (count : ℕ) (p q r : Passing) (result : Result (Unit {0}) DiskFault) → TellsMany {T = Unit {0}} {E = DiskFault} 131 p q (Ok tt) → TellsMany (131 * count) q r result → TellsMany (131 * suc count) p r result
tells_rest count p q r result first rest = let e : 131 + 131 * count ≡ 131 * suc count = omega arith in subst (λ (n : ℕ). TellsMany n p r result) e (tells_join 131 (131 * count) p q r result first rest)

-- ---- which groups are stored ----

pub stored_here : (c : Config) (site g : ℕ) (groups rest : List ℕ) → groups ≡ g ∷ rest → has (pack_sites c g) site ≡ true → stored_among c site groups ≡ g ∷ stored_among c site rest
stored_here c site g groups rest is has' = ap (λ (l : List ℕ). stored_among c site l) is ∙ stored_first c site g rest has'

-- each of the groups behind the first one is known
pub known_rest : (g : ℕ) (groups rest : List ℕ) → groups ≡ g ∷ rest → ((k : ℕ) → get_or groups k 0 ≤ 3) → (k : ℕ) → get_or rest k 0 ≤ 3
known_rest g groups rest is known k = subst (λ (l : List ℕ). get_or l (suc k) 0 ≤ 3) is (known (suc k))

pub on_ok_both : {T E : Type 0} (r : Result T E) (A B C : Type 0) → (A → B → C) → OnOk r A → OnOk r B → OnOk r C
on_ok_both (Ok x) A B C f a b = f a b
on_ok_both (Err e) A B C f a b = a

-- of all groups these are stored
pub stored_all : (c : Config) (site : ℕ) → stored_among c site all_groups ≡ groups_at c site
unfolding groups_at
stored_all c site = refl
